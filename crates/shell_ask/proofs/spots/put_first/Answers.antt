-- What is put at the end, the last first, is next (`waiting_first`): from what `reverse` and `append` ensure, by the case of the result.
use Rattle.std.proofs.Common.{◌≡◌, ◌++◌, ◌∙◌, List, map, reverse, if◌then◌else◌, is_ok, Result, Ok, Err, OnOk, ap}
use Rattle.shell_ask.specs.declared.spots.Spot.{Spot as Place}
use Rattle.shell_ask.specs.inner.Trees.{spot_view, waiting_view}
use Rattle.shell_ask.proofs.Walking.{waiting_first}
use Rattle.shell_ask.proofs.spots.put_first.Goals as goal

put : {A T E : Type 0} (r : Result T E) (old spots turned new : List (Place A))
    → turned ≡ reverse spots → new ≡ (if is_ok r then old ++ turned else old)
    → OnOk r (waiting_view new ≡ map spot_view spots ++ waiting_view old)
put (Ok x) old spots turned new turns is = ap waiting_view (is ∙ ap (λ l. old ++ l) turns) ∙ waiting_first old spots
put (Err e) old spots turned new turns is = tt

pub returns : goal.returns
returns g c = put c.append.result c.args.waiting.now.items c.args.spots.items c.reverse.new.self.items c.append.new.self.items
    c.reverse.ensures.items c.append.ensures.items
