-- Where no place has a call that waits for its turn, there is no next one: `no_next`.
use Rattle.std.proofs.Common.{◌≡◌, ◌∙◌, None, Option, Some, not, false, ap, refl, sym}
use Rattle.std.specs.Prelude.{is_some}
use Rattle.zk_calls.proofs.Answering.{no_next}
use Rattle.zk_calls.proofs.line.Line.rests.Goals as goal

none_by : {X : Type 0} (place : Option X) → is_some place ≡ false → place ≡ None
none_by None e = refl
none_by (Some x) e = absurd cc

pub returns : goal.returns
returns g c = λ rests.
    sym (no_next c.args.self.now.entries.items
    (sym c.place_of_next.ensures ∙ none_by c.place_of_next.result (c.is_none.ensures ∙ ap not rests)))
