-- A side on which the event ended a watch gets a report of the text that the registry kept; another side gets none.
use Rattle.std.proofs.Common.{◌≡◌, Bool, true, false, List, [], ◌∷◌, ◌++◌, Option, Some, None, unwrap_or, is_some, if◌then◌else◌, refl, ap}
use Rattle.std.proofs.Common.{sym, ◌∙◌, append_assoc, true≢false}
use Rattle.std.proofs.lemmas.List.{append-nil}
use Rattle.zk_nodes.specs.Path.{Text}
use Rattle.zk_nodes.specs.declared.side.Side.{Side}
use Rattle.zk_nodes.specs.declared.side.Side.TheVariants.{Data, Child}
use Rattle.zk_records.specs.declared.event.Event.{Event}
use Rattle.zk_turns.specs.Turns.{Output, Report}

abbrev reports : Side → Event → Bool → Text → List Output
reports side event fired path = if fired then Report path side event ∷ [] else []

-- what is given of a side on which the event ended a watch, and on which it ended none
abbrev given : Bool → Text → Option Text
given fired path = if fired then Some path else None

reported : (side : Side) (event : Event) (watched : Option Text) (text : Text) (fired : Bool) (path : Text)
    → watched ≡ Some text → watched ≡ given fired path → reports side event true text ≡ reports side event fired path
reported side event watched text true path is told = ap (λ o. reports side event true (unwrap_or o [])) (sym is ∙ told)
reported side event watched text false path is told = absurd (true≢false (ap is_some (sym is ∙ told)))

unreported : (side : Side) (event : Event) (watched : Option Text) (fired : Bool) (path : Text)
    → watched ≡ None → watched ≡ given fired path → [] ≡ reports side event fired path
unreported side event watched true path is told = absurd (true≢false (ap is_some (sym told ∙ is)))
unreported side event watched false path is told = refl

-- The text that was given is said, and is that of the path.
pub said_once : (side : Side) (event : Event) (watched : Option Text) (text : Text) (before now : List Output)
    → watched ≡ Some text → now ≡ before ++ reports side event true text
    → (fired : Bool) (path : Text) → watched ≡ given fired path → now ≡ before ++ reports side event fired path
said_once side event watched text before now is one fired path told =
    one ∙ ap (λ (l : List Output). before ++ l) (reported side event watched text fired path is told)

-- Where none was given, nothing is said.
pub said_nothing : (side : Side) (event : Event) (watched : Option Text) (before : List Output)
    → watched ≡ None → (fired : Bool) (path : Text) → watched ≡ given fired path → before ≡ before ++ reports side event fired path
said_nothing side event watched before is fired path told =
    sym (append-nil before) ∙ ap (λ (l : List Output). before ++ l) (unreported side event watched fired path is told)

-- One side is told after the other.
pub said_both : (event : Event) (path : Text) (of_data of_names : Bool) (before between now : List Output)
    → between ≡ before ++ reports Data event of_data path → now ≡ between ++ reports Child event of_names path
    → now ≡ before ++ (reports Data event of_data path ++ reports Child event of_names path)
said_both event path of_data of_names before between now one two =
    two ∙ ap (λ (l : List Output). l ++ reports Child event of_names path) one
    ∙ append_assoc before (reports Data event of_data path) (reports Child event of_names path)
