-- What is told, by the actions that tell it: a test of the one is a test of the other, by induction on the actions.
use Rattle.std.proofs.Common.{◌≡◌, Bool, ◌||◌, List, [], ◌∷◌, refl, ap}
use Rattle.std.specs.List.{list_any}
use Rattle.zk_agent.specs.declared.action.Action.{Action}
use Rattle.zk_agent.specs.Telling.{Told, action_view, told_by}

-- a test of what is told is one of the actions
pub any_told : {A : Type 0} (test : Told → Bool) (actions : List (Action A))
    → list_any test (told_by actions) ≡ list_any (λ action. test (action_view action)) actions
any_told test [] = refl
any_told test (action ∷ actions) = ap (λ (b : Bool). test (action_view action) || b) (any_told test actions)
