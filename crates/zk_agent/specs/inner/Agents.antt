-- What contracts of private functions say: nobody has to believe it.
use Rattle.std.specs.Prelude.{◌≡◌, ◌<◌, ◌==◌, All, ⊤, ℕ, Bool, true, false, List, [], Option}
use Rattle.std.specs.Prelude.{Some, None, ◌∷◌}
use Rattle.std.specs.List.{flat_map}
use Rattle.zk_conversation.specs.Calls.{Call}
use Rattle.zk_session.specs.declared.states.State.{State}
use Rattle.zk_session.specs.States.{is_final}
use Rattle.zk_turns.specs.Turns.{Input}
use Rattle.zk_turns.specs.View.{View}
use Rattle.zk_dialler.specs.Dialling.{has_come, is_open}
use Rattle.zk_trees.specs.Tending.{TreeTold}
use Rattle.zk_follow.specs.declared.subject.Subject.{Subject}
use Rattle.zk_calls.specs.declared.entry.Entry.{Entry}
use Rattle.zk_calls.specs.Lines.{first_handed, next_call}
use Rattle.zk_agent.specs.declared.replies.Heard.{Heard}
use Rattle.zk_agent.specs.inner.Calls.{how_many_wait, IsDone}
use Rattle.zk_agent.specs.Calls.{IsInTime}
use Rattle.zk_agent.specs.Telling.{Told}
use Rattle.zk_agent.specs.Agents.{Trail, Move, Asks, Tends, TakesSo, ends_of, Comes}
use Rattle.zk_turns.specs.Turns as turns

-- what is told of trees with a move
abbrev pub tends_of : Move → List TreeTold
tends_of (Tends one) = one ∷ []
tends_of _ = []

abbrev pub tended_in : List Move → List TreeTold
tended_in moves = flat_map tends_of moves

-- Moves, of which none tends a tree: nothing is told of trees meanwhile.
pub record Acts {A : Type 0} (now : ℕ) (given : List Move) (old new : Trail A) : Type 0 where
  pub comes : Comes now given old new
  pub untended : tended_in comes.moves ≡ []

-- what is heard and no call
abbrev pub MayTake : Input → (is_open : Bool) → Type 0
MayTake turns.Opened is_open = is_open ≡ true
MayTake (turns.Bytes bytes) is_open = is_open ≡ true
MayTake (turns.Call ticket asked) is_open = ⊥
MayTake _ is_open = ⊤

-- The call is handed over whose turn it is, if there is one.
abbrev pub HandsOver : {A : Type 0} → (now : ℕ) → View → List (Subject A) → List (Entry A) → List Told → View → List (Subject A)
    → List (Entry A) → List Told → Option Heard → Type 0
HandsOver now view subjects line told new_view new_subjects new_line new_told None =
    (next_call line ≡ None) × (new_view ≡ view) × (new_subjects ≡ subjects) × (new_line ≡ line) × (new_told ≡ told)
HandsOver now view subjects line told new_view new_subjects new_line new_told (Some heard) =
    (ticket : ℕ) × (asked : Call) × (next_call line ≡ Some (ticket, asked))
    × TakesSo now (turns.Call ticket asked) view subjects (first_handed line) told new_view new_subjects new_line new_told heard

-- Calls are handed over, at most one: no limit comes with it, and no end of the session. Another one may be where fewer wait for their
-- turn; else none waits, or none can be handed over.
pub record Sends {A : Type 0} (now : ℕ) (old new : Trail A) (goes_on : Bool) : Type 0 where
  pub acts : Acts now [] old new
  pub limits : All (IsInTime now) old.line → All (IsInTime now) new.line
  pub ends : (state : State) → is_final state ≡ true → new.view.standing.state ≡ state → old.view.standing.state ≡ state
  pub more : goes_on ≡ true → how_many_wait new.line < how_many_wait old.line
  pub none : goes_on ≡ false → IsDone new.view new.line

-- A server that has not answered in time is left, and no other. No limit comes with that, no end of the session, and no call; and nothing
-- waits for too long after it.
pub record LeavesIfLate {A : Type 0} (now : ℕ) (old new : Trail A) : Type 0 where
  pub acts : Acts now [] old new
  pub limits : All (IsInTime now) old.line → All (IsInTime now) new.line
  pub ends : (state : State) → is_final state ≡ true → new.view.standing.state ≡ state → old.view.standing.state ≡ state
  pub done : IsDone old.view old.line → IsDone new.view new.line
  pub none : old.line ≡ [] → new.line ≡ []
  pub answers : has_come now (ends_of new) ≡ false

-- how many calls of this ticket an input asks, and how many are settled
abbrev pub asks_for : (ticket : ℕ) → Move → Bool
asks_for ticket (Asks its asked until) = its == ticket
asks_for ticket _ = false
