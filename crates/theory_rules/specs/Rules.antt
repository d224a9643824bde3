-- Rules of a client in words of their own.
use Rattle.std.specs.Prelude.{◌≡◌, ◌≢◌, ◌⊎◌, List, [], ◌∷◌, ◌++◌, Option, Some}
use Rattle.std.specs.List.{AllByRecursion, flat_map}
use Rattle.zk_session.specs.declared.states.State.{State}
use Rattle.zk_session.specs.declared.states.State.TheVariants.{Idle, Connecting, Connected, Expired, Closed}
use Rattle.zk_conversation.specs.Questions.{Close}
use Rattle.zk_turns.specs.Turns.{Output, Enters}
use Rattle.zk_cache.specs.Kept.{good}
use Rattle.zk_cache.specs.declared.held.Kept.{Kept}
use Rattle.zk_cache.specs.declared.held.Mark.TheVariants.{Stale}
use Rattle.zk_turns.specs.Past.{Happening, Began, Lost, Forgot, Took, Dropped, Accepted, Expiry, Replies, Past, Word, Ends, Nothing}

-- the answer, marked stale
abbrev pub as_stale : {A : Type 0} → A → Option (Kept A)
as_stale answer = Some (record { answer = answer; mark = Stale })

-- A further notice, or what says nothing of that side of the path, except for forgetting.
abbrev pub LeavesStale : {A : Type 0} → (Happening → Word A) → Happening → Type 0
LeavesStale word happening = (word happening ≡ Ends) ⊎ ((word happening ≡ Nothing) × (happening ≢ Forgot))

-- The answer was good when a notice ended that, and since then nothing was read there and nothing was taken out.
pub record IsStaleSince {A : Type 0} (word : Happening → Word A) (kept : Past → Option (Kept A)) (past : Past) (answer : A) : Type 0 where
  pub since : List Happening
  pub notice : Happening
  pub before : Past
  pub whole : past ≡ since ++ notice ∷ before
  pub ended : word notice ≡ Ends
  pub was_good : kept before ≡ good answer
  pub stays : AllByRecursion (LeavesStale word) since

-- the states that are told, in order
abbrev pub entered : Output → List State
entered (Enters state) = state ∷ []
entered _ = []

abbrev pub states_in : List Output → List State
states_in outputs = flat_map entered outputs

-- The state that a happening brings, if it brings one: a connection begins, and is accepted; the session expires, and is closed; a
-- connection is given up, and is lost.
abbrev pub brings : Happening → List State
brings Began = Connecting ∷ []
brings (Took (Accepted welcome)) = Connected ∷ []
brings (Took Expiry) = Expired ∷ []
brings (Took (Replies ticket Close zxid result)) = Closed ∷ []
brings (Dropped fault) = Idle ∷ []
brings Lost = Idle ∷ []
brings _ = []

-- the state after one that brings these
abbrev pub brought : List State → State → State
brought [] before = before
brought (state ∷ more) before = state
