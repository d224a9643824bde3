-- What contracts of private functions say: nobody has to believe it.
use Rattle.std.specs.Prelude.{◌≡◌, ◌<◌, ◌≤◌, ◌⊎◌, ◌++◌, ℕ, List, [], length, slice_index_or}
use Rattle.std.specs.List.{FoldsTo}
use Rattle.zk_conversation.specs.Pending.{Pending}
use Rattle.zk_turns.specs.Turns.{Output, Turn}
use Rattle.zk_turns.specs.View.{View}
use Rattle.zk_turns.specs.Rule.{Rule}
use Rattle.zk_follow.specs.declared.reads.TheConstants.{MOST_READS}
use Rattle.zk_follow.specs.declared.subject.Subject.{Subject}
use Rattle.zk_follow.specs.Following.{outputs_in, AreReads, IsVisited, Visits}

-- Calls were asked, and nothing else has happened to a client.
pub record Asks (view after : View) : Type 0 where
  pub standing : after.standing ≡ view.standing
  pub cache : after.cache ≡ view.cache
  pub lists : after.lists ≡ view.lists
  pub more : List Pending
  pub pending : after.pending ≡ view.pending ++ more

-- A visit, and what is said by then. Where it asks, no more subjects count as being read than may be at once.
abbrev pub VisitsAnd : {A : Type 0} → (now : ℕ) → View → List Output → (reads : ℕ) → Subject A → View → List Output → (reads_after : ℕ)
    → Subject A → Type 0
VisitsAnd now view given reads subject after given_after reads_after new =
    (calls : List Turn) × Visits now view subject calls after new × (given_after ≡ given ++ outputs_in calls)
    × (((calls ≡ []) × (reads_after ≡ reads)) ⊎ (reads_after ≤ MOST_READS))

-- Calls that read subjects, one after the other, and no other turn. After them this many subjects count as being read.
pub record Reads {A : Type 0} (subjects : List (Subject A)) (view : View) (given : List Output) (after : View)
    (given_after : List Output) (reads_after : ℕ) : Type 0 where
  pub calls : List Turn
  pub chain : FoldsTo Rule view calls after
  pub reads : AreReads subjects calls
  pub said : given_after ≡ given ++ outputs_in calls
  pub room : (calls ≡ []) ⊎ (reads_after ≤ MOST_READS)

-- each of these was visited
abbrev pub AreSeen : {A : Type 0} → (now : ℕ) → (old new : List (Subject A)) → Type 0
AreSeen {A} now old new = (k : ℕ) (d : Subject A) → k < length old → IsVisited now (slice_index_or old k d) (slice_index_or new k d)
