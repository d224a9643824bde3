-- When what is kept and good may change, by what a client says.
use Rattle.std.specs.Prelude.{ℕ, ◌≡◌, ◌↔◌, ◌<◌, ◌+◌, ◌-◌, ◌^◌, min, ⊤, Bool, true, false, List, [], ◌∷◌, ◌++◌, if◌then◌else◌}
use Rattle.std.specs.List.{list_any}
use Rattle.zk_nodes.specs.Path.{Text}
use Rattle.zk_cache.specs.Kept.{without_stale}
use Rattle.zk_turns.specs.Meaning.{Among}
use Rattle.zk_turns.specs.Turns.{Start, Item, Turned, Forgets, Halts, Output, Answer, Replied, Report, Enters}
use Rattle.zk_turns.specs.View.{View, Cache}
use Rattle.zk_turns.specs.Rule.{Stands}
use Rattle.zk_conclusions.specs.Snapshots.{is_whole}
use Rattle.zk_conclusions.specs.Walks.{IsWalk}
use Rattle.zk_conclusions.specs.Lacks.{AreLacking, HasWalk, lacks_data, lacks_names}

-- ---- the number

-- whether what is kept and good may change with an output: the reply to a call, a report, another state
abbrev pub is_change : Output → Bool
is_change (Answer ticket (Replied zxid result)) = true
is_change (Report path side event) = true
is_change (Enters state) = true
is_change _ = false

abbrev pub has_change : List Output → Bool
has_change outputs = list_any is_change outputs

-- one more, up to the last number of 64 bits
abbrev pub raised : ℕ → ℕ
raised number = min (number + 1) (2 ^ 64 - 1)

-- the number after these outputs: one more where they have such a one
abbrev pub noted : List Output → ℕ → ℕ
noted outputs number = if has_change outputs then raised number else number

-- ---- what is the same

-- What is kept and good is the same in both, at each path and on both sides.
pub record SameGood (one other : Cache) : Type 0 where
  pub nodes : (path : Text) → without_stale (one.nodes path) ≡ without_stale (other.nodes path)
  pub children : (path : Text) → without_stale (one.children path) ≡ without_stale (other.children path)

-- The same of two views, with the state and the session.
pub record IsUnchanged (before after : View) : Type 0 where
  pub good : SameGood before.cache after.cache
  pub standing : after.standing ≡ before.standing
  pub session : after.saved.session ≡ before.saved.session

-- Turns that say nothing of that kind; stale answers may have been forgotten between them. The newest is the first.
abbrev pub AreQuiet : List Item → Type 0
AreQuiet [] = ⊤
AreQuiet (Turned turn ∷ items) = (has_change turn.outputs ≡ false) × AreQuiet items
AreQuiet (Forgets ∷ items) = AreQuiet items
AreQuiet (Halts ∷ items) = ⊥

-- The number after turns, of which each is noted; a halt raises it.
abbrev pub number_after : ℕ → List Item → ℕ
number_after number [] = number
number_after number (Turned turn ∷ items) = noted turn.outputs (number_after number items)
number_after number (Forgets ∷ items) = number_after number items
number_after number (Halts ∷ items) = raised (number_after number items)

-- Where a client comes through turns that say nothing of that kind, what is kept and good stays as it is, and no other becomes good.
abbrev pub QuietIsUnchanged : Type 0
QuietIsUnchanged = (start : Start) (more items : List Item) (view after : View) → Stands start items view
    → Stands start (more ++ items) after → AreQuiet more
    → IsUnchanged view after

-- So it is where the number is the same, and not yet the last one.
abbrev pub SameNumberIsUnchanged : Type 0
SameNumberIsUnchanged = (start : Start) (more items : List Item) (view after : View) (number : ℕ) → Stands start items view
    → Stands start (more ++ items) after
    → number < 2 ^ 64 - 1 → number_after number more ≡ number → IsUnchanged view after

-- ---- what is concluded from it

-- a node of a walk is kept as in the other, and so are the names below it
abbrev pub SameAt : (one other : Cache) → Text → Type 0
SameAt one other path = (one.nodes path ≡ other.nodes path) × (one.children path ≡ other.children path)

-- The same is concluded from both: of the same paths there is a snapshot, a subtree has the same paths with the same answers, and the same
-- is lacking.
pub record ShowsTheSame (one other : Cache) : Type 0 where
  pub whole : (nodes parents : List Text) → is_whole one nodes parents ≡ is_whole other nodes parents
  pub walk : (root : Text) (paths : List Text) → IsWalk one root paths ↔ IsWalk other root paths
  pub has : (root : Text) (most : ℕ) → HasWalk one root most ↔ HasWalk other root most
  pub entries : (root : Text) (paths : List Text) → IsWalk one root paths → (path : Text) → Among path paths → SameAt one other path
  pub unread : (root : Text) (paths : List Text)
      → AreLacking one root (lacks_data one) paths ↔ AreLacking other root (lacks_data other) paths
  pub unlisted : (root : Text) (paths : List Text)
      → AreLacking one root (lacks_names one) paths ↔ AreLacking other root (lacks_names other) paths

abbrev pub SameGoodShowsTheSame : Type 0
SameGoodShowsTheSame = (one other : Cache) → SameGood one other → ShowsTheSame one other
