-- What the look-backs mean, in the words of watches: which reply leaves a watch, what ends it, and since when an answer is good.
use Rattle.std.specs.Prelude.{◌≡◌, ◌≤ℤ◌, ℕ, ℤ, Bool, true, false, List, [], ◌∷◌, ◌++◌, Option, ⊤, ◌⊎◌}
use Rattle.std.specs.List.{AllByRecursion}
use Rattle.zk_nodes.specs.Path.{Text}
use Rattle.zk_nodes.specs.declared.side.Side.{Side}
use Rattle.zk_nodes.specs.declared.side.Side.TheVariants.{Data, Child}
use Rattle.zk_nodes.specs.declared.stat.Stat.{Stat}
use Rattle.zk_nodes.specs.declared.data_stat.DataStat.{DataStat}
use Rattle.zk_nodes.specs.DataStats.{data_stat_of}
use Rattle.zk_conversation.specs.Questions.{Question, Exists, GetData, GetChildren, Close}
use Rattle.zk_conversation.specs.Results.{Result, NoNode, Found, Read, Listing}
use Rattle.zk_turns.specs.Turns.{Start}
use Rattle.zk_turns.specs.Past.{Past, Happening, Took, Halted, Replies, Watches_set, Notifies, Expiry}
use Rattle.zk_records.specs.Events.{concerns}

-- x is one of the list
abbrev pub Among : {A : Type 0} → A → List A → Type 0
Among x [] = ⊥
Among x (y ∷ ys) = (x ≡ y) ⊎ Among x ys

-- Which reply leaves a watch on which side of a path (Guide, "ZooKeeper Watches"): exists with a watch in any case, getData and
-- getChildren with a watch where the node is there.
abbrev pub LeavesWatch : Side → Text → Question → Result → Type 0
LeavesWatch Data path (Exists at true) NoNode = at ≡ path
LeavesWatch Data path (Exists at true) (Found stat) = at ≡ path
LeavesWatch Data path (GetData at true) (Read bytes stat) = at ≡ path
LeavesWatch Child path (GetChildren at true) (Listing listing stat) = at ≡ path
LeavesWatch _ _ _ _ = ⊥

-- What ends a good answer: a notice that is about that side of the path, an expiry, the reply to a close, a halt.
abbrev pub EndsGood : Side → Text → Happening → Type 0
EndsGood side path (Took (Notifies event at)) = (concerns event side ≡ true) × (at ≡ path)
EndsGood side path (Took Expiry) = ⊤
EndsGood side path (Took (Replies ticket Close zxid result)) = ⊤
EndsGood side path Halted = ⊤
EndsGood _ _ _ = ⊥

-- a reply that leaves a watch there
abbrev pub LeavesAt : Side → Text → Happening → Type 0
LeavesAt side path (Took (Replies ticket question zxid result)) = LeavesWatch side path question result
LeavesAt _ _ _ = ⊥

-- Some reply that was taken left a watch on that side of the path, and nothing has ended it since.
pub record IsGoodSince (side : Side) (path : Text) (past : Past) : Type 0 where
  pub since : List Happening
  pub reply : Happening
  pub before : Past
  pub whole : past ≡ since ++ reply ∷ before
  pub left : LeavesAt side path reply
  pub quiet : AllByRecursion (λ happening. ¬ EndsGood side path happening) since

-- A getData gave these data with these seven fields and left a watch, nothing has ended it since, and each later reply that left
-- a watch there gave the same seven fields and no data.
abbrev pub SaysSame : Text → DataStat → Happening → Type 0
SaysSame path fields (Took (Replies ticket question zxid result)) =
    LeavesWatch Data path question result → (stat : Stat) × (result ≡ Found stat) × (data_stat_of stat ≡ fields)
SaysSame path fields _ = ⊤

pub record HasData (path : Text) (bytes : Option (List ℕ)) (fields : DataStat) (past : Past) : Type 0 where
  pub since : List Happening
  pub ticket : ℕ
  pub zxid : ℤ
  pub stat : Stat
  pub before : Past
  pub whole : past ≡ since ++ Took (Replies ticket (GetData path true) zxid (Read bytes stat)) ∷ before
  pub gave : data_stat_of stat ≡ fields
  pub quiet : AllByRecursion (λ happening. ¬ EndsGood Data path happening) since
  pub same : AllByRecursion (SaysSame path fields) since

-- a zxid that counts: that of a reply to a call, or of the reply to the last part of a connection's setWatches
abbrev pub Counts : ℤ → Past → Type 0
Counts zxid past =
    ((ticket : ℕ) × (question : Question) × (result : Result) × Among (Took (Replies ticket question zxid result)) past)
    ⊎ Among (Took (Watches_set true zxid)) past

-- The greatest of the saved zxid and the zxids that count.
pub record IsLastSeen (start : Start) (past : Past) (last : ℤ) : Type 0 where
  pub saved : start.last ≤ℤ last
  pub counted : (zxid : ℤ) → Counts zxid past → zxid ≤ℤ last
  pub one : (last ≡ start.last) ⊎ Counts last past

-- the path is in the list at each of these moments, the last of which is before
abbrev pub StaysIn : (Text → Past → Bool) → Text → List Happening → Past → Type 0
StaysIn is_in path [] before = is_in path before ≡ true
StaysIn is_in path (happening ∷ since) before = (is_in path (happening ∷ since ++ before) ≡ true) × StaysIn is_in path since before

-- The path last came into a list by this happening, and has been in it since.
pub record CameIn (is_in : Text → Past → Bool) (path : Text) (past : Past) : Type 0 where
  pub since : List Happening
  pub by : Happening
  pub before : Past
  pub whole : past ≡ since ++ by ∷ before
  pub was_out : is_in path before ≡ false
  pub stays : StaysIn is_in path since (by ∷ before)

-- the one stands before the other
abbrev pub StandsBefore : Text → Text → List Text → Type 0
StandsBefore first second [] = ⊥
StandsBefore first second (path ∷ paths) = ((first ≡ path) × Among second paths) ⊎ StandsBefore first second paths
