-- Watches that are set again, path by path, in the words of the laws.
use Rattle.std.specs.Prelude.{ℕ, ℤ, pos, ◌≡◌, Bool, ◌||◌, ◌&&◌, if◌then◌else◌, List, [], ◌∷◌, ◌++◌, map, Option, Some, None, int_lt}
use Rattle.std.specs.List.{flat_map, AllByRecursion}
use Rattle.std.specs.Option.{option_map}
use Rattle.zk_jute.specs.Lenient.{or_empty}
use Rattle.zk_frames.specs.Frame.{frame}
use Rattle.zk_nodes.specs.Path.{Text, NodePath, path_eq, path_of}
use Rattle.zk_nodes.specs.History.{Node, Tree}
use Rattle.zk_nodes.specs.PathFault.{IsPath}
use Rattle.zk_nodes.specs.declared.side.Side.{Side}
use Rattle.zk_nodes.specs.declared.side.Side.TheVariants as sides
use Rattle.zk_nodes.specs.declared.stat.Stat.{Stat}
use Rattle.zk_records.specs.declared.event.Event.{Event}
use Rattle.zk_records.specs.declared.event.Event.TheVariants.{Created, Deleted, DataChanged, ChildrenChanged}
use Rattle.zk_records.specs.declared.set_watches.SetWatches.{SetWatches}
use Rattle.zk_watches.specs.Lists.{Lists}
use Rattle.zk_laws.specs.Server.{Watches, Notice, same_side, known_check, missing_check, parent_check, tells, both, part_tells, part_sets}
use Rattle.zk_laws.specs.Server.{AreSent}
use Rattle.zk_laws.specs.Messages.{Notifies, Watches_set}
use Rattle.zk_laws.specs.Served.{ArePayloads}
use Rattle.zk_bench.specs.declared.connection.Connection.{Connection}
use Rattle.zk_bench.specs.declared.rewatch.Watched.{Watched}
use Rattle.zk_bench.specs.declared.rewatch.Watched.TheVariants.{Data, Exist, Child}
use Rattle.zk_bench.specs.inner.Serving.{Tells, watched}

-- what was missed at a path with this Stat
abbrev pub missed_of : Watched → Option Stat → ℤ → Option Event
missed_of Data None relative = Some Deleted
missed_of Data (Some told) relative = if int_lt relative told.mzxid then Some DataChanged else None
missed_of Exist None relative = None
missed_of Exist (Some told) relative = Some Created
missed_of Child None relative = Some Deleted
missed_of Child (Some told) relative = if int_lt relative told.pzxid then Some ChildrenChanged else None

-- the check of a path of this list
abbrev pub check_of : Watched → ℕ → Option Node → Option Event
check_of Data relative node = known_check relative node
check_of Exist relative node = missing_check node
check_of Child relative node = parent_check relative node

-- the side on which a path of this list is watched
abbrev pub side_of : Watched → Side
side_of Data = sides.Data
side_of Exist = sides.Data
side_of Child = sides.Child

-- one watch more
abbrev pub with_watch : Side → NodePath → Watches → Watches
with_watch on at watches side path = watches side path || (same_side side on && path_eq path at)

-- a path at which nothing was missed is watched
abbrev pub watched_unless : Option Event → Side → NodePath → Watches → Watches
watched_unless None on at watches = with_watch on at watches
watched_unless (Some event) on at watches = watches

-- what paths of a list make a server tell
abbrev pub told_of : Watched → ℕ → Tree → List Text → List Notice
told_of list relative tree texts = flat_map (λ text. tells text (check_of list relative (tree (path_of text)))) texts

-- the watches after them
abbrev pub left_of : Watched → ℕ → Tree → List Text → Watches → Watches
left_of list relative tree [] watches = watches
left_of list relative tree (text ∷ texts) watches =
    left_of list relative tree texts (watched_unless (check_of list relative (tree (path_of text))) (side_of list) (path_of text) watches)

-- the texts as they were sent, where null counts as the empty one
abbrev pub texts_in : List (Option (List ℕ)) → List Text
texts_in texts = map or_empty texts

-- What was missed at paths of a list is sent, and the others are watched.
pub record Rewatches (list : Watched) (relative : ℕ) (tree : Tree) (texts : List Text) (before behind : Watches)
    (old new : List ℕ) : Type 0 where
  pub tells : Tells (told_of list relative tree texts) old new
  pub left : behind ≡ left_of list relative tree texts before

-- A part of setWatches is answered from a tree: what was missed is sent, and then the reply under the xid and the zxid.
pub record RestoresPart {A : Type 0} (tree : Tree) (zxid : ℕ) (xid : ℤ) (relative : ℕ) (part : Lists)
    (old new : Connection A) : Type 0 where
  pub sent : List Notice
  pub admitted : AreSent (part_tells relative tree part) sent
  pub payloads : List (List ℕ)
  pub spelled : (is_last : Bool) → ArePayloads xid (map Notifies sent ++ Watches_set is_last zxid ∷ []) payloads
  pub output : new.output.items ≡ old.output.items ++ flat_map frame payloads
  pub left : watched new.watches ≡ both (watched old.watches) (part_sets relative tree part)
  pub rest : new ≡ record old { watches = new.watches; output = new.output }

-- The request has this relative zxid and these paths.
pub record IsPart {A : Type 0} (request : SetWatches A) (since : ℕ) (part : Lists) : Type 0 where
  pub relative : request.relative_zxid ≡ pos since
  pub data_watches : option_map (λ v. v.items) request.data_watches.elements ≡ Some (map Some part.data_watches)
  pub exist_watches : option_map (λ v. v.items) request.exist_watches.elements ≡ Some (map Some part.exist_watches)
  pub child_watches : option_map (λ v. v.items) request.child_watches.elements ≡ Some (map Some part.child_watches)

-- each text is that of a path
pub record ArePaths (part : Lists) : Type 0 where
  pub data_watches : AllByRecursion IsPath part.data_watches
  pub exist_watches : AllByRecursion IsPath part.exist_watches
  pub child_watches : AllByRecursion IsPath part.child_watches
