-- What was looked up in clients at one last seen zxid, whatever happened in between.
use Rattle.std.specs.Prelude.{ℤ, ◌≡◌}
use Rattle.zk_turns.specs.View.{View, Cache}
use Rattle.zk_nodes.specs.Path.{Text, path_of}
use Rattle.zk_nodes.specs.History.{Tree, History, tree_at, view as to_see}
use Rattle.zk_nodes.specs.declared.side.Side.TheVariants.{Data, Child}
use Rattle.zk_cache.specs.Kept.{Answer, Names, good}
use Rattle.zk_laws.specs.Server.{Fits, FitsNames}
use Rattle.zk_laws.specs.Messages.{from_zero}
use Rattle.zk_conclusions.specs.Seen.{IsServedAt, Is}

-- a good answer that was looked up: about the node of a path, or the names below it
pub data Look : Type 0 where
  Node_seen : Text → Answer → Look
  Names_seen : Text → Names → Look

-- it is kept and good
abbrev pub IsKept : Cache → Look → Type 0
IsKept cache (Node_seen path answer) = cache.nodes path ≡ good answer
IsKept cache (Names_seen path names) = cache.children path ≡ good names

-- the path that it is about
abbrev pub path_in : Look → Text
path_in (Node_seen path answer) = path
path_in (Names_seen path names) = path

-- A client that was served from the history at its path showed it, when its last seen zxid was this.
pub record WasShown (h : History) (zxid : ℤ) (look : Look) : Type 0 where
  pub view : View
  pub seen : IsServedAt (Is (path_in look)) h view
  pub at : view.saved.last ≡ zxid
  pub kept : IsKept view.cache look

-- it is what there is to see in the tree
abbrev pub IsOfTree : Tree → Look → Type 0
IsOfTree tree (Node_seen path answer) = Fits answer (to_see Data tree (path_of path))
IsOfTree tree (Names_seen path names) = FitsNames names (to_see Child tree (path_of path))

-- Whatever was looked up at one last seen zxid is of one tree: the history's at that zxid.
abbrev pub OneZxidIsOneTree : Type 0
OneZxidIsOneTree = (h : History) (zxid : ℤ) (look : Look) → WasShown h zxid look → IsOfTree (tree_at h (from_zero zxid)) look
