-- Whether the session holds the first place in a directory.
use Rattle.std.specs.Prelude.{◌⊎◌, IsSome, ℕ, zero, suc, ℤ, negsuc, List, Option, Some, None}
use Rattle.std.specs.Str.{IsUtf8}
use Rattle.zk_nodes.specs.Path.{Text, path_of}
use Rattle.zk_nodes.specs.PathFault.{IsPath, fault_of}
use Rattle.zk_nodes.specs.History.{History}
use Rattle.zk_turns.specs.View.{View}
use Rattle.zk_conclusions.specs.Holders.{IsHolder, ShowsHolder}
use Rattle.zk_conclusions.specs.Seen.{IsEither, IsServedAt, tree_seen}

-- The session holds by the node of the path, which has the token: as the client shows it, and under servers of a history so there at the
-- last seen zxid.
pub record HoldsFirst (view : View) (directory prefix path : Text) (token : ℤ) : Type 0 where
  pub shows : ShowsHolder view directory prefix path token
  pub holds : (h : History)
      → IsServedAt (IsEither directory path) h view
      → IsHolder (tree_seen h view) (path_of directory) prefix (path_of path) view.saved.session.session token

-- It holds by this token, or none is shown.
abbrev pub TellsHolder : View → (directory prefix path : Text) → Option ℤ → Type 0
TellsHolder view directory prefix path (Some token) = HoldsFirst view directory prefix path token
TellsHolder view directory prefix path None = (token : ℤ) → ¬ (ShowsHolder view directory prefix path token)

-- These bytes are a path, a text and a path.
pub record ArePlace (directory prefix path : List ℕ) : Type 0 where
  pub above : IsPath directory
  pub text : IsUtf8 prefix
  pub below : IsPath path

-- what is refused: -2 if the directory is a path and the prefix a text; -4 if one of them is no UTF-8; and -5 if the directory or
-- the path is no path
abbrev pub RefusesHolder : (directory prefix path : List ℕ) → ℤ → Type 0
RefusesHolder directory prefix path (negsuc (suc zero)) = IsPath directory × IsUtf8 prefix
RefusesHolder directory prefix path (negsuc (suc (suc (suc zero)))) = ¬ (IsUtf8 directory) ⊎ (¬ (IsUtf8 prefix) ⊎ ¬ (IsUtf8 path))
RefusesHolder directory prefix path (negsuc (suc (suc (suc (suc zero))))) = IsSome (fault_of directory) ⊎ IsSome (fault_of path)
RefusesHolder directory prefix path code = ⊥
