-- Of which histories a client may show something, and at which paths.
use Rattle.zk_nodes.specs.Path.{Text}
use Rattle.zk_nodes.specs.History.{Tree, History, IsHistory, tree_at}
use Rattle.std.specs.Prelude.{List, ◌≡◌, ◌⊎◌}
use Rattle.zk_turns.specs.Turns.{Start, Item}
use Rattle.zk_turns.specs.View.{View}
use Rattle.zk_turns.specs.Rule.{Stands}
use Rattle.zk_laws.specs.Served.{Served}
use Rattle.zk_laws.specs.Messages.{from_zero}
use Rattle.theory_local.specs.LocalServed.{ServedAt}

-- This is a history, and a client that shows this view has come through its items under servers that hold beginnings of it and keep to
-- the model at these paths.
pub record IsServedAt (P : Text → Type 0) (h : History) (view : View) : Type 0 where
  pub start : Start
  pub items : List Item
  pub stands : Stands start items view
  pub history : IsHistory h
  pub served : ServedAt P h start items

-- this path alone, and either of two
abbrev pub Is : Text → Text → Type 0
Is this path = path ≡ this

abbrev pub IsEither : Text → Text → Text → Type 0
IsEither this that path = (path ≡ this) ⊎ (path ≡ that)

-- The same, where they keep to it at all paths.
pub record IsServedFrom (h : History) (view : View) : Type 0 where
  pub start : Start
  pub items : List Item
  pub stands : Stands start items view
  pub history : IsHistory h
  pub served : Served h start items

-- the tree of the history at the client's last seen zxid
abbrev pub tree_seen : History → View → Tree
tree_seen h view = tree_at h (from_zero view.saved.last)
