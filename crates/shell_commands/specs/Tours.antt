-- The tree that a command line asks for, and what is printed and told of it.
use Rattle.std.specs.Prelude.{◌≡◌, ℕ, List}
use Rattle.std.specs.Global.{Global}
use Rattle.zk_link.specs.FarEnds.{FarEnd}
use Rattle.clap.specs.Words.{Text}
use Rattle.shell_ask.specs.Trees.{Ending, Scope, Tours, ending_end, ending_told, tree_text}
use Rattle.shell_commands.specs.Asks.{status_of}
use Rattle.shell_commands.specs.declared.command.Tour.{Tour}
use Rattle.shell_commands.specs.declared.status.Status.{Status}

abbrev pub scope_of : Tour → Scope
scope_of tour = record { path = tour.path; name = tour.name; deepest = tour.deepest; most = tour.most; wait_ms = tour.wait_ms }

-- A driver goes through the tree to this ending, and this is printed of it.
pub record PrintsTree (far : FarEnd) (tour : Tour) (ending : Ending) (text : List ℕ) : Type 0 where
  pub printed : List Text
  pub tours : Tours Global far (scope_of tour) ending printed
  pub prints : text ≡ tree_text tour.form printed

-- A driver goes through the tree to an ending by which it is not done, and this is told.
pub record TellsTree (far : FarEnd) (tour : Tour) (status : Status) (told : List ℕ) : Type 0 where
  pub ending : Ending
  pub printed : List Text
  pub tours : Tours Global far (scope_of tour) ending printed
  pub ends : status ≡ status_of (ending_end ending)
  pub tells : told ≡ ending_told tour.name tour.most ending
