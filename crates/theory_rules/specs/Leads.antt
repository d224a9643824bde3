-- Where a server stands after a step, and what waits to be processed.
use Rattle.std.specs.Prelude.{ℕ, ◌≡◌, List, map}
use Rattle.zk_nodes.specs.Path.{NodePath}
use Rattle.zk_nodes.specs.History.{History}
use Rattle.zk_nodes.specs.declared.side.Side.{Side}
use Rattle.zk_turns.specs.Turns.{Start}
use Rattle.zk_turns.specs.Taken.{past_of}
use Rattle.zk_laws.specs.Server.{Watches}
use Rattle.zk_laws.specs.Messages.{Request}
use Rattle.zk_laws.specs.ServerSteps.{ServerEnd, Stage}
use Rattle.zk_laws.specs.Served.{Entry, items_in, wire_of, unread}

-- The server stands at this place, with these watches, at this stage.
pub record IsBehind (at : ℕ) (set : Watches) (stays : Stage) (server : ServerEnd) : Type 0 where
  pub place : server.place ≡ at
  pub watches : (side : Side) (path : NodePath) → server.watches side path ≡ set side path
  pub stage : server.stage ≡ stays

-- the requests of the newest connection that are not processed, in order
abbrev pub awaited : History → Start → List Entry → List Request
awaited h start entries = map (λ sent. sent.request) (unread start (past_of start (items_in entries)) (wire_of h entries))
