-- Of the loop over the changes. At its end none is left, so the notices of all were told, and the watches are those that all leave.
-- The output still begins with what it was, so where a change fails it is cut back to that.
use Rattle.std.proofs.Common.{◌≡◌, ◌++◌, map, take, drop, length, List}
use Rattle.zk_history.specs.Made.{change_of}
use Rattle.zk_laws.specs.Server.{Notice, fires_all, leaves_set_all}
use Rattle.zk_bench.specs.inner.Serving.{watched, Tells}
use Rattle.zk_bench.proofs.notices.tell_changes.Given as goal

-- what was fired so far, with what the changes that are left fire, is what all changes fire
abbrev pub invariant-loop-change : goal.invariant-loop-change
invariant-loop-change g l = record {
  fired : List Notice;
  tells : Tells fired l.initial.connection.output.items l.connection.output.items;
  all : fires_all (map change_of l.changes) (watched l.initial.connection.watches)
      ≡ fired ++ fires_all (map change_of (drop l.change-index l.changes)) (watched l.connection.watches);
  left : leaves_set_all (map change_of l.changes) (watched l.initial.connection.watches)
      ≡ leaves_set_all (map change_of (drop l.change-index l.changes)) (watched l.connection.watches);
  rest : l.connection ≡ record l.initial.connection { watches = l.connection.watches; output = l.connection.output };
  begun : take (length l.initial.connection.output.items) l.connection.output.items ≡ l.initial.connection.output.items;
}
