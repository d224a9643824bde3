-- The loop over the tickets: those that are looked at, with those that are left, are all.
use Rattle.std.proofs.Common.{◌≡◌, ◌++◌}
use Rattle.indexmap.specs.IndexMap.{keys}
use Rattle.zk_contend.proofs.stirred.Stirred.add_all.Given as goal

-- those that are looked at, with those that are left
abbrev pub invariant-loop-ticket : goal.invariant-loop-ticket
invariant-loop-ticket g l = record {
  awake : l.self.awake.items ++ l.ticket-iterator ≡ keys l.all;
  untold : l.self.untold.items ++ l.ticket-iterator ≡ keys l.all;
}
