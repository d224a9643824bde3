-- The loop over the contenders: those that are looked at, with those that are left, are those that were and all that the report is about.
use Rattle.std.proofs.Common.{◌≡◌, ◌++◌}
use Rattle.zk_contend.specs.inner.Stirred.{about}
use Rattle.zk_contend.proofs.stirred.Stirred.add_about.Given as goal

-- those that are looked at, with those that are left
abbrev pub invariant-loop-ticket : goal.invariant-loop-ticket
invariant-loop-ticket g l = record {
  awake : l.self.awake.items ++ about l.path l.ticket-iterator ≡ l.fn.self.awake.items ++ about l.path l.all.entries;
  untold : l.self.untold.items ++ about l.path l.ticket-iterator ≡ l.fn.self.untold.items ++ about l.path l.all.entries;
}
