-- Reads tell what the tree has at the reply's zxid, by `true_reads`; writes are changes of that zxid's transaction, of the call that
-- waited first, by `first_writes`.
use Rattle.zk_laws.proofs.Headlines.{true_reads, first_writes}
use Rattle.zk_laws.proofs.answers_are_true.Goals as goal

pub returns-clause-reads : goal.returns-clause-reads
returns-clause-reads c h is start items view s served = true_reads h is start items s.asked served

pub returns-clause-writes : goal.returns-clause-writes
returns-clause-writes c h is start items view s served = first_writes h is start items s.asked served
