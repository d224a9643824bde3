-- A reply that was taken is one that a server gave, so it tells what the tree had at its zxid (`reads_true`); a write that is answered as
-- done is a change of the server's last transaction (`writes_true`).
use Rattle.std.proofs.Common.{refl}
use Rattle.zk_laws.proofs.Steps.{By_server}
use Rattle.zk_laws.specs.ServerSteps.{Answers}
use Rattle.zk_laws.proofs.More.{reads_true, writes_true}
use Rattle.theory_messages.proofs.true_replies.Goals as goal

pub returns-clause-reads : goal.returns-clause-reads
returns-clause-reads c h is saved moves may question zxid result among = reads_true h is saved moves may question zxid result among

pub returns-clause-writes : goal.returns-clause-writes
returns-clause-writes c h call result connection log may =
    writes_true h (By_server (Answers call result)) connection log call result refl may
