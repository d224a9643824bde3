-- What is read is spelled so (`log_found_of`); what is spelled so is read, or fails for memory alone (`log_only_of`).
use Rattle.std.proofs.Common.{arith}
use Rattle.zk_log.specs.Views.{log_of}
use Rattle.zk_log.proofs.LogLaws.{log_found_of}
use Rattle.zk_log.proofs.LogAgain.{log_only_of}
use Rattle.zk_log.proofs.log.Log.read.Goals as goal

pub returns-clause-found : goal.returns-clause-found
returns-clause-found g c =
    log_found_of log_of c.args.bytes.now c.log_at.result (λ i. omega (arith, c.type_inv.bytes i)) c.log_at.ensures

pub returns-clause-only : goal.returns-clause-only
returns-clause-only g c log is = log_only_of log_of c.args.bytes.now c.log_at.result log is c.log_at.ensures
