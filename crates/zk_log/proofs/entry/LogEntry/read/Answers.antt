-- What is read is spelled so (`found_of`); what is spelled so is read, or fails for memory alone (`only_of`).
use Rattle.std.proofs.Common.{arith}
use Rattle.zk_log.proofs.EntryLaws.{found_of, only_of}
use Rattle.zk_log.specs.Views.{entry_of}
use Rattle.zk_log.proofs.entry.LogEntry.read.Goals as goal

pub returns-clause-found : goal.returns-clause-found
returns-clause-found g c = found_of entry_of c.args.bytes.now c.read_entry.result (λ i. omega
    (arith, c.type_inv.bytes i)) c.read_entry.ensures.gives

pub returns-clause-only : goal.returns-clause-only
returns-clause-only g c entry fits e = only_of entry_of c.args.bytes.now c.read_entry.result entry fits e c.read_entry.ensures.gives
