-- A write may be answered as done where the server's last transaction has its change: `written`, `made`, `numbered`, `deleted`.
use Rattle.theory_rules.proofs.Answering.{written, made, numbered, deleted}
use Rattle.theory_rules.proofs.writes_are_accepted.Goals as goal

pub returns-clause-written : goal.returns-clause-written
returns-clause-written c h start entries path content version xid earlier last node value ignored a holds among there fits same can =
    written h start entries path content version xid earlier last node value ignored a holds among there fits same can

pub returns-clause-made : goal.returns-clause-made
returns-clause-made c h start entries path content mode xid owner earlier last ignored a plain holds among fits can =
    made h start entries path content mode xid owner earlier last ignored a plain holds among fits can

pub returns-clause-numbered : goal.returns-clause-numbered
returns-clause-numbered c h start entries path content mode number xid owner earlier last ignored a many holds among fits can =
    numbered h start entries path content mode number xid owner earlier last ignored a many holds among fits can

pub returns-clause-deleted : goal.returns-clause-deleted
returns-clause-deleted c h start entries path version xid earlier last behind a holds among can =
    deleted h start entries path version xid earlier last behind a holds among can
