-- A write may be answered with -101: `unwritten`, `unmade`, `undeleted`. The model asks nothing of that, so it only has to be spelled.
use Rattle.theory_rules.proofs.Answering.{unwritten, unmade, undeleted}
use Rattle.theory_rules.proofs.absent_writes.Goals as goal

pub returns-clause-unwritten : goal.returns-clause-unwritten
returns-clause-unwritten c h start entries path content version xid behind a can =
    unwritten h start entries path content version xid behind a can

pub returns-clause-unmade : goal.returns-clause-unmade
returns-clause-unmade c h start entries path content mode xid behind a can = unmade h start entries path content mode xid behind a can

pub returns-clause-undeleted : goal.returns-clause-undeleted
returns-clause-undeleted c h start entries path version xid behind a can = undeleted h start entries path version xid behind a can
