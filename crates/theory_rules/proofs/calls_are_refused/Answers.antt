-- A call that stands next may be refused by any code except 0 and -101: `refuses`, as the model admits exactly those.
use Rattle.theory_rules.proofs.Answering.{refuses}
use Rattle.theory_rules.proofs.calls_are_refused.Goals as goal

pub returns-clause-refuses : goal.returns-clause-refuses
returns-clause-refuses c h start entries call xid code behind a some there can =
    refuses h start entries call xid code behind a some there can
