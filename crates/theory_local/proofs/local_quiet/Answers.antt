-- Good answers about some paths are the server's where all is quiet: `quiet_at`, by the schedule's invariant, as nothing is in flight then.
use Rattle.theory_local.specs.LocalSteps.{IsOf}
use Rattle.theory_local.proofs.Headlines_at.{quiet_at}
use Rattle.theory_local.proofs.local_quiet.Goals as goal

pub returns : goal.returns
returns c paths h is start entries view may s quiet = quiet_at (IsOf paths) h is start entries view may s quiet
