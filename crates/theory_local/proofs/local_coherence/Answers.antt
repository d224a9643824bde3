-- Good answers about some paths are the history's: `coherent_at`, by the invariant that holds along the schedule.
use Rattle.theory_local.specs.LocalSteps.{IsOf}
use Rattle.theory_local.proofs.Headlines_at.{coherent_at}
use Rattle.theory_local.proofs.local_coherence.Goals as goal

pub returns : goal.returns
returns c paths h is start items view s served = coherent_at (IsOf paths) h is start items view s served
