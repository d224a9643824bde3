-- The headline at some paths, with coherence, true answers and due drops: `headline_at`, by the invariant that holds along the schedule.
use Rattle.theory_local.specs.LocalSteps.{IsOf}
use Rattle.theory_local.proofs.Headlines_at.{headline_at}
use Rattle.theory_local.proofs.local_headline.Goals as goal

pub returns : goal.returns
returns c paths h is start items view s served = headline_at (IsOf paths) h is start items view s served
