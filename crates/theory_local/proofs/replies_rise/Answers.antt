-- Each reply that is taken is not below what was seen last then, which no earlier one is above: `replies_rise_at`; and what it says is true
-- where it stands: `reads_follow_at`. What was asked later was answered later: `answers_follow_at`.
use Rattle.theory_local.specs.LocalSteps.{IsOf}
use Rattle.theory_local.proofs.Headlines_at.{replies_rise_at, reads_follow_at}
use Rattle.theory_local.proofs.Asking_later.{answers_follow_at}
use Rattle.theory_local.proofs.replies_rise.Goals as goal

pub returns-clause-rise : goal.returns-clause-rise
returns-clause-rise c paths h is start items view s served = replies_rise_at (IsOf paths) h is start items s.asked served

pub returns-clause-reads : goal.returns-clause-reads
returns-clause-reads c paths h is start items view s served = reads_follow_at (IsOf paths) h is start items s.asked served

pub returns-clause-answers : goal.returns-clause-answers
returns-clause-answers c paths h is start more earlier view s served =
    answers_follow_at (IsOf paths) h is start more earlier view s served
