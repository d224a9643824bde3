-- Beside deeds in which nothing comes a ready bench can go on: `lives_wait`, by induction over the deeds.
use Rattle.theory_shown.proofs.Waiting.{lives_wait}
use Rattle.theory_shown.proofs.lives_wait.Goals as goal

pub returns : goal.returns
returns c = lives_wait
