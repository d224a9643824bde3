-- What waits are the frames of the requests left (`requests_are_frames`), and a step takes the first one away (`one_is_less`).
use Rattle.theory_rules.proofs.Quiet.{requests_are_frames, one_is_less}
use Rattle.theory_rules.proofs.quiet_is_reached.Goals as goal

pub returns-clause-count : goal.returns-clause-count
returns-clause-count c = requests_are_frames

pub returns-clause-less : goal.returns-clause-less
returns-clause-less c = one_is_less
