-- Both stand first at the zxids that they have it: so each follows from the laws of `zk_conclusions` and `zk_fence` of standings.
use Rattle.theory_contenders.proofs.Having.{one_has_it, later_tokens_rise, earlier_are_shut_out}
use Rattle.theory_contenders.proofs.one_at_a_time.Goals as goal

pub returns-clause-one : goal.returns-clause-one
returns-clause-one c = one_has_it

pub returns-clause-later : goal.returns-clause-later
returns-clause-later c = later_tokens_rise

pub returns-clause-fenced : goal.returns-clause-fenced
returns-clause-fenced c = earlier_are_shut_out
