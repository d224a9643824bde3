-- Entry by entry of the schedule: `at_fewer`, and `by_model`.
use Rattle.std.proofs.Common.{subst, sym}
use Rattle.theory_local.specs.LocalSteps.{IsOf}
use Rattle.zk_conclusions.specs.Seen.{Is}
use Rattle.zk_conclusions.specs.Snapshots.{IsOneOf}
use Rattle.zk_conclusions.specs.Subtrees.{IsOneReached}
use Rattle.zk_conclusions.proofs.Everywhere.{at_fewer, at_two, by_model}
use Rattle.zk_conclusions.proofs.laws.served_at.Goals as goal

pub returns-clause-fewer : goal.returns-clause-fewer
returns-clause-fewer c paths some h view fewer s = at_fewer (IsOf paths) (IsOf some) h view fewer s

pub returns-clause-one : goal.returns-clause-one
returns-clause-one c paths h view path at s = at_fewer (IsOf paths) (Is path) h view (λ p e. subst (IsOf paths) (sym e) at) s

pub returns-clause-two : goal.returns-clause-two
returns-clause-two c paths h view this that at too s = at_two (IsOf paths) h view this that at too s

pub returns-clause-some : goal.returns-clause-some
returns-clause-some c paths h view nodes parents are s = at_fewer (IsOf paths) (IsOneOf nodes parents) h view are s

pub returns-clause-reached : goal.returns-clause-reached
returns-clause-reached c paths h view root are s = at_fewer (IsOf paths) (IsOneReached view.cache root) h view are s

pub returns-clause-model : goal.returns-clause-model
returns-clause-model c paths h view s = by_model (IsOf paths) h view s
