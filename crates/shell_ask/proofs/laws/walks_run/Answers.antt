-- The law that a walk is a run of its driver is the lemma `walks_run` of `Walking`.
use Rattle.shell_ask.proofs.Walking.{walks_run}
use Rattle.shell_ask.proofs.laws.walks_run.Goals as goal

pub returns : goal.returns
returns g c = walks_run g.row.A.Denot g.S.Stream.far
