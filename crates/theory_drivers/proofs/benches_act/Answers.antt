-- Each thing that befalls a connection of the bench is what the model's server does: one lemma of `Benched` for each.
use Rattle.theory_drivers.proofs.Benched.{bench_advances, bench_connects, bench_ends, bench_gives, bench_processes, bench_takes}
use Rattle.theory_drivers.proofs.benches_act.Goals as goal

pub returns-clause-connects : goal.returns-clause-connects
returns-clause-connects c = bench_connects

pub returns-clause-takes : goal.returns-clause-takes
returns-clause-takes c = bench_takes

pub returns-clause-gives : goal.returns-clause-gives
returns-clause-gives c = bench_gives

pub returns-clause-advances : goal.returns-clause-advances
returns-clause-advances c = bench_advances

pub returns-clause-processes : goal.returns-clause-processes
returns-clause-processes c = bench_processes

pub returns-clause-ends : goal.returns-clause-ends
returns-clause-ends c = bench_ends
