-- A call's deeds are a run's steps (`calls_run`), the program's taking is a step (`taking_runs`), and two runs join as lists (`runs_join`).
use Rattle.zk_driver.proofs.Running.{calls_run, runs_join, taking_runs}
use Rattle.zk_driver.proofs.laws.calls_run.Goals as goal

pub returns-clause-calls : goal.returns-clause-calls
returns-clause-calls g c = calls_run

pub returns-clause-taking : goal.returns-clause-taking
returns-clause-taking g c = taking_runs

pub returns-clause-join : goal.returns-clause-join
returns-clause-join g c = runs_join
