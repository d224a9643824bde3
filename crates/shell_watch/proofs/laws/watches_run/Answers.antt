-- What a watch prints, and that it follows its subjects, is a run of its driver: the lemmas `watches_run` and `follows_run`.
use Rattle.shell_watch.proofs.Running.{follows_run, watches_run}
use Rattle.shell_watch.proofs.laws.watches_run.Goals as goal

pub returns-clause-watches : goal.returns-clause-watches
returns-clause-watches g c = watches_run g.row.A.Denot g.S.Stream.far

pub returns-clause-follows : goal.returns-clause-follows
returns-clause-follows g c = follows_run g.row.A.Denot g.S.Stream.far
