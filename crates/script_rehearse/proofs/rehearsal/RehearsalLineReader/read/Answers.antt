-- A line that is done leads where the rehearsal stands next (`moved`); one that is not is due to stop there (`due_at`): from `read_line`.
use Rattle.script_rehearse.specs.inner.Rehearsed.{position_of}
use Rattle.script_rehearse.proofs.ScriptLemmas.{moved, due_at}
use Rattle.script_rehearse.proofs.rehearsal.RehearsalLineReader.read.Goals as goal

pub returns-clause-ok : goal.returns-clause-ok
returns-clause-ok g c = λ old at.
    moved c.args.line.now old (position_of c.args.self.now) c.read_line.new.self c.read_line.result c.read_line.ensures.ok at.0 at.1

pub returns-clause-err : goal.returns-clause-err
returns-clause-err g c = λ old at. due_at c.args.line.now old (position_of c.args.self.now) c.read_line.result c.read_line.ensures.err at.0
