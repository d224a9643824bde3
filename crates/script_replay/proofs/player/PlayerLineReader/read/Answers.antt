-- A line that is done leads where the player stands next (`moved`); one that is not is due to stop there (`due`): from `read_line`.
use Rattle.std.specs.Prelude.{string_bytes}
use Rattle.script_replay.specs.inner.Played.{view_of_player}
use Rattle.script_replay.proofs.CourseLemmas.{moved, due}
use Rattle.script_replay.proofs.player.PlayerLineReader.read.Goals as goal

pub returns-in-Ok-clause-ok : goal.returns-in-Ok-clause-ok
returns-in-Ok-clause-ok g c = λ old at.
    let told = c.in-Ok.ensures in
    moved c.args.line.now old (view_of_player c.args.self.now) (view_of_player c.read_line.new.self)
    (string_bytes c.in-Ok.text) told.ok told.stands at.0 at.1

pub returns-in-Err-clause-err : goal.returns-in-Err-clause-err
returns-in-Err-clause-err g c = λ old at.
    let told = c.in-Err.ensures in
    due c.args.line.now old (view_of_player c.args.self.now) (view_of_player c.read_line.new.self) c.in-Err.stop told.err told.halt at.0
