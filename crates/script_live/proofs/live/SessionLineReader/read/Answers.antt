-- A line that is done leads where the session stands next (`goes`); one that is not is due to stop there (`due`): from `read_line`.
use Rattle.std.specs.Prelude.{string_bytes}
use Rattle.zk_client.specs.Clients.{view_of}
use Rattle.script_live.specs.Flowing.{flow_of}
use Rattle.script_live.specs.Lives.{position_of}
use Rattle.script_live.proofs.LiveLemmas.{due, goes}
use Rattle.script_live.proofs.live.SessionLineReader.read.Goals as goal

pub returns-in-Ok-clause-ok : goal.returns-in-Ok-clause-ok
returns-in-Ok-clause-ok g c = λ old is.
    let at = position_of g.D.Stream.Read.remaining g.D.Stream.Write.contents in
    goes c.args.line.now old (at c.args.self.now) (at c.read_line.new.self) (string_bytes c.in-Ok.text) c.in-Ok.ensures.ok is

pub returns-in-Err-clause-err : goal.returns-in-Err-clause-err
returns-in-Err-clause-err g c = λ old is.
    let before = c.args.self.now in
    let told = c.in-Err.ensures in
    due c.args.line.now old (flow_of g.D.Stream.Read.remaining g.D.Stream.Write.contents before.link.joint)
    (view_of c.read_line.new.self.link.joint.client) before.is_begun c.in-Err.stop told.err told.halt is
