-- If it connects, `lived` joins that with the lines that `read_lines` read; if not, nothing is printed: `unlived`, `want`.
use Rattle.std.proofs.Common.{◌≡◌, ◌∙◌, List, [], ap, false, map}
use Rattle.std.specs.Prelude.{string_bytes}
use Rattle.zk_nodes.specs.Path.{Text}
use Rattle.zk_turns.specs.View.{view_at}
use Rattle.zk_client.specs.Clients.{view_of}
use Rattle.script_words.specs.Scripts.{end_at}
use Rattle.script_replay.specs.Played.{start_of}
use Rattle.script_live.specs.Flowing.{flow_of}
use Rattle.script_live.specs.Heard.{tape}
use Rattle.script_live.specs.Lives.{position}
use Rattle.script_live.proofs.LiveLemmas.{lived, moved, unlived, want}
use Rattle.script_live.proofs.live.connected.Goals as goal

pub returns-in-Ok : goal.returns-in-Ok
returns-in-Ok g c = λ begin first made.
    let lines : List Text = map (λ l. l.now) c.args.lines.now in
    let new = c.act.new.self in
    let know = flow_of g.D.Stream.Read.remaining g.D.Stream.Write.contents in
    let view = view_of new.link.joint.client in
    let told = string_bytes c.in-Ok.text in
    let text = string_bytes c.read_lines.result.text in
    let end = c.read_lines.result.end in
    let same : new.is_begun ≡ false = c.in-Ok.ensures.begun ∙ c.requires.begun in
    lived lines begin (know c.args.session.now.link.joint) (know new.link.joint) told text end first made c.requires.closed
    (moved (view_of c.args.session.now.link.joint.client) (view_at (start_of begin) []) (tape view told) made c.in-Ok.ensures.ok)
    c.in-Ok.ensures.prints
    (c.read_lines.ensures (position (know new.link.joint) false) (ap (position (know new.link.joint)) same))

pub returns-in-Err : goal.returns-in-Err
returns-in-Err g c = λ begin first made.
    let lines : List Text = map (λ l. l.now) c.args.lines.now in
    let stop = c.in-Err.stop in
    rw (c.nothing.ensures.end, c.end_at.ensures)
    (unlived lines (string_bytes c.nothing.result.text) (end_at 0 stop) c.nothing.ensures.text
    (want lines begin (view_of c.args.session.now.link.joint.client)
    (view_of c.act.new.self.link.joint.client) 0 stop first made c.in-Err.ensures.err c.in-Err.ensures.halt))
