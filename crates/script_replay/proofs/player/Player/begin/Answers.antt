-- The first line makes a client as it says: `made`, where none was seen (`nothing_seen`), from what the parser and `make_client` ensure.
use Rattle.std.proofs.Common.{◌≡◌, ◌∙◌, Some, None, false, is_some, map, refl, sym}
use Rattle.zk_client.specs.Clients.{view_of}
use Rattle.script_replay.specs.Lines.{begin_value_of}
use Rattle.script_replay.specs.inner.Played.{view_of_player}
use Rattle.script_replay.proofs.PlayLemmas.{made, nothing_seen}
use Rattle.script_replay.proofs.player.Player.begin.Goals as goal

pub returns-clause-ok : goal.returns-clause-ok
returns-clause-ok g c =
    let absent : is_some c.args.self.now.client ≡ false = sym c.is_some.ensures ∙ c.if-is_some.false in
    let none : view_of_player c.args.self.now ≡ None = nothing_seen view_of c.args.self.now.client absent in
    let client = c.in_ok-make_client.field-0 in
    rw c.new.ensures.bytes
    (made c.args.word (map (λ w. w.now) c.args.words.now) (view_of_player c.args.self.now) (Some (view_of client))
    (begin_value_of c.in_ok-line.line) (view_of client)
    none refl c.in_ok-line.ensures.value c.in_ok-make_client.ensures)
