-- Three ends: with no stream, or after a failed write, nothing is read (`exchanges_none`); else a read follows the write (`exchanged`).
use Rattle.std.proofs.Common.{[], subst, sym}
use Rattle.std.specs.Prelude.{IfOk}
use Rattle.script_live.specs.Exchanged.{known_of, Exchanges, Known}
use Rattle.script_live.specs.Flowing.{piece_in}
use Rattle.zk_link.proofs.Streaming.{keeps_same, sends_none}
use Rattle.script_live.proofs.Exchanging.{exchanged, exchanges_none}
use Rattle.script_live.proofs.joint.Joint.exchange.Goals as goal

pub returns-in_default-clause-whole : goal.returns-in_default-clause-whole
returns-in_default-clause-whole g c =
    let unsent = c.args.self.now.unsent.items in
    let known = known_of g.S.Read.remaining g.S.Write.contents c.args.self.now.stream in
    exchanges_none unsent unsent known known (sends_none unsent known.took) (keeps_same known.left)

pub returns-then-not-send-clause-whole : goal.returns-then-not-send-clause-whole
returns-then-not-send-clause-whole g c =
    let know = known_of g.S.Read.remaining g.S.Write.contents in
    let unsent = c.args.self.now.unsent.items in
    let rest = c.send.new.unsent.items in
    let new : Known = record { left = g.S.Read.remaining c.send.new.stream; took = g.S.Write.contents c.send.new.stream } in
    subst (λ stream. Exchanges unsent rest (know stream) new []) (sym c.in-Some.is)
    (exchanges_none unsent rest
    (record { left = g.S.Read.remaining c.in-Some.stream; took = g.S.Write.contents c.in-Some.stream }) new c.send.ensures.sends
    c.send.ensures.gives)

pub returns-clause-whole : goal.returns-clause-whole
returns-clause-whole g c =
    let know = known_of g.S.Read.remaining g.S.Write.contents in
    let unsent = c.args.self.now.unsent.items in
    let rest = c.send.new.unsent.items in
    let wrote : Known = record { left = g.S.Read.remaining c.send.new.stream; took = g.S.Write.contents c.send.new.stream } in
    let new : Known = record { left = g.S.Read.remaining c.bring.new.stream; took = g.S.Write.contents c.bring.new.stream } in
    subst (λ stream. IfOk c.bring.result (λ brought. Exchanges unsent rest (know stream) new (piece_in brought))) (sym c.in-Some.is)
    (exchanged c.bring.result piece_in unsent rest
    (record { left = g.S.Read.remaining c.in-Some.stream; took = g.S.Write.contents c.in-Some.stream }) wrote new
    c.send.ensures.sends c.send.ensures.gives c.bring.ensures.took c.bring.ensures.whole)
