-- Where a stream is held, `queue` adds the frames and `send` writes the first bytes: rewriting, and `exchanges_none` as nothing is read.
use Rattle.std.proofs.Common.{◌++◌, [], subst, sym}
use Rattle.zk_client.specs.Views.{said}
use Rattle.zk_link.specs.Written.{IsLeftOf}
use Rattle.zk_link.specs.Streams.{Sends}
use Rattle.script_live.specs.Exchanged.{known_of, Exchanges, Known}
use Rattle.script_live.specs.Frames.{frames}
use Rattle.script_live.proofs.Exchanging.{exchanges_none}
use Rattle.script_live.proofs.joint.Joint.write.Goals as goal

pub returns-in_ok-queue-in-Some-clause-kept : goal.returns-in_ok-queue-in-Some-clause-kept
returns-in_ok-queue-in-Some-clause-kept g c = λ there.
    subst (λ unsent. IsLeftOf unsent c.send.new.unsent.items) c.in_ok-queue-in-Some.ensures c.send.ensures.left

pub returns-in_ok-queue-in-Some-clause-sends : goal.returns-in_ok-queue-in-Some-clause-sends
returns-in_ok-queue-in-Some-clause-sends g c = λ there.
    let know = known_of g.S.Read.remaining g.S.Write.contents in
    let unsent = c.args.self.now.unsent.items ++ frames (said c.args.outputs.now) in
    let rest = c.send.new.unsent.items in
    let old : Known = record { left = g.S.Read.remaining c.in-Some.stream; took = g.S.Write.contents c.in-Some.stream } in
    let new : Known = record { left = g.S.Read.remaining c.send.new.stream; took = g.S.Write.contents c.send.new.stream } in
    let sends = subst (λ l. Sends l rest old.took new.took) c.in_ok-queue-in-Some.ensures c.send.ensures.sends in
    subst (λ stream. Exchanges unsent rest (know stream) new []) (sym c.in-Some.is)
    (exchanges_none unsent rest old new sends c.send.ensures.gives)
