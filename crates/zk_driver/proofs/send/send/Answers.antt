-- Each turn writes a front piece of what is left: `sends_front`, and `sends_on` after those before it. A write that takes nothing adds
-- nothing (`sends_no_more`), and none reads (`keeps_on`).
use Rattle.std.proofs.Common.{[], drop, take, Some, sym, subst, refl}
use Rattle.std.specs.Io.KnownBytes.{Appends}
use Rattle.zk_link.specs.FarEnds.{Goes, Trades}
use Rattle.zk_link.specs.Streams.{Sends}
use Rattle.zk_link.proofs.Reaching.{trades_front, trades_no_more, trades_none, trades_on}
use Rattle.zk_link.proofs.Streaming.{keeps_on, keeps_same, left_of, sends_front, sends_no_more, sends_none, sends_on}
use Rattle.zk_driver.proofs.send.send.Goals as goal

pub loop-init : goal.loop-init
loop-init g c = record {
  left = (0, refl);
  sends = sends_none c.args.unsent.now.items (g.S.Write.contents c.args.stream.now);
  gives = keeps_same (g.S.Read.remaining c.args.stream.now);
  trades = trades_none g.S.Stream.far c.args.unsent.now.items (Some (g.S.Stream.state c.args.stream.now));
}

pub loop-preserved : goal.loop-preserved
loop-preserved g c =
    let first = g.S.Write.contents c.args.stream.now in
    let before = g.S.Write.contents c.loop.stream in
    let after = g.S.Write.contents c.write_some.new.stream in
    let front =
    sends_front c.in-Some.count c.min-piece.result c.as_slice.result.now before after c.in-Some.ensures.most c.in-Some.ensures.takes in
    let piece = subst (λ unsent. Sends unsent (drop c.in-Some.count unsent) before after) c.as_slice.ensures.value front in
    let step = subst (λ rest. Sends c.loop.unsent.items rest before after) (sym c.forget_front.ensures) piece in
    let all = sends_on c.args.unsent.now.items c.loop.unsent.items c.forget_front.new.unsent.items first before after
    c.loop.invariant.sends step in
    let far = g.S.Stream.far in
    let met = g.S.Stream.state c.loop.stream in
    let then_met = g.S.Stream.state c.write_some.new.stream in
    let went = trades_front far c.in-Some.count c.min-piece.result c.as_slice.result.now met then_met c.in-Some.ensures.most
    c.in-Some.ensures.goes in
    let goes =
    subst (λ unsent. Trades far unsent (drop c.in-Some.count unsent) [] (Some met) (Some then_met)) c.as_slice.ensures.value went in
    let trades = subst (λ rest. Trades far c.loop.unsent.items rest [] (Some met) (Some then_met)) (sym c.forget_front.ensures) goes in
    record {
      left = left_of c.args.unsent.now.items c.forget_front.new.unsent.items first after all;
      sends = all;
      gives =
          keeps_on (g.S.Read.remaining c.args.stream.now) (g.S.Read.remaining c.loop.stream) (g.S.Read.remaining c.write_some.new.stream)
          c.loop.invariant.gives c.write_some.ensures.left;
      trades = trades_on far c.args.unsent.now.items c.loop.unsent.items c.forget_front.new.unsent.items []
          (Some (g.S.Stream.state c.args.stream.now)) (Some met) (Some then_met) c.loop.invariant.trades trades;
    }

pub returns-in-None-clause-sends : goal.returns-in-None-clause-sends
returns-in-None-clause-sends g c =
    sends_no_more c.args.unsent.now.items c.loop.unsent.items (g.S.Write.contents c.args.stream.now) (g.S.Write.contents c.loop.stream)
    (g.S.Write.contents c.write_some.new.stream) c.loop.invariant.sends c.in-None.ensures.takes

pub returns-in-Some-eq0-clause-sends : goal.returns-in-Some-eq0-clause-sends
returns-in-Some-eq0-clause-sends g c =
    let before = g.S.Write.contents c.loop.stream in
    let after = g.S.Write.contents c.write_some.new.stream in
    let piece = take c.min-piece.result c.as_slice.result.now in
    sends_no_more c.args.unsent.now.items c.loop.unsent.items (g.S.Write.contents c.args.stream.now) before after c.loop.invariant.sends
    (subst (λ count. Appends before after (take count piece)) c.in-Some-eq0.field-0-test c.in-Some-eq0.ensures.takes)

pub returns-in-None-clause-gives : goal.returns-in-None-clause-gives
returns-in-None-clause-gives g c =
    keeps_on (g.S.Read.remaining c.args.stream.now) (g.S.Read.remaining c.loop.stream) (g.S.Read.remaining c.write_some.new.stream)
    c.loop.invariant.gives c.write_some.ensures.left

pub returns-in-Some-eq0-clause-gives : goal.returns-in-Some-eq0-clause-gives
returns-in-Some-eq0-clause-gives g c =
    keeps_on (g.S.Read.remaining c.args.stream.now) (g.S.Read.remaining c.loop.stream) (g.S.Read.remaining c.write_some.new.stream)
    c.loop.invariant.gives c.write_some.ensures.left

pub returns-in-None-clause-trades : goal.returns-in-None-clause-trades
returns-in-None-clause-trades g c =
    trades_no_more g.S.Stream.far c.args.unsent.now.items c.loop.unsent.items (g.S.Stream.state c.args.stream.now)
    (g.S.Stream.state c.loop.stream) (g.S.Stream.state c.write_some.new.stream) c.loop.invariant.trades c.in-None.ensures.goes

pub returns-in-Some-eq0-clause-trades : goal.returns-in-Some-eq0-clause-trades
returns-in-Some-eq0-clause-trades g c =
    let met = g.S.Stream.state c.loop.stream in
    let then_met = g.S.Stream.state c.write_some.new.stream in
    let piece = take c.min-piece.result c.as_slice.result.now in
    trades_no_more g.S.Stream.far c.args.unsent.now.items c.loop.unsent.items (g.S.Stream.state c.args.stream.now) met then_met
    c.loop.invariant.trades
    (subst (λ count. Goes g.S.Stream.far (take count piece) [] met then_met) c.in-Some-eq0.field-0-test c.in-Some-eq0.ensures.goes)
