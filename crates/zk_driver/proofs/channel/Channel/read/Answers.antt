-- Without a stream, or after a failed write, nothing is read (`reaches_none`); else write and read are one exchange (`reached`).
use Rattle.std.proofs.Common.{[], Some, subst, sym}
use Rattle.std.specs.Prelude.{IfOk}
use Rattle.zk_driver.specs.inner.Driving.{input_of}
use Rattle.zk_link.specs.FarEnds.{reached_of, Reached, Reaches}
use Rattle.zk_driver.specs.Flowing.{bytes_in}
use Rattle.zk_link.proofs.Reaching.{reached, reaches_none, trades_none}
use Rattle.zk_link.proofs.Streaming.{keeps_same, sends_none}
use Rattle.zk_driver.proofs.channel.Channel.read.Goals as goal

pub returns-in_default-clause-whole : goal.returns-in_default-clause-whole
returns-in_default-clause-whole g c =
    let unsent = c.args.self.now.unsent.items in
    let known = reached_of g.S.Read.remaining g.S.Write.contents g.S.Stream.far g.S.Stream.state c.args.self.now.stream in
    reaches_none unsent unsent known known (sends_none unsent known.took) (keeps_same known.left)
    (trades_none g.S.Stream.far unsent known.end)

pub returns-then-not-send-clause-whole : goal.returns-then-not-send-clause-whole
returns-then-not-send-clause-whole g c =
    let know = reached_of g.S.Read.remaining g.S.Write.contents g.S.Stream.far g.S.Stream.state in
    let unsent = c.args.self.now.unsent.items in
    let rest = c.send.new.unsent.items in
    let new : Reached g.S.Stream.far = record {
      left = g.S.Read.remaining c.send.new.stream;
      took = g.S.Write.contents c.send.new.stream;
      end = Some (g.S.Stream.state c.send.new.stream);
    } in
    subst (λ stream. Reaches unsent rest (know stream) new []) (sym c.in-Some.is)
    (reaches_none unsent rest
    (record {
      left = g.S.Read.remaining c.in-Some.stream;
      took = g.S.Write.contents c.in-Some.stream;
      end = Some (g.S.Stream.state c.in-Some.stream);
    }) new c.send.ensures.sends
    c.send.ensures.gives c.send.ensures.trades)

pub returns-clause-whole : goal.returns-clause-whole
returns-clause-whole g c =
    let know = reached_of g.S.Read.remaining g.S.Write.contents g.S.Stream.far g.S.Stream.state in
    let unsent = c.args.self.now.unsent.items in
    let rest = c.send.new.unsent.items in
    let wrote : Reached g.S.Stream.far = record {
      left = g.S.Read.remaining c.send.new.stream;
      took = g.S.Write.contents c.send.new.stream;
      end = Some (g.S.Stream.state c.send.new.stream);
    } in
    let new : Reached g.S.Stream.far = record {
      left = g.S.Read.remaining c.bring.new.stream;
      took = g.S.Write.contents c.bring.new.stream;
      end = Some (g.S.Stream.state c.bring.new.stream);
    } in
    subst (λ stream. IfOk c.bring.result (λ brought. Reaches unsent rest (know stream) new (bytes_in (input_of brought))))
    (sym c.in-Some.is)
    (reached c.bring.result (λ brought. bytes_in (input_of brought)) unsent rest
    (record {
      left = g.S.Read.remaining c.in-Some.stream;
      took = g.S.Write.contents c.in-Some.stream;
      end = Some (g.S.Stream.state c.in-Some.stream);
    }) wrote new
    c.send.ensures.sends c.send.ensures.gives c.bring.ensures.took c.bring.ensures.whole c.send.ensures.trades c.bring.ensures.goes)
