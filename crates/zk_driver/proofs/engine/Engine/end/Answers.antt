-- The channel is closed and `Cut` is handed in: one note (`noted`, `first`, `ok_flow_noted`), and the stream stays shut (`ok_stays_shut`).
use Rattle.std.proofs.Common.{None, ap, refl}
use Rattle.zk_agent.specs.declared.input.AgentInput.TheVariants as happens
use Rattle.zk_driver.specs.Driving.{ChannelView, channel_view, course_of}
use Rattle.zk_link.specs.FarEnds.{reached_of}
use Rattle.zk_driver.specs.Flowing.{flow_of}
use Rattle.zk_driver.proofs.Flowed.{ok_flow_noted, ok_stays_shut}
use Rattle.zk_driver.proofs.Going.{first, noted}
use Rattle.zk_driver.proofs.engine.Engine.end.Goals as goal

pub returns-clause-goes : goal.returns-clause-goes
returns-clause-goes g c = noted c.hand.result happens.Cut (course_of c.args.self.now None) (course_of c.hand.new.self None)
    (channel_view c.close.new.self) (c.requires.none, c.requires.open, c.close.ensures.view) c.hand.ensures.hands

pub returns-clause-notes : goal.returns-clause-notes
returns-clause-notes g c = first c.hand.result happens.Cut (course_of c.args.self.now None) (course_of c.hand.new.self None)
    (channel_view c.close.new.self) (c.requires.none, c.requires.open, c.close.ensures.view) c.hand.ensures.hands

pub returns-clause-flows : goal.returns-clause-flows
returns-clause-flows g c =
    ok_flow_noted c.hand.result happens.Cut
    (flow_of g.S.Read.remaining g.S.Write.contents g.S.Stream.far g.S.Stream.state c.args.self.now None)
    (flow_of g.S.Read.remaining g.S.Write.contents g.S.Stream.far g.S.Stream.state c.hand.new.self None) (channel_view c.close.new.self)
    (reached_of g.S.Read.remaining g.S.Write.contents g.S.Stream.far g.S.Stream.state c.close.new.self.stream)
    (c.requires.none, c.requires.open, c.close.ensures.view) refl
    (λ between lasts. tt) c.hand.ensures.flows

pub returns-clause-shut : goal.returns-clause-shut
returns-clause-shut g c =
    ok_stays_shut c.hand.result happens.Cut (record (course_of c.args.self.now None) { channel = channel_view c.close.new.self })
    (course_of c.hand.new.self None)
    (ap (λ (v : ChannelView). v.is_open) c.close.ensures.view) c.hand.ensures.hands
