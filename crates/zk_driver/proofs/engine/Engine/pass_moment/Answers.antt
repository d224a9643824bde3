-- The channel stays and `Moment` is handed in, which notes nothing of connections: `noted`, `first` and `ok_flow_noted`.
use Rattle.std.proofs.Common.{None, refl}
use Rattle.zk_agent.specs.declared.input.AgentInput.TheVariants as happens
use Rattle.zk_driver.specs.Driving.{channel_view, course_of}
use Rattle.zk_link.specs.FarEnds.{reached_of}
use Rattle.zk_driver.specs.Flowing.{flow_of}
use Rattle.zk_driver.proofs.Flowed.{ok_flow_noted}
use Rattle.zk_driver.proofs.Going.{first, noted}
use Rattle.zk_driver.proofs.engine.Engine.pass_moment.Goals as goal

pub returns-clause-goes : goal.returns-clause-goes
returns-clause-goes g c = noted c.hand.result happens.Moment (course_of c.args.self.now None) (course_of c.hand.new.self None)
    (channel_view c.args.self.now.channel) (c.requires.none, refl) c.hand.ensures.hands

pub returns-clause-notes : goal.returns-clause-notes
returns-clause-notes g c = first c.hand.result happens.Moment (course_of c.args.self.now None) (course_of c.hand.new.self None)
    (channel_view c.args.self.now.channel) (c.requires.none, refl) c.hand.ensures.hands

pub returns-clause-flows : goal.returns-clause-flows
returns-clause-flows g c =
    ok_flow_noted c.hand.result happens.Moment
    (flow_of g.S.Read.remaining g.S.Write.contents g.S.Stream.far g.S.Stream.state c.args.self.now None)
    (flow_of g.S.Read.remaining g.S.Write.contents g.S.Stream.far g.S.Stream.state c.hand.new.self None)
    (channel_view c.args.self.now.channel)
    (reached_of g.S.Read.remaining g.S.Write.contents g.S.Stream.far g.S.Stream.state c.args.self.now.channel.stream)
    (c.requires.none, refl) refl
    (λ between lasts. lasts) c.hand.ensures.flows
