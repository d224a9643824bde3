-- The channel holds the stream and `Opened` is handed in: one note, by `noted`, `first` and `ok_flow_noted`. The stream's far end is one at
-- which a connection begins.
use Rattle.std.proofs.Common.{◌∙◌, None, ap, refl, subst, sym}
use Rattle.zk_agent.specs.declared.input.AgentInput.TheVariants as happens
use Rattle.zk_driver.specs.Driving.{channel_view, course_of}
use Rattle.zk_link.specs.FarEnds.{reached_of, Begun, Reached}
use Rattle.zk_driver.specs.Flowing.{flow_of}
use Rattle.zk_driver.proofs.Flowed.{ok_flow_noted}
use Rattle.zk_driver.proofs.Going.{first, noted}
use Rattle.zk_driver.proofs.engine.Engine.open.Goals as goal

pub returns-clause-goes : goal.returns-clause-goes
returns-clause-goes g c = noted c.hand.result happens.Opened (course_of c.args.self.now None) (course_of c.hand.new.self None)
    (channel_view c.hold.new.self) (c.requires.attempt, c.hold.ensures.view) c.hand.ensures.hands

pub returns-clause-notes : goal.returns-clause-notes
returns-clause-notes g c = first c.hand.result happens.Opened (course_of c.args.self.now None) (course_of c.hand.new.self None)
    (channel_view c.hold.new.self) (c.requires.attempt, c.hold.ensures.view) c.hand.ensures.hands

pub returns-clause-flows : goal.returns-clause-flows
returns-clause-flows g c =
    ok_flow_noted c.hand.result happens.Opened
    (flow_of g.S.Read.remaining g.S.Write.contents g.S.Stream.far g.S.Stream.state c.args.self.now None)
    (flow_of g.S.Read.remaining g.S.Write.contents g.S.Stream.far g.S.Stream.state c.hand.new.self None) (channel_view c.hold.new.self)
    (reached_of g.S.Read.remaining g.S.Write.contents g.S.Stream.far g.S.Stream.state c.hold.new.self.stream)
    (c.requires.attempt, c.hold.ensures.view) refl
    (λ between lasts there. subst (λ (k : Reached g.S.Stream.far). Begun g.S.Stream.far k.end)
    (sym (lasts there ∙ ap (reached_of g.S.Read.remaining g.S.Write.contents g.S.Stream.far g.S.Stream.state) c.hold.ensures.stream))
    c.requires.begins) c.hand.ensures.flows
