-- The bytes are handed in first (`noted_so`, `first_so`, `flow_noted`), and `catch_up` may come after it: joined by `ok_by_after`,
-- `first_then`, `ok_flow_after` and `extends_on`.
use Rattle.std.proofs.Common.{None, refl}
use Rattle.zk_agent.specs.Telling.{told_by}
use Rattle.zk_agent.specs.declared.input.AgentInput.TheVariants as happens
use Rattle.zk_driver.specs.Driving.{channel_view, course_of}
use Rattle.zk_link.specs.FarEnds.{reached_of}
use Rattle.zk_driver.specs.Flowing.{flow_of}
use Rattle.zk_driver.proofs.Carrying.{extends_on}
use Rattle.zk_driver.proofs.Flowed.{flow_noted, ok_flow_after}
use Rattle.zk_driver.proofs.Going.{first_so, first_then, noted_so, ok_by_after}
use Rattle.zk_agent.proofs.Breaking.{err_so}
use Rattle.zk_driver.proofs.Breaking.{after_hands}
use Rattle.zk_driver.proofs.engine.Engine.bytes.Goals as goal

pub returns-then-told-now-clause-goes : goal.returns-then-told-now-clause-goes
returns-then-told-now-clause-goes g c =
    noted_so (happens.Bytes c.args.bytes) (course_of c.args.self.now None) (course_of c.hand.new.self None)
    (channel_view c.args.self.now.channel) (c.requires.none, c.requires.open, refl)
    c.in_ok-told.ensures.hands

pub returns-clause-goes : goal.returns-clause-goes
returns-clause-goes g c =
    let old = course_of c.args.self.now None in
    let between = course_of c.hand.new.self None in
    ok_by_after c.catch_up.result old between (course_of c.catch_up.new.self None)
    (noted_so (happens.Bytes c.args.bytes) old between (channel_view c.args.self.now.channel)
    (c.requires.none, c.requires.open, refl) c.in_ok-told.ensures.hands) c.catch_up.ensures.goes

pub returns-clause-kept : goal.returns-clause-kept
returns-clause-kept g c =
    extends_on (told_by c.args.self.now.waiting.items) (told_by c.hand.new.self.waiting.items)
    (told_by c.catch_up.new.self.waiting.items) c.hand.ensures.kept c.catch_up.ensures.kept

pub returns-then-told-now-clause-notes : goal.returns-then-told-now-clause-notes
returns-then-told-now-clause-notes g c =
    first_so (happens.Bytes c.args.bytes) (course_of c.args.self.now None) (course_of c.hand.new.self None)
    (channel_view c.args.self.now.channel) (c.requires.none, c.requires.open, refl)
    c.in_ok-told.ensures.hands

pub returns-clause-notes : goal.returns-clause-notes
returns-clause-notes g c =
    let old = course_of c.args.self.now None in
    let between = course_of c.hand.new.self None in
    first_then c.catch_up.result (happens.Bytes c.args.bytes) old between (course_of c.catch_up.new.self None)
    (first_so (happens.Bytes c.args.bytes) old between (channel_view c.args.self.now.channel)
    (c.requires.none, c.requires.open, refl) c.in_ok-told.ensures.hands) c.catch_up.ensures.goes

pub returns-then-told-now-clause-flows : goal.returns-then-told-now-clause-flows
returns-then-told-now-clause-flows g c =
    let old = record (flow_of g.S.Read.remaining g.S.Write.contents g.S.Stream.far g.S.Stream.state c.args.self.now None)
    { held = c.args.bytes.items } in
    let new = (flow_of g.S.Read.remaining g.S.Write.contents g.S.Stream.far g.S.Stream.state c.hand.new.self None) in
    flow_noted (happens.Bytes c.args.bytes) old new (channel_view c.args.self.now.channel)
    (reached_of g.S.Read.remaining g.S.Write.contents g.S.Stream.far g.S.Stream.state c.args.self.now.channel.stream)
    (c.requires.none, c.requires.open, refl) refl (λ between lasts. lasts) c.in_ok-told.ensures.flows

pub returns-clause-flows : goal.returns-clause-flows
returns-clause-flows g c =
    let old = record (flow_of g.S.Read.remaining g.S.Write.contents g.S.Stream.far g.S.Stream.state c.args.self.now None)
    { held = c.args.bytes.items } in
    let new = (flow_of g.S.Read.remaining g.S.Write.contents g.S.Stream.far g.S.Stream.state c.hand.new.self None) in
    ok_flow_after c.catch_up.result old new
    (flow_of g.S.Read.remaining g.S.Write.contents g.S.Stream.far g.S.Stream.state c.catch_up.new.self None)
    (flow_noted (happens.Bytes c.args.bytes) old new (channel_view c.args.self.now.channel)
    (reached_of g.S.Read.remaining g.S.Write.contents g.S.Stream.far g.S.Stream.state c.args.self.now.channel.stream)
    (c.requires.none, c.requires.open, refl) refl (λ between lasts. lasts) c.in_ok-told.ensures.flows) c.catch_up.ensures.flows

pub returns-clause-broke : goal.returns-clause-broke
returns-clause-broke g c =
    err_so c.catch_up.result (after_hands c.catch_up.new.self.agent (happens.Bytes c.args.bytes) (course_of c.args.self.now None)
    (course_of c.hand.new.self None) c.in_ok-told.ensures.hands) c.catch_up.ensures.broke
