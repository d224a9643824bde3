-- The exchange is one look (`looked_by`, `flow_one`), the clock changes nothing (`same_by`, `flow_same`), and what was brought is applied
-- after that: joined by `by_after` and `flow_after`. Where memory runs out before that, the client stands where it stood: `beside`.
use Rattle.std.proofs.Common.{◌≡◌, [], None, refl, sym, ap, ◌∙◌}
use Rattle.zk_client.specs.Clients.{view_of}
use Rattle.zk_agent.proofs.Breaking.{beside}
use Rattle.zk_driver.specs.declared.engine.Engine.{Engine}
use Rattle.zk_driver.specs.Driving.{channel_view, course_of}
use Rattle.zk_driver.specs.inner.Driving.{input_of, is_nothing, look_after}
use Rattle.zk_driver.specs.Noting.{notes_in}
use Rattle.zk_driver.specs.inner.Noting.{notes_of_event}
use Rattle.zk_driver.specs.Driving.{Looked}
use Rattle.zk_link.specs.FarEnds.{reached_of}
use Rattle.zk_driver.specs.Flowing.{bytes_in, flow_of, Flow, Made}
use Rattle.zk_driver.proofs.Flowed.{flow_after, flow_one, flow_same}
use Rattle.zk_driver.proofs.Going.{by_after, by_same_notes, looked_by, same_by}
use Rattle.zk_driver.proofs.driver.Driver.read.Goals as goal

pub returns-then-puts_off-clause-goes : goal.returns-then-puts_off-clause-goes
returns-then-puts_off-clause-goes g c =
    let old = course_of c.args.self.now.engine None in
    let between = record old { channel = channel_view c.exchange.new.self } in
    let later = course_of c.now-now.new.self.engine None in
    let look = look_after c.args.began c.args.is_again (is_nothing c.in-Ok.brought) c.args.self.now.engine.channel.looked in
    by_after [] [] old between later (looked_by look old between (c.in-Ok.ensures.looks, refl))
    (same_by between later (sym (ap (λ (e : Engine g.row.A.Denot g.row.D-Stream.Denot). course_of e None) c.now-now.ensures.engine)))

pub returns-clause-goes : goal.returns-clause-goes
returns-clause-goes g c =
    let old = course_of c.args.self.now.engine None in
    let between = record old { channel = channel_view c.exchange.new.self } in
    let later = course_of c.now-now.new.self.engine None in
    let new = course_of c.apply_read.new.self None in
    let notes = notes_in (input_of c.in-Ok.brought) in
    let look = look_after c.args.began c.args.is_again (is_nothing c.in-Ok.brought) c.args.self.now.engine.channel.looked in
    by_same_notes notes (notes_of_event c.event_of-event.result) old new c.event_of-event.ensures
    (by_after [] notes old later new
    (by_after [] [] old between later (looked_by look old between (c.in-Ok.ensures.looks, refl))
    (same_by between later (sym (ap (λ (e : Engine g.row.A.Denot g.row.D-Stream.Denot). course_of e None) c.now-now.ensures.engine))))
    c.in_ok-told.ensures.goes)

pub returns-then-puts_off-clause-flows : goal.returns-then-puts_off-clause-flows
returns-then-puts_off-clause-flows g c =
    let remaining = g.D.Stream.Read.remaining in
    let contents = g.D.Stream.Write.contents in
    let far = g.D.Stream.Stream.far in
    let state = g.D.Stream.Stream.state in
    let old = flow_of remaining contents far state c.args.self.now.engine None in
    let held = bytes_in (input_of c.in-Ok.brought) in
    let look = look_after c.args.began c.args.is_again (is_nothing c.in-Ok.brought) c.args.self.now.engine.channel.looked in
    let between : Flow g.row.A.Denot far = record {
      course = record old.course { channel = channel_view c.exchange.new.self };
      known = reached_of remaining contents far state c.exchange.new.self.stream;
      held = held;
    } in
    let later = record (flow_of remaining contents far state c.now-now.new.self.engine None) { held = held } in
    let there : between ≡ later =
    sym (ap (λ (e : Engine g.row.A.Denot g.row.D-Stream.Denot). record (flow_of remaining contents far state e None) { held = held })
    c.now-now.ensures.engine) in
    let looked = flow_one (Made (Looked look)) old between ((c.in-Ok.ensures.looks, refl), c.in-Ok.ensures.whole, refl) in
    let none : held ≡ [] = c.puts_off.ensures.none c.if-puts_off.true in
    flow_after old between (flow_of remaining contents far state c.now-now.new.self.engine None) looked
    (flow_same between (flow_of remaining contents far state c.now-now.new.self.engine None)
    (there ∙ ap (λ held. record (flow_of remaining contents far state c.now-now.new.self.engine None) { held = held }) none))

pub returns-clause-flows : goal.returns-clause-flows
returns-clause-flows g c =
    let remaining = g.D.Stream.Read.remaining in
    let contents = g.D.Stream.Write.contents in
    let far = g.D.Stream.Stream.far in
    let state = g.D.Stream.Stream.state in
    let old = flow_of remaining contents far state c.args.self.now.engine None in
    let held = bytes_in (input_of c.in-Ok.brought) in
    let look = look_after c.args.began c.args.is_again (is_nothing c.in-Ok.brought) c.args.self.now.engine.channel.looked in
    let between : Flow g.row.A.Denot far = record {
      course = record old.course { channel = channel_view c.exchange.new.self };
      known = reached_of remaining contents far state c.exchange.new.self.stream;
      held = held;
    } in
    let later = record (flow_of remaining contents far state c.now-now.new.self.engine None) { held = held } in
    let there : between ≡ later =
    sym (ap (λ (e : Engine g.row.A.Denot g.row.D-Stream.Denot). record (flow_of remaining contents far state e None) { held = held })
    c.now-now.ensures.engine) in
    let looked = flow_one (Made (Looked look)) old between ((c.in-Ok.ensures.looks, refl), c.in-Ok.ensures.whole, refl) in
    let new = flow_of remaining contents far state c.apply_read.new.self None in
    flow_after old between new looked (flow_after between later new (flow_same between later there) c.in_ok-told.ensures.flows)

pub returns-in_default-clause-broke : goal.returns-in_default-clause-broke
returns-in_default-clause-broke g c =
    let agent = c.args.self.now.engine.agent in
    let view = view_of agent.asker.follower.client in
    beside agent.timeout_ms view view refl
