-- The client says nothing, and only its moment is another one (`takes`), so that each call that was handed over goes on waiting.
use Rattle.std.proofs.Common.{refl, sym, subst}
use Rattle.std.specs.Prelude.{All}
use Rattle.zk_client.specs.Clients.{view_of}
use Rattle.zk_follow.specs.Following.{AreFollowed}
use Rattle.zk_agent.specs.inner.Calls.{IsAsked}
use Rattle.zk_agent.proofs.Idling.{takes}
use Rattle.zk_agent.proofs.asker.Asker.pass.Goals as goal

pub invariant_of-self : goal.invariant_of-self
invariant_of-self g c =
    let entries = c.args.self.now.line.entries.items in
    record { asked = subst (λ after. All (IsAsked after) entries) (sym c.in-Ok.ensures.view) c.args.self.now.asked }

pub returns-in-Ok-clause-takes : goal.returns-in-Ok-clause-takes
returns-in-Ok-clause-takes g c = λ told.
    let old = c.args.self.now in
    takes c.args.now (view_of old.follower.client) (view_of c.pass.new.self.client) old.follower.subjects.items
    c.pass.new.self.subjects.items old.line.entries.items old.line.entries.items told c.in-Ok.ensures.steps c.in-Ok.ensures.subjects
    c.in-Ok.ensures.told c.in-Ok.ensures.news refl

pub returns-in-Ok-clause-followed : goal.returns-in-Ok-clause-followed
returns-in-Ok-clause-followed g c =
    subst (AreFollowed c.args.now (view_of c.pass.new.self.client)) (sym c.in-Ok.ensures.subjects) c.in-Ok.ensures.followed
