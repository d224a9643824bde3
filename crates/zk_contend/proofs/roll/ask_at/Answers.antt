-- What is lent asks, and no other does: `changed_at`.
use Rattle.std.proofs.Common.{IsSome, Some, ap, nat_eq, refl, subst, sym}
use Rattle.indexmap.specs.IndexMap.{get}
use Rattle.zk_conversation.specs.Views.{call_view}
use Rattle.zk_contend.specs.inner.Rolls.{AsksThis}
use Rattle.zk_contend.proofs.Rolls.{changed_at}
use Rattle.zk_contend.proofs.roll.ask_at.Goals as goal

pub returns-in_ok-call-in-Some : goal.returns-in_ok-call-in-Some
returns-in_ok-call-in-Some g c =
    changed_at (AsksThis c.args.ask (Some (call_view c.in_ok-call-in-Some.call))) c.args.ticket (get nat_eq c.args.all.now)
    (get nat_eq (c.get_mut.follows.lender c.ask.new.self)) c.in-Some.contender.now c.ask.new.self
    (sym c.in-Some.ensures.value)
    ((c.get_mut.follows.holds c.ask.new.self).3 (subst IsSome c.in-Some.ensures.value refl)).0
    (ap (λ v. Some v) c.in_ok-call-in-Some.ensures.call, c.in_ok-call-in-Some.ensures.asked)
