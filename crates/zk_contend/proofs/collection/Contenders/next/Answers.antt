-- The contender of which a call is due asks it: `asks_one`.
use Rattle.std.proofs.Common.{ℕ, IfSome, nat_eq, option_map, subst}
use Rattle.indexmap.specs.IndexMap.{get}
use Rattle.zk_client.specs.Clients.{view_of}
use Rattle.zk_conversation.specs.Views.{call_view}
use Rattle.zk_contend.specs.Collections.{IsChanged}
use Rattle.zk_contend.specs.inner.Rolls.{AsksThis}
use Rattle.zk_contend.specs.inner.Stirred.{IsDueAt}
use Rattle.zk_contend.proofs.Collected.{asks_one}
use Rattle.zk_contend.proofs.collection.Contenders.next.Goals as goal

pub returns-in-Some-2-clause-some : goal.returns-in-Some-2-clause-some
returns-in-Some-2-clause-some g c =
    let view = view_of c.args.client.now in
    let old = get nat_eq c.args.self.now.all in
    asks_one _ _ _ _ c.in-Some.ticket c.in-Some.ask _ _
    (subst (λ o. IfSome o (λ it. IsDueAt view c.args.now (old it.0) it.1)) c.in-Some.is c.in_ok-ticket.ensures.some)
    (subst (λ o. (other : ℕ) → IsChanged (nat_eq c.in-Some.ticket other) (AsksThis c.in-Some.ask (option_map call_view o)) (old other)
    (get nat_eq c.ask_at.new.all other)) c.in-Some-2.is c.in_ok-call.ensures)
    c.in_ok-number.ensures.askers c.in_ok-number.ensures.number c.in_ok-number.ensures.next
