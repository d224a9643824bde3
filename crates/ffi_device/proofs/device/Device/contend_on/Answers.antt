-- What is told, asked and heard one after the other: `went_on`. Where memory runs out among the calls, their chain has broken off.
use Rattle.std.proofs.Common.{◌≡◌, List, [], ℕ, refl, rules, subst}
use Rattle.std.specs.List.{FoldsTo}
use Rattle.std.specs.declared.alloc.Global.{Global}
use Rattle.zk_turns.specs.View.{View}
use Rattle.zk_client.specs.Clients.{view_of}
use Rattle.zk_agent.proofs.Breaking.{beside, err_always}
use Rattle.zk_agent.specs.declared.action.Action.{Action}
use Rattle.zk_contend.specs.Collections.{hall_of, TellsAt}
use Rattle.zk_contend.specs.declared.status.LockStatus.{LockStatus}
use Rattle.ffi_device.specs.inner.Chains.{TellsMore}
use Rattle.ffi_device.specs.Contending.{view_in, HearsAll}
use Rattle.ffi_device.proofs.OwnCalls.{broke_after, on_ok, went_on}
use Rattle.ffi_device.proofs.device.Device.contend_on.Goals as goal

pub returns-in_err-hear_all-clause-broke : goal.returns-in_err-hear_all-clause-broke
returns-in_err-hear_all-clause-broke c =
    let agent = c.args.self.now.agent in
    err_always c.from_residual.result (beside agent.timeout_ms (view_in agent) (view_in agent) refl)

pub returns-clause-broke : goal.returns-clause-broke
returns-clause-broke c =
    let asks = c.in_ok-ask_all.ensures.asks in
    err_always c.tell.result
    (broke_after c.args.now asks.more.own (c.args.self.now.agent, c.hear_all.new.contenders) (c.ask_all.new.agent, asks.looked)
    asks.more.asked)

pub returns-clause-went : goal.returns-clause-went
returns-clause-went c =
    let before = c.args.self.now in
    let heard = c.hear_all.new.contenders in
    let rested = c.ask_all.new.contenders in
    let asked = record before { agent = c.ask_all.new.agent; said = c.ask_all.new.said } in
    let after = record asked { contenders = c.tell.new.self; news = c.tell.new.news } in
    let said : c.replace-said.result.items ≡ before.said.items = search rules in
    let none : c.replace-said.new.dest.items ≡ [] = search rules in
    let no_news : before.news.items ≡ [] = search rules in
    on_ok c.tell.result
    (λ tells. went_on c.args.now before.contenders heard rested before.agent before.said.items c.hear_all.new.said.items after
    (subst (λ (view : View). HearsAll view c.args.now before.contenders before.said.items heard) c.client.ensures
    (subst (λ (said : List (Action Global)). HearsAll (view_of c.client.result.now) c.args.now before.contenders said heard) said
    c.in_ok-hear_all.ensures.hears))
    (subst (λ (was : List (Action Global)). TellsMore before.said.items was c.hear_all.new.said.items) none
    (subst (λ (said : List (Action Global)). TellsMore said c.replace-said.new.dest.items c.hear_all.new.said.items) said
    c.in_ok-hear_all.ensures.told))
    c.in_ok-ask_all.ensures.asks
    (subst (λ (view : View). FoldsTo (TellsAt view) (hall_of rested []) rested.stirred.untold.items
    (hall_of c.tell.new.self c.tell.new.news.items))
    c.client-2.ensures
    (subst (λ (news : List (ℕ × LockStatus)). FoldsTo (TellsAt (view_of c.client-2.result.now)) (hall_of rested news)
    rested.stirred.untold.items (hall_of c.tell.new.self c.tell.new.news.items)) no_news tells))
    c.tell.ensures.calls)
    c.tell.ensures.tells
