-- One call more was taken: `one_asked`. Where memory runs out, what was taken before is one chain with what broke off.
use Rattle.std.proofs.Common.{◌≡◌, false, None, nat_lt, refl, rules, subst}
use Rattle.std.proofs.lemmas.Bool.{ltb-false}
use Rattle.std.specs.declared.alloc.Global.{Global}
use Rattle.zk_turns.specs.View.{View}
use Rattle.zk_client.specs.Clients.{view_of}
use Rattle.zk_conversation.specs.Views.{call_view}
use Rattle.zk_contend.specs.Collections.{AreAtRest, Asks, StaysAwake}
use Rattle.zk_contend.specs.Tickets.{first_call}
use Rattle.zk_agent.proofs.Breaking.{beside, err_always}
use Rattle.zk_agent.specs.Agents.{IsBroken}
use Rattle.zk_agent.specs.declared.input.AgentInput.{AgentInput}
use Rattle.zk_agent.specs.declared.input.AgentInput.TheVariants as input
use Rattle.ffi_device.specs.Chains.{first_own, Part}
use Rattle.ffi_device.specs.Contending.{view_in, AskedOne, HearsAll}
use Rattle.ffi_device.specs.Taking.{AgentTook}
use Rattle.ffi_device.proofs.OwnCalls.{broke_after, broke_first, broke_on, one_asked}
use Rattle.ffi_device.proofs.contending.ask_all.Goals as goal

pub returns-in_err-ticket-clause-broke : goal.returns-in_err-ticket-clause-broke
returns-in_err-ticket-clause-broke c = err_always c.from_residual.result
    (broke_after c.args.now c.loop.invariant.more.own (c.args.agent.now, c.args.contenders.now) (c.loop.agent, c.loop.contenders)
    c.loop.invariant.more.asked)

pub returns-clause-broke : goal.returns-clause-broke
returns-clause-broke c =
    broke_after c.args.now c.loop.invariant.more.own (c.args.agent.now, c.args.contenders.now) (c.loop.agent, c.loop.contenders)
    c.loop.invariant.more.asked

pub returns-in_default-clause-asks : goal.returns-in_default-clause-asks
returns-in_default-clause-asks c =
    let none : c.in_ok-ticket.field-0 ≡ None = search rules in
    let same = c.in_ok-ticket.ensures.same none in
    record {
      looked = c.loop.contenders;
      more = c.loop.invariant.more;
      rests = record {
        at_rest = subst (λ (view : View). AreAtRest view c.args.now c.loop.contenders) c.client.ensures (c.in_ok-ticket.ensures.none none);
        same = same.0;
        calls = same.1;
        stays = subst (λ (view : View). StaysAwake view c.loop.contenders c.next.new.self) c.client.ensures c.in_ok-ticket.ensures.stays;
      };
    }

pub returns-in_default-step_into-clause-broke : goal.returns-in_default-step_into-clause-broke
returns-in_default-step_into-clause-broke c =
    let broke : IsBroken c.loop.agent c.step_into.new.self = search rules in
    broke_on c.args.now c.loop.invariant.more.own (c.args.agent.now, c.args.contenders.now) (c.loop.agent, c.loop.contenders)
    c.step_into.new.self c.loop.invariant.more.asked broke

pub returns-in_err-hear_all-clause-broke : goal.returns-in_err-hear_all-clause-broke
returns-in_err-hear_all-clause-broke c =
    let given : AgentInput Global = input.Call c.in-Some.ticket c.in-Some.call None in
    let part : Part = record { given = given; said = c.step_into.new.actions.items } in
    let ensured = c.in-Ok.ensures in
    let after = c.step_into.new.self in
    let took : AgentTook c.args.now given c.loop.agent after part.said = record {
      comes = ensured.comes;
      followed = ensured.followed;
      calls = ensured.calls;
      served = ensured.served;
      limits = ensured.limits;
      answers = ensured.answers;
      closed = ensured.closed;
      renewed = ensured.renewed;
      dials = ensured.dials;
      latest = ensured.latest;
      heard = ensured.heard;
      trees = ensured.trees;
      credentials = ensured.credentials;
    } in
    err_always c.from_residual-in_err-hear_all.result
    (broke_on c.args.now c.loop.invariant.more.own (c.args.agent.now, c.args.contenders.now) (c.loop.agent, c.loop.contenders) after
    c.loop.invariant.more.asked
    (broke_first c.args.now part c.loop.agent after after took (beside after.timeout_ms (view_in after) (view_in after) refl)))

pub loop-preserved : goal.loop-preserved
loop-preserved c =
    let given : AgentInput Global = input.Call c.in-Some.ticket c.in-Some.call None in
    let part : Part = record { given = given; said = c.step_into.new.actions.items } in
    let ensured = c.in-Ok.ensures in
    let took : AgentTook c.args.now given c.loop.agent c.step_into.new.self part.said = record {
      comes = ensured.comes;
      followed = ensured.followed;
      calls = ensured.calls;
      served = ensured.served;
      limits = ensured.limits;
      answers = ensured.answers;
      closed = ensured.closed;
      renewed = ensured.renewed;
      dials = ensured.dials;
      latest = ensured.latest;
      heard = ensured.heard;
      trees = ensured.trees;
      credentials = ensured.credentials;
    } in
    let low : nat_lt c.in-Some.ticket first_call ≡ false = search rules in
    let asks : Asks (view_of c.client.result.now) c.args.now c.in-Some.ticket (call_view c.in-Some.call) c.loop.contenders c.next.new.self
    = search rules in
    let one : AskedOne c.args.now (c.loop.agent, c.loop.contenders) part (c.step_into.new.self, c.hear_all.new.contenders) = record {
      ticket = c.in-Some.ticket;
      call = call_view c.in-Some.call;
      is = refl;
      own = ltb-false c.in-Some.ticket first_own low;
      between = c.next.new.self;
      asks = subst
          (λ (view : View). Asks view c.args.now c.in-Some.ticket (call_view c.in-Some.call) c.loop.contenders c.next.new.self)
          c.client.ensures asks;
      took = took;
      hears = subst (λ (view : View). HearsAll view c.args.now c.next.new.self part.said c.hear_all.new.contenders)
          c.client-in-loop.ensures c.in_ok-hear_all.ensures.hears;
    } in
    record {
      more = one_asked c.args.now (c.args.agent.now, c.args.contenders.now) (c.loop.agent, c.loop.contenders)
          (c.step_into.new.self, c.hear_all.new.contenders) part c.args.said.now.items c.loop.said.items c.hear_all.new.said.items
          c.loop.invariant.more one c.in_ok-hear_all.ensures.told;
    }
