-- Each turn carries one action more: `made_more` for the channel, `kept_more` for what waits, `stays_on` for the stream, and `extends_on`
-- for what waited, also where `carry` fails.
use Rattle.std.proofs.Common.{◌++◌, ◌∙◌, [], ap, append-nil, arith, refl, sym}
use Rattle.std.specs.Prelude.{fold}
use Rattle.std.specs.List.{filter}
use Rattle.zk_agent.specs.Telling.{action_view, told_by}
use Rattle.zk_driver.specs.Driving.{carried, channel_view, is_passed}
use Rattle.zk_driver.proofs.Carrying.{kept_more, made_more, none_of, extends_on, stays_on}
use Rattle.zk_driver.proofs.engine.carry_all.Goals as goal

pub loop-action-init : goal.loop-action-init
loop-action-init g c =
    let all = c.from_vec-left.ensures.items in
    record {
      channel = ap (λ l. fold carried (channel_view c.args.channel.now) (told_by l)) all;
      waiting = ap (λ l. told_by c.args.waiting.now.items ++ filter is_passed (told_by l)) all;
      stays = λ there. refl;
      kept = ([], sym (append-nil (told_by c.args.waiting.now.items)));
    }

pub loop-action-preserved : goal.loop-action-preserved
loop-action-preserved g c = record {
  channel = made_more carried (channel_view c.loop-action.channel) (channel_view c.carry.new.channel)
      (fold carried (channel_view c.args.channel.now) (told_by c.args.actions.items))
      (action_view c.in-Some.action) (told_by c.pop_front.new.self.items) (told_by c.loop-action.left.items)
      (ap told_by c.in-Some.ensures.items) c.in_ok-carry.ensures.channel c.loop-action.invariant.channel;
  waiting = kept_more is_passed (told_by c.loop-action.waiting.items) (told_by c.carry.new.waiting.items)
      (told_by c.args.waiting.now.items ++ filter is_passed (told_by c.args.actions.items))
      (action_view c.in-Some.action) (told_by c.pop_front.new.self.items) (told_by c.loop-action.left.items)
      (ap told_by c.in-Some.ensures.items) c.in_ok-carry.ensures.waiting c.loop-action.invariant.waiting;
  stays = stays_on c.args.channel.now.stream c.loop-action.channel.stream c.carry.new.channel.stream
      c.loop-action.invariant.stays c.carry.ensures.stays;
  kept = extends_on (told_by c.args.waiting.now.items) (told_by c.loop-action.waiting.items)
      (told_by c.carry.new.waiting.items) c.loop-action.invariant.kept c.carry.ensures.kept;
}

pub returns-in_err-carry-clause-kept : goal.returns-in_err-carry-clause-kept
returns-in_err-carry-clause-kept g c =
    extends_on (told_by c.args.waiting.now.items) (told_by c.loop-action.waiting.items)
    (told_by c.carry.new.waiting.items) c.loop-action.invariant.kept c.carry.ensures.kept

pub returns-in_err-carry-clause-stays : goal.returns-in_err-carry-clause-stays
returns-in_err-carry-clause-stays g c =
    stays_on c.args.channel.now.stream c.loop-action.channel.stream c.carry.new.channel.stream
    c.loop-action.invariant.stays c.carry.ensures.stays

pub returns-clause-channel : goal.returns-clause-channel
returns-clause-channel g c =
    let none = none_of c.loop-action.left.items (omega (arith, c.in_default.ensures.cases.0, c.loop-action.left.ok.0)) in
    sym (ap (λ l. fold carried (channel_view c.loop-action.channel) (told_by l)) none) ∙ c.loop-action.invariant.channel

pub returns-clause-waiting : goal.returns-clause-waiting
returns-clause-waiting g c =
    let none = none_of c.loop-action.left.items (omega (arith, c.in_default.ensures.cases.0, c.loop-action.left.ok.0)) in
    sym (append-nil (told_by c.loop-action.waiting.items))
    ∙ sym (ap (λ l. told_by c.loop-action.waiting.items ++ filter is_passed (told_by l)) none) ∙ c.loop-action.invariant.waiting
