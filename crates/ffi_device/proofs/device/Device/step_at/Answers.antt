-- A device that goes on no further: its agent is the one before, which is a chain of no advances. Else a step is its agent's, and then
-- those of what contenders ask (`stepped_on`).
use Rattle.std.proofs.Common.{◌≡◌, ◌∙◌, [], ap, inl, refl, rules, subst, sym}
use Rattle.zk_agent.specs.Agents.{IsBroken}
use Rattle.zk_agent.specs.Telling.{told_by}
use Rattle.zk_client.specs.Clients.{view_of}
use Rattle.zk_conclusions.specs.Revisions.{raised}
use Rattle.zk_conclusions.specs.declared.revision.Revision.{Revision}
use Rattle.ffi_device.specs.Chains.{Part}
use Rattle.ffi_device.specs.Happenings.{happening, is_bytes}
use Rattle.ffi_device.specs.Revisions.{revised}
use Rattle.ffi_device.specs.Taking.{AgentTook}
use Rattle.ffi_device.proofs.Chains.{stepped_on}
use Rattle.ffi_device.proofs.OwnCalls.{broke_first, went_with}
use Rattle.ffi_device.proofs.device.Device.step_at.Goals as goal

pub returns-then-self-clause-stopped : goal.returns-then-self-clause-stopped
returns-then-self-clause-stopped c =
    let stops = c.stop.ensures in
    let before = c.args.self.now.agent in (
      stops.halted,
      record {
        over = stops.over;
        silent = stops.said;
        no_news = stops.news;
        number = stops.number;
        broke = subst (IsBroken before) (sym stops.agent)
            (record { advances = []; here = view_of before.asker.follower.client; chain = refl; ends = inl refl });
      },
    )

pub returns-in_default-go_on-clause-stopped : goal.returns-in_default-go_on-clause-stopped
returns-in_default-go_on-clause-stopped c =
    let stops = c.stop-in_default-go_on.ensures in
    let before = c.args.self.now in
    let ensured = c.in-Ok.ensures in
    let part : Part = record { given = c.args.input; said = c.step_into.new.actions.items } in
    let took : AgentTook c.args.now c.args.input before.agent c.step_into.new.self part.said = record {
      comes = ensured.comes;
      followed = ensured.followed;
      calls = ensured.calls;
      served = ensured.served;
      limits = ensured.limits;
      answers = ensured.answers;
      closed = ensured.closed;
      renewed = ensured.renewed;
      dials = ensured.dials;
      latest = ensured.latest;
      heard = ensured.heard;
      trees = ensured.trees;
      credentials = ensured.credentials;
    } in
    let broke : IsBroken c.step_into.new.self c.go_on.new.self.agent = search rules in (
      stops.halted,
      record {
        over = stops.over;
        silent = stops.said;
        no_news = stops.news;
        number = stops.number ∙ ap (λ (revision : Revision). raised revision.number) c.go_on.ensures.number;
        broke = subst (IsBroken before.agent) (sym stops.agent)
            (broke_first c.args.now part before.agent c.step_into.new.self c.go_on.new.self.agent took broke);
      },
    )

pub returns-clause-stepped : goal.returns-clause-stepped
returns-clause-stepped c =
    let before = c.args.self.now in
    let on = c.go_on.new.self in
    let ensured = c.in-Ok.ensures in
    let said = c.step_into.new.actions.items in
    let took : AgentTook c.args.now c.args.input before.agent c.step_into.new.self said = record {
      comes = ensured.comes;
      followed = ensured.followed;
      calls = ensured.calls;
      served = ensured.served;
      limits = ensured.limits;
      answers = ensured.answers;
      closed = ensured.closed;
      renewed = ensured.renewed;
      dials = ensured.dials;
      latest = ensured.latest;
      heard = ensured.heard;
      trees = ensured.trees;
      credentials = ensured.credentials;
    } in
    let number : c.revise.new.revision.number ≡ revised (is_bytes (happening c.args.input)) (told_by on.said.items) on.revision.number
    = search rules in
    stepped_on c.args.now c.args.input before (record on { revision = c.revise.new.revision }) c.step_into.new.self said c.if-self.false
    (c.go_on.ensures.over ∙ c.if-self.false) c.go_on.ensures.read took c.go_on.ensures.contends
    (went_with before.is_contending c.args.now before.contenders c.step_into.new.self said on c.revise.new.revision
    c.in-Ok-go_on.ensures.went)
    (number ∙ ap (λ (revision : Revision). revised (is_bytes (happening c.args.input)) (told_by on.said.items) revision.number)
    c.go_on.ensures.number)
