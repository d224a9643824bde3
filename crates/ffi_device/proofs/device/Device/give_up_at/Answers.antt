-- The contender is given up before a step that notices the moment: `joined_steps`. Where memory runs out before it: `halted_steps`.
use Rattle.std.proofs.Common.{refl, subst}
use Rattle.zk_contend.specs.Collections.{StirsIf}
use Rattle.ffi_device.specs.Refused.{RefusesNothing}
use Rattle.ffi_device.specs.Steps.{GivesUp}
use Rattle.ffi_device.proofs.Chains.{halted_steps, joined_steps}
use Rattle.ffi_device.proofs.device.Device.give_up_at.Goals as goal

pub returns-in_default : goal.returns-in_default
returns-in_default c =
    let stops = c.stop.ensures in
    halted_steps RefusesNothing (GivesUp c.args.ticket) c.args.now c.args.self.now c.stop.new.self c.stop.result
    stops.halted stops.over stops.said stops.news stops.number stops.agent

pub returns : goal.returns
returns c =
    let before = c.args.self.now in
    let its = c.in-Ok.ensures in
    joined_steps RefusesNothing (GivesUp c.args.ticket) c.args.now before c.step_at.new.self c.give_up.new.self before.is_contending
    c.step_at.result refl refl
    (record {
      gives = its.gives;
      stirs = subst (λ b. StirsIf b c.args.ticket before.contenders c.give_up.new.self) its.is_there its.stirs;
      calls = c.give_up.ensures.calls;
    })
    c.step_at.ensures.stepped c.step_at.ensures.stopped
