-- The contender joins before a step that notices the moment: `joined_steps`. Where memory runs out before it: `halted_steps`.
use Rattle.std.proofs.Common.{ℕ, List, refl, subst, true}
use Rattle.std.specs.Prelude.{option_map}
use Rattle.zk_contend.specs.Collections.{Joins, StirsIf}
use Rattle.ffi_device.specs.Refused.{RefusesContender}
use Rattle.ffi_device.specs.Steps.{Contends}
use Rattle.ffi_device.proofs.Chains.{halted_steps, joined_steps}
use Rattle.ffi_device.proofs.device.Device.contend_at.Goals as goal

pub returns-in_default : goal.returns-in_default
returns-in_default c =
    let stops = c.stop.ensures in
    halted_steps (RefusesContender c.args.directory.now c.args.naming c.args.guid.now (option_map (λ s. s.now) c.args.acl))
    (Contends c.args.ticket c.args.directory.now c.args.naming c.args.guid.now (option_map (λ s. s.now) c.args.bytes)
    (option_map (λ s. s.now) c.args.acl) c.args.may_be_there)
    c.args.now c.args.self.now c.stop.new.self c.stop.result
    stops.halted stops.over stops.said stops.news stops.number stops.agent

pub returns : goal.returns
returns c =
    let before = c.args.self.now in
    let contender = c.in_ok-contender.contender in
    let its = c.in-Ok.ensures in
    joined_steps (RefusesContender c.args.directory.now c.args.naming c.args.guid.now (option_map (λ s. s.now) c.args.acl))
    (Contends c.args.ticket c.args.directory.now c.args.naming c.args.guid.now (option_map (λ s. s.now) c.args.bytes)
    (option_map (λ s. s.now) c.args.acl) c.args.may_be_there)
    c.args.now before c.step_at.new.self c.contend.new.self true c.step_at.result refl refl
    (record {
      contender = contender;
      is = c.in_ok-contender.ensures.contender;
      joins = subst (λ b. Joins c.args.ticket contender b before.contenders c.contend.new.self) its.is_new its.joins;
      stirs = subst (λ b. StirsIf b c.args.ticket before.contenders c.contend.new.self) its.is_new its.stirs;
      calls = c.contend.ensures.calls;
    })
    c.step_at.ensures.stepped c.step_at.ensures.stopped
