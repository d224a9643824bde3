-- The session that is held is that of the standard limits, which a new session has; and it dials as the one that was made (`made_so`).
use Rattle.std.proofs.Common.{rules, of_z, subst, to_z, w32}
use Rattle.std.specs.Prelude.{unsigned_abs}
use Rattle.zk_frames.specs.declared.limits.FrameLimits.{FrameLimits}
use Rattle.zk_turns.specs.Turns.{new_start}
use Rattle.ffi_device.specs.Refused.{RefusesTimeout}
use Rattle.ffi_device.specs.Steps.{Dials, within}
use Rattle.ffi_device.specs.declared.device.Device.{Device}
use Rattle.ffi_c.specs.Held.{Makes}
use Rattle.ffi_c.proofs.Made.{made_so}
use Rattle.ffi_c.proofs.making.dw_session_open.Goals as goal

pub returns-in-Ok-clause-dials : goal.returns-in-Ok-clause-dials
returns-in-Ok-clause-dials c =
    made_so (λ (d : Device). Dials c.args.addresses c.args.seed d.agent.dialler) c.hold.new.handle.slot.held
    c.closed.result.slot.held c.in-Ok.session c.hold.ensures c.closed.ensures c.in-Ok.ensures.dials

pub returns-in-Ok-clause-makes : goal.returns-in-Ok-clause-makes
returns-in-Ok-clause-makes c =
    let MadeWithin : FrameLimits → Type 0 = λ limits. Makes (RefusesTimeout c.args.timeout_ms)
    (within limits (new_start (unsigned_abs c.args.timeout_ms))) (to_z w32 (of_z w32 c.hold.result)) c.hold.new.handle.slot.held in
    let made : MadeWithin c.standard.result = search rules in
    subst MadeWithin c.standard.ensures made
