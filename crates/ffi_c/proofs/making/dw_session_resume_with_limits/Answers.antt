-- Limits with these numbers are those that were made of them (`same_limits`). No session comes of broken bytes: `resume` refuses them, as
-- the fault is not want of memory (`not_memory`), so the good case is absurd.
use Rattle.std.proofs.Common.{rules, ◌∙◌, ap, of_z, subst, sym, to_z, true≢false, w32}
use Rattle.std.specs.Prelude.{is_ok}
use Rattle.zk_frames.specs.declared.limits.FrameLimits.{FrameLimits}
use Rattle.zk_frames.proofs.SameLimits.{same_limits}
use Rattle.ffi_device.specs.Refused.{RefusesTimeout}
use Rattle.ffi_device.specs.Sessions.{put_start}
use Rattle.ffi_device.specs.Steps.{Dials, within}
use Rattle.ffi_device.specs.declared.device.Device.{Device}
use Rattle.ffi_c.specs.Held.{Makes}
use Rattle.ffi_c.proofs.Saved.{not_memory}
use Rattle.ffi_c.proofs.Made.{made_so}
use Rattle.ffi_c.proofs.making.dw_session_resume_with_limits.Goals as goal

pub returns-in-Ok-clause-makes : goal.returns-in-Ok-clause-makes
returns-in-Ok-clause-makes c put reads limits comes goes =
    let MadeWithin : FrameLimits → Type 0 = λ limits. Makes (RefusesTimeout c.args.timeout_ms)
    (within limits (put_start c.args.timeout_ms put)) (to_z w32 (of_z w32 c.hold.result)) c.hold.new.handle.slot.held in
    let begins = c.in-Ok.ensures.begins put reads in
    let made : MadeWithin c.in-Some.limits = search rules in
    subst MadeWithin
    (same_limits c.in-Some.limits limits (c.in-Some.ensures.1 ∙ sym comes) (c.in-Some.ensures.2 ∙ sym goes))
    made

pub returns-in-Ok-clause-broken : goal.returns-in-Ok-clause-broken
returns-in-Ok-clause-broken c fault reads =
    absurd (true≢false (ap is_ok (c.in-Ok.ensures.unread fault reads (not_memory c.args.saved.now fault reads) c.in-Ok.ensures.accepted)))

pub returns-in-Ok-clause-unread : goal.returns-in-Ok-clause-unread
returns-in-Ok-clause-unread c fault may reads apart above =
    absurd (true≢false (ap is_ok (c.in-Ok.ensures.unread fault reads apart c.in-Ok.ensures.accepted)))

pub returns-in-Ok-clause-dials : goal.returns-in-Ok-clause-dials
returns-in-Ok-clause-dials c =
    made_so (λ (d : Device). Dials c.args.addresses c.args.seed d.agent.dialler) c.hold.new.handle.slot.held
    c.closed.result.slot.held c.in-Ok.session c.hold.ensures c.closed.ensures c.in-Ok.ensures.dials
