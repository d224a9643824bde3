-- No session comes of broken bytes: `resume` refuses them, as the fault is not want of memory (`not_memory`), so the good case is absurd.
use Rattle.std.proofs.Common.{ap, true≢false}
use Rattle.std.specs.Prelude.{is_ok}
use Rattle.ffi_c.proofs.Saved.{not_memory}
use Rattle.ffi_device.specs.Steps.{Dials}
use Rattle.ffi_device.specs.declared.device.Device.{Device}
use Rattle.ffi_c.proofs.Made.{made_so}
use Rattle.ffi_c.proofs.making.dw_session_resume.Goals as goal

pub returns-in-Ok-clause-broken : goal.returns-in-Ok-clause-broken
returns-in-Ok-clause-broken c fault reads =
    absurd (true≢false (ap is_ok (c.in-Ok.ensures.unread fault reads (not_memory c.args.saved.now fault reads) c.in-Ok.ensures.accepted)))

pub returns-in-Ok-clause-unread : goal.returns-in-Ok-clause-unread
returns-in-Ok-clause-unread c fault reads apart above =
    absurd (true≢false (ap is_ok (c.in-Ok.ensures.unread fault reads apart c.in-Ok.ensures.accepted)))

pub returns-in-Ok-clause-dials : goal.returns-in-Ok-clause-dials
returns-in-Ok-clause-dials c =
    made_so (λ (d : Device). Dials c.args.addresses c.args.seed d.agent.dialler) c.hold.new.handle.slot.held
    c.closed.result.slot.held c.in-Ok.session c.hold.ensures c.closed.ensures c.in-Ok.ensures.dials
