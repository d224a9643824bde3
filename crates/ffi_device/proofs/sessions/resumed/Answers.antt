-- Of bytes that do not read as a saved session no client comes: the clause `unread` of `read_saved` makes the good case absurd.
use Rattle.std.proofs.Common.{ap, true≢false}
use Rattle.std.specs.Prelude.{is_ok}
use Rattle.ffi_device.proofs.sessions.resumed.Goals as goal

pub returns-in-Ok-client-clause-unread : goal.returns-in-Ok-client-clause-unread
returns-in-Ok-client-clause-unread c fault is apart above = absurd (true≢false (ap is_ok (c.in-Ok.ensures.unread fault is apart)))
