-- The names copied are the held session's: what `peek_names` ensures of the taken session's client, whose view is the same.
use Rattle.std.proofs.Common.{◌≡◌, ◌∙◌, ap, subst, sym}
use Rattle.std.specs.Prelude.{unwrap_or}
use Rattle.zk_turns.specs.View.{View}
use Rattle.zk_client.specs.Clients.{view_of}
use Rattle.ffi_device.specs.declared.device.Device.{Device}
use Rattle.ffi_device.specs.Kept.{WritesNames}
use Rattle.ffi_c.proofs.kept.dw_session_peek_names.Goals as goal

pub returns-in-Ok-clause-finds : goal.returns-in-Ok-clause-finds
returns-in-Ok-clause-finds c d held =
    let same : view_of c.client.result.now ≡ view_of d.agent.asker.follower.client =
    c.client.ensures ∙ ap (λ (s : Device). view_of s.agent.asker.follower.client)
    (c.deref.ensures ∙ ap (λ held. unwrap_or held d) (sym c.in-Some.ensures.some ∙ held)) in
    subst (λ (v : View). WritesNames (v.cache.children c.args.path.now) c.args.out.now c.peek_names-found.new.room c.in-Ok.length)
    same c.in-Ok.ensures.written
