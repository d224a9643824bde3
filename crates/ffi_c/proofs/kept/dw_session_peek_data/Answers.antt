-- The data told and copied are the held session's: what `peek_data` ensures of the taken session's client, whose view is the same.
use Rattle.std.proofs.Common.{◌≡◌, ◌∙◌, ap, subst, sym}
use Rattle.std.specs.Prelude.{unwrap_or}
use Rattle.zk_turns.specs.View.{View}
use Rattle.zk_client.specs.Clients.{view_of}
use Rattle.ffi_device.specs.declared.device.Device.{Device}
use Rattle.std.specs.Prelude.{◌++◌, drop, length, take}
use Rattle.ffi_device.specs.Kept.{data_flat, data_text}
use Rattle.ffi_c.proofs.kept.dw_session_peek_data.Goals as goal

pub returns-in-Ok-clause-finds : goal.returns-in-Ok-clause-finds
returns-in-Ok-clause-finds c d held =
    let same : view_of c.client.result.now ≡ view_of d.agent.asker.follower.client =
    c.client.ensures ∙ ap (λ (s : Device). view_of s.agent.asker.follower.client)
    (c.deref.ensures ∙ ap (λ held. unwrap_or held d) (sym c.in-Some.ensures.some ∙ held)) in
    let path = c.args.path.now in
    let room = c.args.out.now in
    subst (λ (v : View). (c.in-Ok.found ≡ data_flat (v.cache.nodes path)) × (c.peek_data-found.new.room
    ≡ take (length room) (data_text (v.cache.nodes path)) ++ drop (length (data_text (v.cache.nodes path))) room)) same
    (c.in-Ok.ensures.found, c.in-Ok.ensures.copied)
