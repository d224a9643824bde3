-- A refusal is true of the held session, and no byte is written: `told_refused`, as the taken session's client has the same view.
use Rattle.std.proofs.Common.{◌≡◌, ◌∙◌, ap, of_z, subst, sym, to_z, w32}
use Rattle.std.specs.Prelude.{unwrap_or}
use Rattle.zk_turns.specs.View.{View}
use Rattle.zk_client.specs.Clients.{view_of}
use Rattle.ffi_device.specs.declared.device.Device.{Device}
use Rattle.zk_conclusions.specs.Subtrees.{HasMoreNodes, IsWholeBelow}
use Rattle.ffi_device.specs.Kept.{WritesText}
use Rattle.ffi_device.specs.Refused.{RefusesNodes}
use Rattle.ffi_device.specs.Subtrees.{IsSubtreeText}
use Rattle.ffi_c.specs.Kept.{FindsText}
use Rattle.ffi_c.proofs.Refused.{told_refused}
use Rattle.ffi_c.proofs.conclusions.dw_session_subtree.Goals as goal

pub returns-in-Err-clause-finds : goal.returns-in-Err-clause-finds
returns-in-Err-clause-finds c d held =
    let same : view_of c.client.result.now ≡ view_of d.agent.asker.follower.client =
    c.client.ensures ∙ ap (λ (s : Device). view_of s.agent.asker.follower.client)
    (c.deref.ensures ∙ ap (λ held. unwrap_or held d) (sym c.in-Some.ensures.some ∙ held)) in
    let path = c.args.path.now in
    let Refuses = λ (v : View). RefusesNodes (IsWholeBelow v.cache path → ⊥) (HasMoreNodes v.cache path c.args.most) path in
    let Writes = λ (v : View). WritesText (IsSubtreeText v path c.args.most) in
    let there = view_of c.client.result.now in
    subst (λ v. FindsText (Refuses v) (Writes v) (to_z w32 (of_z w32 c.code.result)) c.args.out.now c.subtree-found.new.room 0) same
    (told_refused (Refuses there) (Writes there) c.args.out.now c.subtree-found.new.room c.in-Err.refusal c.code.result c.code.ensures
    c.in-Err.ensures.refused c.in-Err.ensures.same)
