-- A refusal of `subtree_text` is true of the path that was spelled: `handed_on`, as the path made of the bytes is the same text.
use Rattle.std.proofs.Common.{subst}
use Rattle.zk_client.specs.Clients.{view_of}
use Rattle.zk_conclusions.specs.Subtrees.{HasMoreNodes, IsWholeBelow, Says}
use Rattle.ffi_device.proofs.Refusing.{handed_on}
use Rattle.ffi_device.proofs.subtrees.subtree.Goals as goal

pub returns-in_err-text-clause-refused : goal.returns-in_err-text-clause-refused
returns-in_err-text-clause-refused c =
    let cache = (view_of c.args.client.now).cache in
    let why = c.in_err-text.field-0.0 in
    handed_on c.from_residual-in_err-text.result why (IsWholeBelow cache c.args.path.now → ⊥)
    (HasMoreNodes cache c.args.path.now c.args.most) c.args.path.now
    c.from_residual-in_err-text.ensures.1 c.in_ok-path.ensures.accepted
    (subst (λ path. Says why (IsWholeBelow cache path → ⊥) (HasMoreNodes cache path c.args.most)) c.in_ok-path.ensures.path
    c.in_err-text.ensures.refused)
