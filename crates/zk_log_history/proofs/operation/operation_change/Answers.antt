-- By the operation: what is made for it, by `change_as`, and the fault of its path, by `fault_as`. Numbers fit, so they stay themselves.
use Rattle.std.proofs.Common.{◌≡◌, rules, refl, ap, ◌∙◌, ℤ, pos, None, subst, w64, to_z, of_z}
use Rattle.std.specs.Prelude.{if◌then◌else◌, OnOk, IfErr}
use Rattle.std.proofs.lemmas.Int.{to_z-of_z}
use Rattle.std.proofs.lemmas.Result.{IfOk-weaker}
use Rattle.zk_log.specs.declared.txn.Txn.TheVariants as txn
use Rattle.zk_log_history.specs.Refused.{path_fault}
use Rattle.zk_log_history.specs.inner.Refused.{Unread}
use Rattle.zk_log_history.proofs.Operations.{change_as, created_as, fault_as}
use Rattle.zk_log_history.proofs.operation.operation_change.Goals as goal

pub returns-in-Create-clause-change : goal.returns-in-Create-clause-change
returns-in-Create-clause-change g c =
    let t = c.in-Create.t in
    let owned : to_z w64 (of_z w64 c.owner_of-owner.result) ≡ (if t.ephemeral then c.args.session else pos 0) =
    to_z-of_z w64 c.owner_of-owner.result (search rules) ∙ c.owner_of-owner.ensures
    ∙ ap (λ (s : ℤ). if t.ephemeral then s else pos 0) (to_z-of_z w64 c.args.session (search rules)) in
    IfOk-weaker c.created.result _ _
    (λ change made. change_as c.args.session c.args.txn.now (txn.Create t) _ c.in-Create.is
    (created_as _ _ _ _ _ _ _ owned c.as_str.ensures c.as_slice.ensures made))
    c.created.ensures.change

pub returns-in-Create-clause-read : goal.returns-in-Create-clause-read
returns-in-Create-clause-read g c =
    subst (λ f. OnOk c.created.result (f ≡ None))
    (fault_as c.args.txn.now (txn.Create c.in-Create.t) _ c.in-Create.is (ap path_fault c.as_str.ensures)) c.created.ensures.read

pub returns-in-Create-clause-unread : goal.returns-in-Create-clause-unread
returns-in-Create-clause-unread g c =
    subst (λ f. IfErr c.created.result (Unread f))
    (fault_as c.args.txn.now (txn.Create c.in-Create.t) _ c.in-Create.is (ap path_fault c.as_str.ensures)) c.created.ensures.unread

pub returns-in-Create2-clause-change : goal.returns-in-Create2-clause-change
returns-in-Create2-clause-change g c =
    let t = c.in-Create2.t in
    let owned : to_z w64 (of_z w64 c.owner_of-owner-in-Create2.result) ≡ (if t.ephemeral then c.args.session else pos 0) =
    to_z-of_z w64 c.owner_of-owner-in-Create2.result (search rules) ∙ c.owner_of-owner-in-Create2.ensures
    ∙ ap (λ (s : ℤ). if t.ephemeral then s else pos 0) (to_z-of_z w64 c.args.session (search rules)) in
    IfOk-weaker c.created-in-Create2.result _ _
    (λ change made. change_as c.args.session c.args.txn.now (txn.Create2 t) _ c.in-Create2.is
    (created_as _ _ _ _ _ _ _ owned c.as_str-in-Create2.ensures c.as_slice-in-Create2.ensures made))
    c.created-in-Create2.ensures.change

pub returns-in-Create2-clause-read : goal.returns-in-Create2-clause-read
returns-in-Create2-clause-read g c =
    subst (λ f. OnOk c.created-in-Create2.result (f ≡ None))
    (fault_as c.args.txn.now (txn.Create2 c.in-Create2.t) _ c.in-Create2.is (ap path_fault c.as_str-in-Create2.ensures))
    c.created-in-Create2.ensures.read

pub returns-in-Create2-clause-unread : goal.returns-in-Create2-clause-unread
returns-in-Create2-clause-unread g c =
    subst (λ f. IfErr c.created-in-Create2.result (Unread f))
    (fault_as c.args.txn.now (txn.Create2 c.in-Create2.t) _ c.in-Create2.is (ap path_fault c.as_str-in-Create2.ensures))
    c.created-in-Create2.ensures.unread

pub returns-in-CreateContainer-clause-change : goal.returns-in-CreateContainer-clause-change
returns-in-CreateContainer-clause-change g c =
    let t = c.in-CreateContainer.t in
    IfOk-weaker c.created-in-CreateContainer.result _ _
    (λ change made. change_as c.args.session c.args.txn.now (txn.CreateContainer t) _ c.in-CreateContainer.is
    (created_as _ _ _ _ _ _ _ refl c.as_str-in-CreateContainer.ensures c.as_slice-in-CreateContainer.ensures made))
    c.created-in-CreateContainer.ensures.change

pub returns-in-CreateContainer-clause-read : goal.returns-in-CreateContainer-clause-read
returns-in-CreateContainer-clause-read g c =
    subst (λ f. OnOk c.created-in-CreateContainer.result (f ≡ None))
    (fault_as c.args.txn.now (txn.CreateContainer c.in-CreateContainer.t) _ c.in-CreateContainer.is (ap path_fault
    c.as_str-in-CreateContainer.ensures)) c.created-in-CreateContainer.ensures.read

pub returns-in-CreateContainer-clause-unread : goal.returns-in-CreateContainer-clause-unread
returns-in-CreateContainer-clause-unread g c =
    subst (λ f. IfErr c.created-in-CreateContainer.result (Unread f))
    (fault_as c.args.txn.now (txn.CreateContainer c.in-CreateContainer.t) _ c.in-CreateContainer.is (ap path_fault
    c.as_str-in-CreateContainer.ensures)) c.created-in-CreateContainer.ensures.unread

pub returns-in-CreateTtl-clause-change : goal.returns-in-CreateTtl-clause-change
returns-in-CreateTtl-clause-change g c =
    let t = c.in-CreateTtl.t in
    IfOk-weaker c.created-in-CreateTtl.result _ _
    (λ change made. change_as c.args.session c.args.txn.now (txn.CreateTtl t) _ c.in-CreateTtl.is
    (created_as _ _ _ _ _ _ _ refl c.as_str-in-CreateTtl.ensures c.as_slice-in-CreateTtl.ensures made))
    c.created-in-CreateTtl.ensures.change

pub returns-in-CreateTtl-clause-read : goal.returns-in-CreateTtl-clause-read
returns-in-CreateTtl-clause-read g c =
    subst (λ f. OnOk c.created-in-CreateTtl.result (f ≡ None))
    (fault_as c.args.txn.now (txn.CreateTtl c.in-CreateTtl.t) _ c.in-CreateTtl.is (ap path_fault c.as_str-in-CreateTtl.ensures))
    c.created-in-CreateTtl.ensures.read

pub returns-in-CreateTtl-clause-unread : goal.returns-in-CreateTtl-clause-unread
returns-in-CreateTtl-clause-unread g c =
    subst (λ f. IfErr c.created-in-CreateTtl.result (Unread f))
    (fault_as c.args.txn.now (txn.CreateTtl c.in-CreateTtl.t) _ c.in-CreateTtl.is (ap path_fault c.as_str-in-CreateTtl.ensures))
    c.created-in-CreateTtl.ensures.unread

pub returns-in-Delete-clause-change : goal.returns-in-Delete-clause-change
returns-in-Delete-clause-change g c =
    IfOk-weaker c.deleted.result _ _
    (λ change made. change_as c.args.session c.args.txn.now (txn.Delete c.in-Delete.path) _ c.in-Delete.is made) c.deleted.ensures.change

pub returns-in-Delete-clause-read : goal.returns-in-Delete-clause-read
returns-in-Delete-clause-read g c =
    subst (λ f. OnOk c.deleted.result (f ≡ None))
    (fault_as c.args.txn.now (txn.Delete c.in-Delete.path) _ c.in-Delete.is refl) c.deleted.ensures.read

pub returns-in-Delete-clause-unread : goal.returns-in-Delete-clause-unread
returns-in-Delete-clause-unread g c =
    subst (λ f. IfErr c.deleted.result (Unread f))
    (fault_as c.args.txn.now (txn.Delete c.in-Delete.path) _ c.in-Delete.is refl) c.deleted.ensures.unread

pub returns-in-DeleteContainer-clause-change : goal.returns-in-DeleteContainer-clause-change
returns-in-DeleteContainer-clause-change g c =
    IfOk-weaker c.deleted-in-DeleteContainer.result _ _
    (λ change made. change_as c.args.session c.args.txn.now (txn.DeleteContainer c.in-DeleteContainer.path) _
    c.in-DeleteContainer.is made) c.deleted-in-DeleteContainer.ensures.change

pub returns-in-DeleteContainer-clause-read : goal.returns-in-DeleteContainer-clause-read
returns-in-DeleteContainer-clause-read g c =
    subst (λ f. OnOk c.deleted-in-DeleteContainer.result (f ≡ None))
    (fault_as c.args.txn.now (txn.DeleteContainer c.in-DeleteContainer.path) _ c.in-DeleteContainer.is refl)
    c.deleted-in-DeleteContainer.ensures.read

pub returns-in-DeleteContainer-clause-unread : goal.returns-in-DeleteContainer-clause-unread
returns-in-DeleteContainer-clause-unread g c =
    subst (λ f. IfErr c.deleted-in-DeleteContainer.result (Unread f))
    (fault_as c.args.txn.now (txn.DeleteContainer c.in-DeleteContainer.path) _ c.in-DeleteContainer.is refl)
    c.deleted-in-DeleteContainer.ensures.unread

pub returns-in-Set-clause-change : goal.returns-in-Set-clause-change
returns-in-Set-clause-change g c =
    IfOk-weaker c.written.result _ _
    (λ change made. change_as c.args.session c.args.txn.now (txn.Set c.in-Set.t) _ c.in-Set.is made) c.written.ensures.change

pub returns-in-Set-clause-read : goal.returns-in-Set-clause-read
returns-in-Set-clause-read g c =
    subst (λ f. OnOk c.written.result (f ≡ None))
    (fault_as c.args.txn.now (txn.Set c.in-Set.t) _ c.in-Set.is refl) c.written.ensures.read

pub returns-in-Set-clause-unread : goal.returns-in-Set-clause-unread
returns-in-Set-clause-unread g c =
    subst (λ f. IfErr c.written.result (Unread f))
    (fault_as c.args.txn.now (txn.Set c.in-Set.t) _ c.in-Set.is refl) c.written.ensures.unread

pub returns-in-Reconfig-clause-change : goal.returns-in-Reconfig-clause-change
returns-in-Reconfig-clause-change g c =
    IfOk-weaker c.written-in-Reconfig.result _ _
    (λ change made. change_as c.args.session c.args.txn.now (txn.Reconfig c.in-Reconfig.t) _ c.in-Reconfig.is made)
    c.written-in-Reconfig.ensures.change

pub returns-in-Reconfig-clause-read : goal.returns-in-Reconfig-clause-read
returns-in-Reconfig-clause-read g c =
    subst (λ f. OnOk c.written-in-Reconfig.result (f ≡ None))
    (fault_as c.args.txn.now (txn.Reconfig c.in-Reconfig.t) _ c.in-Reconfig.is refl) c.written-in-Reconfig.ensures.read

pub returns-in-Reconfig-clause-unread : goal.returns-in-Reconfig-clause-unread
returns-in-Reconfig-clause-unread g c =
    subst (λ f. IfErr c.written-in-Reconfig.result (Unread f))
    (fault_as c.args.txn.now (txn.Reconfig c.in-Reconfig.t) _ c.in-Reconfig.is refl) c.written-in-Reconfig.ensures.unread
