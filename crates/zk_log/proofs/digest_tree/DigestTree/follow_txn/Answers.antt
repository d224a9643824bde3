-- By the operation: the node that is made for it, by `made_as`. Numbers fit, so they stay themselves.
use Rattle.std.proofs.Common.{◌≡◌, rules, refl, ap, ◌∙◌, ℤ, pos, w32, w64, FitsSigned, to_z, of_z}
use Rattle.std.specs.Prelude.{if◌then◌else◌}
use Rattle.std.proofs.lemmas.Int.{to_z-of_z}
use Rattle.std.proofs.lemmas.Result.{on_ok_weaker}
use Rattle.zk_log.specs.declared.txn.Txn.TheVariants as txn
use Rattle.zk_log.proofs.FollowLaws.{done_as, made_as}
use Rattle.zk_log.proofs.digest_tree.DigestTree.follow_txn.Goals as goal

pub returns-in-Create : goal.returns-in-Create
returns-in-Create g c =
    let t = c.in-Create.t in
    let fits : FitsSigned w32 c.in-Create.t.parent_cversion = search rules in
    let owned : to_z w64 (of_z w64 c.owner_of-owner.result) ≡ (if c.in-Create.t.ephemeral then c.args.stamp.session else pos 0) =
    to_z-of_z w64 c.owner_of-owner.result (search rules) ∙ c.owner_of-owner.ensures
    ∙ ap (λ (s : ℤ). if c.in-Create.t.ephemeral then s else pos 0) (to_z-of_z w64 c.args.stamp.session (search rules)) in
    on_ok_weaker c.make_at.result
    (λ made. done_as c.args.stamp c.args.txn.now (txn.Create t) _ _ c.in-Create.is
    (made_as c.args.stamp _ _ _ _ _ _ _ _ _ _ c.as_str.ensures c.as_slice.ensures owned (to_z-of_z w32 t.parent_cversion fits) made))
    c.make_at.ensures

pub returns-in-Create2 : goal.returns-in-Create2
returns-in-Create2 g c =
    let t = c.in-Create2.t in
    let fits : FitsSigned w32 c.in-Create2.t.parent_cversion = search rules in
    let owned : to_z w64 (of_z w64 c.owner_of-owner-in-Create2.result)
    ≡ (if c.in-Create2.t.ephemeral then c.args.stamp.session else pos 0) =
    to_z-of_z w64 c.owner_of-owner-in-Create2.result (search rules) ∙ c.owner_of-owner-in-Create2.ensures
    ∙ ap (λ (s : ℤ). if c.in-Create2.t.ephemeral then s else pos 0) (to_z-of_z w64 c.args.stamp.session (search rules)) in
    on_ok_weaker c.make_at-in-Create2.result
    (λ made. done_as c.args.stamp c.args.txn.now (txn.Create2 t) _ _ c.in-Create2.is
    (made_as c.args.stamp _ _ _ _ _ _ _ _ _ _ c.as_str-in-Create2.ensures c.as_slice-in-Create2.ensures owned
    (to_z-of_z w32 t.parent_cversion fits) made))
    c.make_at-in-Create2.ensures

pub returns-in-CreateContainer : goal.returns-in-CreateContainer
returns-in-CreateContainer g c =
    let t = c.in-CreateContainer.t in
    let fits : FitsSigned w32 c.in-CreateContainer.t.parent_cversion = search rules in
    on_ok_weaker c.make_at-in-CreateContainer.result
    (λ made. done_as c.args.stamp c.args.txn.now (txn.CreateContainer t) _ _ c.in-CreateContainer.is
    (made_as c.args.stamp _ _ _ _ _ _ _ _ _ _ c.as_str-in-CreateContainer.ensures c.as_slice-in-CreateContainer.ensures refl
    (to_z-of_z w32 t.parent_cversion fits) made))
    c.make_at-in-CreateContainer.ensures

pub returns-in-CreateTtl : goal.returns-in-CreateTtl
returns-in-CreateTtl g c =
    let t = c.in-CreateTtl.t in
    let fits : FitsSigned w32 c.in-CreateTtl.t.parent_cversion = search rules in
    on_ok_weaker c.make_at-in-CreateTtl.result
    (λ made. done_as c.args.stamp c.args.txn.now (txn.CreateTtl t) _ _ c.in-CreateTtl.is
    (made_as c.args.stamp _ _ _ _ _ _ _ _ _ _ c.as_str-in-CreateTtl.ensures c.as_slice-in-CreateTtl.ensures refl
    (to_z-of_z w32 t.parent_cversion fits) made))
    c.make_at-in-CreateTtl.ensures
