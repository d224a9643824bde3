-- By the operation: what is done for it, by `done_as`. A version fits, so it stays itself.
use Rattle.std.proofs.Common.{rules, ap, ◌∙◌, w32, FitsSigned}
use Rattle.std.proofs.lemmas.Int.{to_z-of_z}
use Rattle.std.proofs.lemmas.Result.{on_ok_weaker}
use Rattle.zk_log.specs.declared.txn.Txn.TheVariants as txn
use Rattle.zk_log.specs.Views.{text_of, bytes_of}
use Rattle.zk_log.specs.Trees.{tree_of}
use Rattle.zk_log.specs.Following.{data_written, acl_written}
use Rattle.zk_log.proofs.FollowLaws.{done_as, closed_as}
use Rattle.zk_log.proofs.digest_tree.DigestTree.follow_other.Goals as goal

pub returns-in-Delete : goal.returns-in-Delete
returns-in-Delete g c =
    on_ok_weaker c.delete_at.result (λ done none. done_as c.args.stamp c.args.txn.now (txn.Delete c.in-Delete.path) _ _ c.in-Delete.is done)
    c.delete_at.ensures

pub returns-in-DeleteContainer : goal.returns-in-DeleteContainer
returns-in-DeleteContainer g c =
    on_ok_weaker c.delete_at-in-DeleteContainer.result
    (λ done none. done_as c.args.stamp c.args.txn.now (txn.DeleteContainer c.in-DeleteContainer.path) _ _ c.in-DeleteContainer.is done)
    c.delete_at-in-DeleteContainer.ensures

pub returns-in-Set : goal.returns-in-Set
returns-in-Set g c =
    let t = c.in-Set.t in
    let tree = tree_of c.args.self.now.nodes in
    let fits : FitsSigned w32 c.in-Set.t.version = search rules in
    λ none.
    done_as c.args.stamp c.args.txn.now (txn.Set t) tree _ c.in-Set.is
    (c.set_at.ensures ∙ ap (λ v. data_written c.args.stamp (text_of t.path) (bytes_of t.bytes) v tree) (to_z-of_z w32 t.version fits))

pub returns-in-Reconfig : goal.returns-in-Reconfig
returns-in-Reconfig g c =
    let t = c.in-Reconfig.t in
    let tree = tree_of c.args.self.now.nodes in
    let fits : FitsSigned w32 c.in-Reconfig.t.version = search rules in
    λ none.
    done_as c.args.stamp c.args.txn.now (txn.Reconfig t) tree _ c.in-Reconfig.is
    (c.set_at-in-Reconfig.ensures
    ∙ ap (λ v. data_written c.args.stamp (text_of t.path) (bytes_of t.bytes) v tree) (to_z-of_z w32 t.version fits))

pub returns-in-SetAcl : goal.returns-in-SetAcl
returns-in-SetAcl g c =
    let t = c.in-SetAcl.t in
    let tree = tree_of c.args.self.now.nodes in
    let fits : FitsSigned w32 c.in-SetAcl.t.version = search rules in
    on_ok_weaker c.set_acl_at.result
    (λ done none. done_as c.args.stamp c.args.txn.now (txn.SetAcl t) tree _ c.in-SetAcl.is
    (done ∙ ap (λ v. acl_written (text_of t.path) v tree) (to_z-of_z w32 t.version fits)))
    c.set_acl_at.ensures

pub returns-in-CloseSession : goal.returns-in-CloseSession
returns-in-CloseSession g c =
    on_ok_weaker c.delete_all.result
    (λ done none. done_as c.args.stamp c.args.txn.now (txn.CloseSession c.in-CloseSession.paths) _ _ c.in-CloseSession.is
    (closed_as c.args.stamp c.in-CloseSession.paths c.or_empty.result.now _ _ c.or_empty.ensures done))
    c.delete_all.ensures
