-- One path more is deleted: `paths_more`.
use Rattle.std.proofs.Common.{rules}
use Rattle.zk_log.specs.Trees.{tree_of}
use Rattle.zk_log.proofs.FollowLaws.{paths_more}
use Rattle.zk_log.proofs.digest_tree.DigestTree.delete_paths.Goals as goal

pub loop-path-preserved : goal.loop-path-preserved
loop-path-preserved g c =
    paths_more c.args.stamp c.args.paths.now c.loop-path.path-index c.path-item.result _ (tree_of c.loop-path.self.nodes)
    (tree_of c.delete.new.self.nodes) _ (search rules) c.as_str.ensures.value c.path-item.is c.in_ok-delete.ensures c.loop-path.invariant
