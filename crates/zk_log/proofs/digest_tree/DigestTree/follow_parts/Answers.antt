-- One part more is done: `parts_more`.
use Rattle.std.proofs.Common.{rules}
use Rattle.zk_log.specs.Views.{part_of}
use Rattle.zk_log.specs.Trees.{tree_of}
use Rattle.zk_log.proofs.FollowLaws.{parts_more}
use Rattle.zk_log.proofs.digest_tree.DigestTree.follow_parts.Goals as goal

pub loop-part-preserved : goal.loop-part-preserved
loop-part-preserved g c =
    parts_more part_of c.args.stamp c.args.parts.now c.loop-part.part-index c.part-item.result (tree_of c.loop-part.self.nodes)
    (tree_of c.follow_part.new.self.nodes) _ (search rules) c.part-item.is c.in_ok-follow_part.ensures c.loop-part.invariant
