-- What is left of the parts makes of the tree so far what all of them make.
use Rattle.std.proofs.Common.{◌≡◌, drop, map}
use Rattle.zk_log.specs.Views.{part_of}
use Rattle.zk_log.specs.Trees.{tree_of}
use Rattle.zk_log.specs.Following.{all_parts_done}
use Rattle.zk_log.proofs.digest_tree.DigestTree.follow_parts.Given as goal

abbrev pub invariant-loop-part : goal.invariant-loop-part
invariant-loop-part g l = all_parts_done l.stamp (map part_of (drop l.part-index l.parts)) (tree_of l.self.nodes)
    ≡ all_parts_done l.stamp (map part_of l.parts) (tree_of l.fn.self.nodes)
