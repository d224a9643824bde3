-- What is left of the paths makes of the tree so far what all of them make.
use Rattle.std.proofs.Common.{◌≡◌, drop, map, Some}
use Rattle.std.specs.Prelude.{string_bytes}
use Rattle.zk_log.specs.Trees.{tree_of}
use Rattle.zk_log.specs.Following.{all_deleted}
use Rattle.zk_log.proofs.digest_tree.DigestTree.delete_paths.Given as goal

abbrev pub invariant-loop-path : goal.invariant-loop-path
invariant-loop-path g l = all_deleted l.stamp (map Some (map string_bytes (drop l.path-index l.paths))) (tree_of l.self.nodes)
    ≡ all_deleted l.stamp (map Some (map string_bytes l.paths)) (tree_of l.fn.self.nodes)
