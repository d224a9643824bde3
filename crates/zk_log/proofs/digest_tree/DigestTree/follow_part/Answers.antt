-- A part does what its operation does, by `part_as`. Its number fits, so it stays itself.
use Rattle.std.proofs.Common.{rules, w32, FitsSigned}
use Rattle.std.proofs.lemmas.Int.{to_z-of_z}
use Rattle.zk_log.specs.Views.{part_of}
use Rattle.zk_log.specs.Trees.{tree_of}
use Rattle.zk_log.proofs.FollowLaws.{through, part_as}
use Rattle.zk_log.proofs.digest_tree.DigestTree.follow_part.Goals as goal

pub returns : goal.returns
returns g c =
    let fits : FitsSigned w32 c.args.part.now.0 = search rules in
    through c.follow_txn-outcome.result c.map_err.result c.map_err.ensures.variant
    (part_as c.args.stamp (part_of c.args.part.now) _ c.part_bytes.result.now c.in_ok-txn.txn (tree_of c.args.self.now.nodes) _
    (to_z-of_z w32 c.args.part.now.0 fits) c.part_bytes.ensures c.in_ok-txn.ensures)
    c.follow_txn-outcome.ensures
