-- The parent is put, and then the node is taken away: `deleted_is`.
use Rattle.std.proofs.Common.{rules}
use Rattle.zk_log.specs.Trees.{tree_of}
use Rattle.zk_log.proofs.TreeLaws.{deleted_is}
use Rattle.zk_log.proofs.digest_tree.DigestTree.delete.Goals as goal

pub returns : goal.returns
returns g c =
    deleted_is c.args.stamp c.args.path.now (tree_of c.args.self.now.nodes) (tree_of c.put.new.self.nodes) (tree_of c.remove.new.self.nodes)
    c.in-Some.above.now c.in-Some-get.parent c.in-Some.ensures c.in-Some-get.ensures (search rules) c.remove.ensures
