-- The parent is put, and then the node: `created_is`.
use Rattle.std.proofs.Common.{◌≡◌, false, is_some, rules, sym, ap, ◌∙◌}
use Rattle.zk_log.specs.Trees.{tree_of}
use Rattle.std.proofs.lemmas.Result.{on_ok_weaker}
use Rattle.zk_log.proofs.TreeLaws.{created_is}
use Rattle.zk_log.proofs.digest_tree.DigestTree.create.Goals as goal

pub returns : goal.returns
returns g c =
    let free : is_some (tree_of c.args.self.now.nodes c.args.path.now) ≡ false = search rules in
    on_ok_weaker c.put-2.result
    (created_is c.args.stamp c.args.path.now c.args.node c.args.cversion (tree_of c.args.self.now.nodes) (tree_of c.put.new.self.nodes)
    (tree_of c.put-2.new.self.nodes) c.in-Some.above.now c.in-Some-get.parent c.in-Some.ensures c.in-Some-get.ensures free
    (search rules))
    c.put-2.ensures.ok
