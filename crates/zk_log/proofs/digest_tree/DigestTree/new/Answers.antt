-- Four nodes are put into an empty tree.
use Rattle.std.proofs.Common.{◌≡◌, ap, ◌∙◌}
use Rattle.std.specs.Prelude.{codes}
use Rattle.zk_log.specs.Trees.{tree_of, first_at}
use Rattle.zk_log.proofs.DigestLaws.{empty_sum}
use Rattle.zk_log.proofs.TreeLaws.{no_tree}
use Rattle.zk_log.proofs.digest_tree.DigestTree.new.Goals as goal

pub invariant_of-tree : goal.invariant_of-tree
invariant_of-tree g c = record {
  table = c.in_ok-crc_rows.ensures;
  same = empty_sum c.new.result c.new.ensures.empty;
}

pub returns-in-Ok : goal.returns-in-Ok
returns-in-Ok g c =
    c.in-Ok.ensures
    ∙ ap (λ tree. first_at (codes "/zookeeper/config") (first_at (codes "/zookeeper/quota")
    (first_at (codes "/zookeeper") (first_at (codes "/") tree)))) (no_tree c.new.result c.new.ensures.empty)
