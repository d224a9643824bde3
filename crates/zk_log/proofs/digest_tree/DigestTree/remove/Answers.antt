-- The sum loses the digest of the node, by `removed_sum`.
use Rattle.std.proofs.Common.{◌≡◌, ◌<◌, ◌^◌, refl, ◌∙◌, arith, rules}
use Rattle.zk_log.proofs.DigestLaws.{same_sum, removed_sum}
use Rattle.zk_log.proofs.TreeLaws.{updated_tree}
use Rattle.zk_log.proofs.digest_tree.DigestTree.remove.Goals as goal

pub invariant_of-self : goal.invariant_of-self
invariant_of-self g c = record {
  table = c.args.self.now.table;
  same = same_sum c.args.self.now.nodes c.remove.new.self c.args.self.now.sum (search rules) c.args.self.now.same;
}

pub invariant_of-self-2 : goal.invariant_of-self-2
invariant_of-self-2 g c = record {
  table = c.args.self.now.table;
  same = removed_sum c.args.self.now.nodes c.remove.new.self c.args.path.now c.in-Some.node c.args.self.now.sum c.from.result
      c.remove.ensures.entries (search rules) (c.from.ensures ∙ c.digest-before.ensures.kept) (omega arith) c.args.self.now.same;
}

pub returns-in_default : goal.returns-in_default
returns-in_default g c =
    updated_tree c.args.path.now c.args.path.now c.args.self.now.nodes c.remove.new.self _ refl c.remove.ensures.updates

pub returns : goal.returns
returns g c = updated_tree c.args.path.now c.args.path.now c.args.self.now.nodes c.remove.new.self _ refl c.remove.ensures.updates
