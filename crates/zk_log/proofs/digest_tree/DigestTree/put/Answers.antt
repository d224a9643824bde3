-- The sum loses the digest of the node that was there, and gains that of the one that is put, by `put_sum`.
use Rattle.std.proofs.Common.{◌≡◌, ◌<◌, ◌^◌, ap, sym, ◌∙◌, arith, rules}
use Rattle.zk_log.proofs.DigestLaws.{same_sum, put_sum, digest_or_none}
use Rattle.zk_log.proofs.TreeLaws.{updated_tree}
use Rattle.zk_log.proofs.digest_tree.DigestTree.put.Goals as goal
use Rattle.zk_log.proofs.digest_tree.DigestTree.put.Goals.{in-Some, in-None}

pub invariant_of-self : goal.invariant_of-self
invariant_of-self g c = record {
  table = c.args.self.now.table;
  same = same_sum c.args.self.now.nodes c.insert.new.self c.args.self.now.sum c.in_err-before.ensures.err c.args.self.now.same;
}

pub invariant_of-self-2 : goal.invariant_of-self-2
invariant_of-self-2 g c =
    let e = c.in_ok-before.ensures in
    let is : c.match-branch-3.before ≡ digest_or_none c.in_ok-before.field-0 =
    elim c.match-branch-3.branch [ in-Some w ↦ search rules | in-None w ↦ search rules ] in
    record {
      table = c.args.self.now.table;
      same = put_sum c.args.self.now.nodes c.insert.new.self c.in_ok-path.path c.args.node c.in_ok-before.field-0 c.args.self.now.sum
          c.from.result c.from-2.result e.entries e.was_ordered e.old (c.from.ensures ∙ is) (omega arith)
          (c.from-2.ensures ∙ c.digest-added.ensures.kept) c.args.self.now.same;
    }

pub returns : goal.returns
returns g c = record {
  ok = updated_tree c.args.path.now _ c.args.self.now.nodes c.insert.new.self _ c.in_ok-path.ensures.ok c.in_ok-before.ensures.updates;
}
