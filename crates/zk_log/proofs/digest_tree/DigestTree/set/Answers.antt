-- The node that was there is lent: its digest goes from the sum, and that of the one that is written comes.
use Rattle.std.proofs.Common.{◌≡◌, ◌<◌, ◌^◌, IsSome, Some, refl, ap, subst, ◌∙◌, arith, rules, w32, FitsSigned}
use Rattle.std.proofs.lemmas.Int.{to_z-of_z}
use Rattle.std.specs.Option.{option_map}
use Rattle.zk_log.specs.Trees.{tree_of, put_at, written, set_at}
use Rattle.zk_log.proofs.DigestLaws.{set_sum}
use Rattle.zk_log.proofs.TreeLaws.{updated_tree}
use Rattle.zk_log.proofs.digest_tree.DigestTree.set.Goals as goal

pub invariant_of-self : goal.invariant_of-self
invariant_of-self g c = record {
  table = c.args.self.now.table;
  same = set_sum c.args.self.now.nodes (c.get_mut.follows.lender c.written-node.result) c.args.path.now c.in-Some.place.now
      c.written-node.result c.args.self.now.sum c.from.result
      c.from-in-Some.result (c.get_mut.follows.holds c.written-node.result).0 c.in-Some.ensures.value
      (c.from.ensures ∙ c.digest-before.ensures.kept) (omega arith) (c.from-in-Some.ensures ∙ c.digest-added.ensures.kept)
      c.args.self.now.same;
}

pub returns-in-Some : goal.returns-in-Some
returns-in-Some g c =
    let content = option_map (λ bytes. bytes.now) c.args.content in
    let tree = tree_of c.args.self.now.nodes in
    let fits : FitsSigned w32 c.args.version = search rules in
    updated_tree c.args.path.now c.args.path.now c.args.self.now.nodes (c.get_mut.follows.lender c.written-node.result) _ refl
    ((c.get_mut.follows.holds c.written-node.result).3 (subst IsSome c.in-Some.ensures.value refl))
    ∙ ap (λ node. put_at c.args.path.now (Some node) tree) c.written-node.ensures
    ∙ ap (λ version. put_at c.args.path.now (Some (written c.args.stamp c.args.path.now content version c.in-Some.place.now)) tree)
    (to_z-of_z w32 c.args.version fits)
    ∙ ap (λ o. set_at c.args.stamp c.args.path.now content c.args.version o tree) c.in-Some.ensures.value
