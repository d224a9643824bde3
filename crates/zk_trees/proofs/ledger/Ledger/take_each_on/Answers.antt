-- One more subject is taken on after those before it (`mapped_next`), and the index stays one of the members; at the end `take_all`.
use Rattle.std.proofs.Common.{◌≤◌, ◌∙◌, List, arith, length, refl, subst}
use Rattle.std.proofs.lemmas.List.{take_all}
use Rattle.zk_trees.specs.Tending.{bed_of, TakesAllOn, TakesItOn}
use Rattle.zk_trees.specs.inner.Tending.{footing_of}
use Rattle.zk_trees.specs.Trees.{aim_of, aims_of}
use Rattle.zk_trees.specs.declared.subject.NodeSide.{NodeSide}
use Rattle.zk_trees.proofs.Growing.{mapped_next}
use Rattle.zk_trees.proofs.ledger.Ledger.take_each_on.Goals as goal

pub loop-subject-init : goal.loop-subject-init
loop-subject-init g c = record { takes = refl; index = c.requires; client = refl }

pub take_on-requires : goal.take_on-requires
take_on-requires g c = c.loop-subject.invariant.index

pub loop-subject-preserved : goal.loop-subject-preserved
loop-subject-preserved g c = record {
  takes = mapped_next (λ at aim after. TakesItOn aim at after) aim_of c.args.subjects.now
      c.loop-subject.subject-index c.subject-item.result
      (bed_of (footing_of c.args.follower.now c.args.self.now) c.args.tree.now)
      (bed_of (footing_of c.loop-subject.follower c.loop-subject.self) c.loop-subject.tree)
      (bed_of (footing_of c.take_on.new.follower c.take_on.new.self) c.take_on.new.tree)
      c.loop-subject-test.true c.subject-item.is c.loop-subject.invariant.takes c.in_ok-take_on.ensures.takes;
  index = c.in_ok-take_on.ensures.index;
  client = c.take_on.ensures.client ∙ c.loop-subject.invariant.client;
}

pub returns-clause-takes : goal.returns-clause-takes
returns-clause-takes g c =
    let subjects = c.args.subjects.now in
    let past : length subjects ≤ c.loop-subject.subject-index = omega (arith, c.loop-subject-test.false) in
    subst (λ (l : List (NodeSide g.row.A.Denot)). TakesAllOn (aims_of l)
    (bed_of (footing_of c.args.follower.now c.args.self.now) c.args.tree.now)
    (bed_of (footing_of c.loop-subject.follower c.loop-subject.self) c.loop-subject.tree))
    (take_all c.loop-subject.subject-index subjects past) c.loop-subject.invariant.takes
