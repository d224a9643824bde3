-- One more member is in the index after those before it (`indexed_more`); after the loop all are (`take_all`).
use Rattle.std.proofs.Common.{◌≤◌, List, arith, length, subst}
use Rattle.std.proofs.lemmas.List.{take_all}
use Rattle.zk_trees.specs.inner.Trees.{IsIndexOf}
use Rattle.zk_trees.specs.declared.member.Member.{Member}
use Rattle.zk_trees.proofs.Indexing.{indexed_more}
use Rattle.zk_trees.proofs.index.index_of.Goals as goal

pub loop-one-init : goal.loop-one-init
loop-one-init g c = c.new-index.ensures

pub loop-one-preserved : goal.loop-one-preserved
loop-one-preserved g c =
    indexed_more c.loop-one.index c.add.new.self c.args.members.now c.loop-one.one-index c.one-item.result
    c.loop-one-test.true c.one-item.is c.in_ok-add.ensures c.loop-one.invariant

pub returns : goal.returns
returns g c =
    let past : length c.args.members.now ≤ c.loop-one.one-index = omega (arith, c.loop-one-test.false) in
    subst (λ (l : List (Member _ _)). IsIndexOf c.loop-one.index l) (take_all c.loop-one.one-index c.args.members.now past)
    c.loop-one.invariant
