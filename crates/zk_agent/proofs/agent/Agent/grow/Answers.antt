-- What is told of trees by `tend` and by `alter` is told after each other, and the subjects come and go with it (`grows`, `grown`).
use Rattle.zk_agent.proofs.Grown.{grown, grows, ok_so}
use Rattle.zk_agent.proofs.agent.Agent.grow.Goals as goal

pub returns-clause-grows : goal.returns-clause-grows
returns-clause-grows g c =
    ok_so c.push_trees-2.result (grows c.args.self.now c.tend.new.self c.alter.new.self c.in_ok-tended.tended.items
    c.in_ok-altered.altered.items c.args.actions.now.items c.push_trees.new.actions.items c.push_trees-2.new.actions.items
    c.tend.ensures.client c.alter.ensures.client c.tend.ensures.line c.alter.ensures.line c.in_ok-push_trees.ensures
    c.args.now c.args.input.now c.args.trees.now c.tend.new.trees c.alter.new.trees
    c.in_ok-tended.ensures.tends c.in_ok-altered.ensures.alters) c.push_trees-2.ensures

pub returns-clause-comes : goal.returns-clause-comes
returns-clause-comes g c =
    ok_so c.push_trees-2.result (grown c.args.self.now c.tend.new.self c.alter.new.self c.in_ok-tended.tended.items
    c.in_ok-altered.altered.items c.args.actions.now.items c.push_trees.new.actions.items c.push_trees-2.new.actions.items
    c.tend.ensures.client c.alter.ensures.client c.tend.ensures.line c.alter.ensures.line c.in_ok-push_trees.ensures
    c.args.now c.in_ok-tended.ensures.told c.in_ok-altered.ensures.told) c.push_trees-2.ensures
