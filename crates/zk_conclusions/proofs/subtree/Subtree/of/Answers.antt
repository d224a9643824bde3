-- The paths are those of a walk, as `walk` ensures, so they are the history's nodes there: `one_subtree_here` and `paths_are_all`.
use Rattle.zk_client.specs.Clients.{view_of}
use Rattle.zk_conclusions.proofs.Reached.{one_subtree_here, paths_are_all}
use Rattle.zk_conclusions.proofs.subtree.Subtree.of.Goals as goal

pub returns-clause-holds : goal.returns-clause-holds
returns-clause-holds g c h served =
    one_subtree_here h (view_of c.args.client.now) c.args.root.now served c.in_ok-paths.ensures.is c.in_ok-paths.ensures.walk.whole

pub returns-clause-all : goal.returns-clause-all
returns-clause-all g c h served =
    paths_are_all h (view_of c.args.client.now) c.args.root.now c.in_ok-paths.paths.items served c.in_ok-paths.ensures.is
    c.in_ok-paths.ensures.walk.whole c.in_ok-paths.ensures.walk.reached
