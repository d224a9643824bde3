-- The loop over the news: what was told, with what the news left will tell, is the whole. At the end none is left. They become fewer.
use Rattle.std.proofs.Common.{◌≡◌, ◌++◌, length, map}
use Rattle.zk_trees.specs.Tending.{trees_told}
use Rattle.zk_agent.specs.Telling.{told_by, TellsTree}
use Rattle.zk_agent.proofs.action.push_trees.Given as goal

-- what was told, and what is left to be told, is all of it
abbrev pub invariant-loop-one : goal.invariant-loop-one
invariant-loop-one g l =
    told_by l.actions.items ++ map TellsTree (trees_told l.left.items)
    ≡ told_by l.fn.actions.items ++ map TellsTree (trees_told l.fn.news.items)

abbrev pub decreases-loop-one : goal.decreases-loop-one
decreases-loop-one g l = length l.left.items
