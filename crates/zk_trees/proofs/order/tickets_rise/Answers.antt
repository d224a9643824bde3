-- The last of two or more is not above the one that comes after it.
use Rattle.zk_trees.proofs.Searching.{rises_on}
use Rattle.zk_trees.proofs.order.tickets_rise.Goals as goal

pub returns-then-so_far : goal.returns-then-so_far
returns-then-so_far g c last =
    rises_on c.args.members.now c.args.one.now c.index-members-count.result c.if-count-lt2.false (c.requires c.if-so_far.true) last
