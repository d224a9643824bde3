-- The loop over the members: at its end none is left, so the tickets found are those of all members that are gone.
use Rattle.std.proofs.Common.{◌≡◌, ◌++◌, drop}
use Rattle.zk_client.specs.Clients.{view_of}
use Rattle.zk_trees.specs.Trees.{tickets_gone}
use Rattle.zk_trees.proofs.leaving.tickets_gone.Given as goal

-- what was found, with what is left to be found
abbrev pub invariant-loop-one : goal.invariant-loop-one
invariant-loop-one g l =
    l.tickets.items ++ tickets_gone (view_of l.client) (drop l.one-index l.members) ≡ tickets_gone (view_of l.client) l.members
