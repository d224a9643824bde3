-- Loop over the names: the set is made of the names so far. At the end they are all names.
use Rattle.std.proofs.Common.{◌≡◌, take}
use Rattle.std.specs.FinSet as set
use Rattle.zk_nodes.specs.inner.Names.{names_of}
use Rattle.script_replay.proofs.name_sets.set_of.Given as goal

-- the names so far are the set
abbrev pub invariant-loop-index : goal.invariant-loop-index
invariant-loop-index g l = names_of l.set ≡ set.from_list (take l.index l.names)
