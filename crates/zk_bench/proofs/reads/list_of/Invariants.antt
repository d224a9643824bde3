-- Of the loop over the names. At its end no name is left, so the elements are the texts of all names, in their order.
use Rattle.std.proofs.Common.{◌≡◌, ◌++◌, map, Some, string_bytes}
use Rattle.zk_bench.proofs.reads.list_of.Given as goal

-- the texts so far, and those of the names that are left, are those of all names
abbrev pub invariant-loop-name : goal.invariant-loop-name
invariant-loop-name g l = l.elements.items ++ map Some (map string_bytes l.name-iterator) ≡ map Some (map string_bytes l.fn.names.keys)
