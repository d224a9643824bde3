-- Sets of names in byte order.
use Rattle.std.specs.Ordering.{nat_cmp}
use Rattle.std.specs.declared.cmp.Ordering.{Ordering}
use Rattle.std.specs.Cmp.Lexicographic.{slice_cmp}
use Rattle.std.specs.FinSet as set
use Rattle.zk_nodes.specs.Path.{Name}

-- the names of children, as a set in byte order
abbrev pub name_cmp : Name → Name → Ordering
name_cmp = slice_cmp nat_cmp

-- sets of names in byte order
abbrev pub Names : Type 0
Names = set.FinSet name_cmp
