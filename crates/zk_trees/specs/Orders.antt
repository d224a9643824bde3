-- In which order the members of a tree stand.
use Rattle.std.specs.Prelude.{⊤, List, drop}
use Rattle.std.specs.List.Sorted.{IsNonDecreasingBy}
use Rattle.zk_trees.specs.declared.member.Member.{Member}

-- each ticket is at or above those before it
abbrev pub AreRising : {A : Type 0} → List (Member A ⊤) → Type 0
AreRising members = IsNonDecreasingBy (λ one. one.ticket) members

-- and so are those after the first, which is that of the root's data: its ticket is the program's
abbrev pub AreInOrder : {A : Type 0} → List (Member A ⊤) → Type 0
AreInOrder members = AreRising (drop 1 members)
