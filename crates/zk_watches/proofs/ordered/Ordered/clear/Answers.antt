-- After `clear` the map has no rows, and those are numbered from 0 on: `numbered-none`.
use Rattle.std.proofs.Common.{ap, map}
use Rattle.zk_watches.proofs.RowLemmas.{row_of, numbered-none}
use Rattle.zk_watches.proofs.ordered.Ordered.clear.Goals as goal

pub invariant_of-self : goal.invariant_of-self
invariant_of-self g c = rw (ap (map row_of) c.clear.ensures.empty) numbered-none
