-- A new map has no rows, and those are numbered from 0 on: `numbered-none`.
use Rattle.std.proofs.Common.{ap, map}
use Rattle.zk_watches.proofs.RowLemmas.{row_of, numbered-none}
use Rattle.zk_watches.proofs.ordered.Ordered.new.Goals as goal

pub invariant_of-result : goal.invariant_of-result
invariant_of-result g c = rw (ap (map row_of) c.new.ensures.empty) numbered-none
