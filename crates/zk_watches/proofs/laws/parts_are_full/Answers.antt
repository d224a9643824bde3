-- The parts of lists with short paths are so cut: `parts_are_full`, by induction over the watches in their order.
use Rattle.zk_watches.proofs.GreedyLemmas.{parts_are_full}
use Rattle.zk_watches.proofs.laws.parts_are_full.Goals as goal

pub returns : goal.returns
returns c = parts_are_full
