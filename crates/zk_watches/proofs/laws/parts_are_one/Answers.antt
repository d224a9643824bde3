-- What is so cut is the parts: `parts_are_one`, from the first part on.
use Rattle.zk_watches.proofs.GreedyLemmas.{parts_are_one}
use Rattle.zk_watches.proofs.laws.parts_are_one.Goals as goal

pub returns : goal.returns
returns c = parts_are_one
