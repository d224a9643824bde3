-- The law of tickets by a count is the lemma `below_by_count` of `Counted`.
use Rattle.ffi_c.proofs.Counted.{below_by_count}
use Rattle.ffi_c.proofs.laws.below_by_count.Goals as goal

pub returns : goal.returns
returns c = below_by_count
