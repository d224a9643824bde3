-- The law is `only_answer`: a walk is whole, and distinct paths that are reached are all in the walk, so they are no more (`no_more`).
use Rattle.zk_conclusions.proofs.Counting.{only_answer}
use Rattle.zk_conclusions.proofs.laws.no_refusal.Goals as goal

pub returns : goal.returns
returns c = only_answer
