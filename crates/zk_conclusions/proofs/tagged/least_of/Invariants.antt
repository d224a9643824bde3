-- The loop over the places: none of the names so far is the least with the tag. At the end none of all is, so no name has the tag.
use Rattle.zk_conclusions.proofs.Tags.{NoLeast}
use Rattle.zk_conclusions.proofs.tagged.least_of.Given as goal

-- none of the names so far is the least
abbrev pub invariant-loop-place : goal.invariant-loop-place
invariant-loop-place g l = NoLeast l.names l.tag l.place
