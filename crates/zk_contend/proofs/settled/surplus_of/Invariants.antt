-- The loop over the places: none of the names so far is too many.
use Rattle.std.proofs.Common.{◌≡◌, false, take}
use Rattle.std.specs.List.{list_any}
use Rattle.zk_contend.specs.Settling.{is_surplus}
use Rattle.zk_contend.proofs.settled.surplus_of.Given as goal

-- none of the names so far
abbrev pub invariant-loop-place : goal.invariant-loop-place
invariant-loop-place g l = list_any (is_surplus l.tagged.tag.now l.tagged.least.now) (take l.place l.names) ≡ false
