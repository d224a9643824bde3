-- The loop over the names: none of those before is a rival.
use Rattle.std.proofs.Common.{◌≡◌, false, take}
use Rattle.std.specs.List.{list_any}
use Rattle.zk_conclusions.specs.inner.Holders.{is_rival}
use Rattle.zk_conclusions.proofs.firsts.has_rival.Given as goal

abbrev pub invariant-loop-at : goal.invariant-loop-at
invariant-loop-at g l = list_any (is_rival l.prefix l.own) (take l.at l.names) ≡ false
