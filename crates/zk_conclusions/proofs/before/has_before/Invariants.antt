-- The loop over the places: none of the names so far is a rival's before `own`.
use Rattle.std.proofs.Common.{◌≡◌, ◌&&◌, false, take}
use Rattle.std.specs.List.{list_any}
use Rattle.zk_conclusions.specs.Kinds.{kind_of}
use Rattle.zk_conclusions.specs.Numbers.{is_before, is_rival}
use Rattle.zk_conclusions.proofs.before.has_before.Given as goal

abbrev pub invariant-loop-place : goal.invariant-loop-place
invariant-loop-place g l = list_any (λ name. is_rival (kind_of l.kind) name && is_before name l.own) (take l.place l.names) ≡ false
