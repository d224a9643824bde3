-- Those of the group among the places so far were added.
use Rattle.std.proofs.Common.{◌≡◌, ◌++◌, take}
use Rattle.std.specs.List.{filter}
use Rattle.zk_dialler.specs.Moves.{is_ahead}
use Rattle.zk_dialler.proofs.ring.add_group.Given as goal

abbrev pub invariant-loop-place : goal.invariant-loop-place
invariant-loop-place g l = l.order.items ≡ l.fn.order.items ++ filter (is_ahead l.kept l.kept_first) (take l.place-index l.places)
