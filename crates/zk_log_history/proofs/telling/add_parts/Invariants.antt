-- What is left of the parts makes of the history so far what all of them make, what is kept of sessions is right, and what is left is
-- refused
-- and taken as all of them.
use Rattle.std.proofs.Common.{◌≡◌, drop, map}
use Rattle.zk_log.specs.Views.{part_of}
use Rattle.zk_log_history.specs.Changes.{with_changes, all_changes}
use Rattle.zk_log_history.specs.Made.{AreMade}
use Rattle.zk_log_history.specs.Refused.{first_fault, part_fault}
use Rattle.zk_log_history.proofs.Refused.{AreLeft}
use Rattle.zk_log_history.proofs.telling.add_parts.Given as goal

abbrev pub invariant-loop-part : goal.invariant-loop-part
invariant-loop-part g l =
    (with_changes l.history (all_changes l.session (map part_of (drop l.part-index l.parts)))
    ≡ with_changes l.fn.history (all_changes l.session (map part_of l.parts)))
    × (AreMade l.fn.made l.fn.history → AreMade l.made l.history)
    × AreLeft (first_fault part_fault (map part_of (drop l.part-index l.parts))) l.history
    (all_changes l.session (map part_of (drop l.part-index l.parts)))
    (first_fault part_fault (map part_of l.parts)) l.fn.history (all_changes l.session (map part_of l.parts))
