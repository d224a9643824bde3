-- What is left of the paths makes of the history so far what all of them make, and is refused and taken as they are.
use Rattle.std.proofs.Common.{◌≡◌, drop, map, is_some}
use Rattle.zk_log_history.specs.Changes.{named, with_changes, deletions}
use Rattle.zk_log_history.specs.Refused.{first_fault, path_fault}
use Rattle.zk_log_history.proofs.Refused.{AreLeft}
use Rattle.zk_log_history.proofs.closing.delete_all_told.Given as goal

abbrev pub invariant-loop-path : goal.invariant-loop-path
invariant-loop-path g l =
    (with_changes l.history (deletions is_some l.history (map named (drop l.path-index l.paths)))
    ≡ with_changes l.fn.history (deletions is_some l.fn.history (map named l.paths)))
    × AreLeft (first_fault path_fault (drop l.path-index l.paths)) l.history
    (deletions is_some l.history (map named (drop l.path-index l.paths)))
    (first_fault path_fault l.paths) l.fn.history (deletions is_some l.fn.history (map named l.paths))
