-- What is left of the paths makes of the history so far what all of them make, and is refused and taken as they are.
use Rattle.std.proofs.Common.{◌≡◌, drop, map}
use Rattle.zk_nodes.specs.Path.{path_of}
use Rattle.zk_log_history.specs.Changes.{is_owned, with_changes, deletions}
use Rattle.zk_log_history.specs.Refused.{first_fault}
use Rattle.zk_log_history.proofs.Refused.{AreLeft, faultless}
use Rattle.zk_log_history.proofs.closing.delete_all_owned.Given as goal

abbrev pub invariant-loop-path : goal.invariant-loop-path
invariant-loop-path g l =
    (with_changes l.history (deletions (is_owned l.session) l.history (map path_of (drop l.path-index l.paths)))
    ≡ with_changes l.fn.history (deletions (is_owned l.session) l.fn.history (map path_of l.paths)))
    × AreLeft (first_fault faultless (drop l.path-index l.paths)) l.history
    (deletions (is_owned l.session) l.history (map path_of (drop l.path-index l.paths)))
    (first_fault faultless l.paths) l.fn.history (deletions (is_owned l.session) l.fn.history (map path_of l.paths))
