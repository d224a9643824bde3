-- What is left of the entries tells after those before it what all of them tell.
use Rattle.std.proofs.Common.{◌≡◌, drop, map}
use Rattle.zk_log.specs.Views.{placed_of}
use Rattle.zk_log_history.specs.Known.{entries_told}
use Rattle.zk_log_history.proofs.logged_path.LoggedPath.with.Given as goal

abbrev pub invariant-loop-one : goal.invariant-loop-one
invariant-loop-one g l =
    entries_told (map placed_of (drop l.one-index l.entries)) l.told ≡ entries_told (map placed_of l.entries) l.fn.self
