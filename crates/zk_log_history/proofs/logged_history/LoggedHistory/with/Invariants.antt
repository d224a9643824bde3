-- What is left of the entries makes of the history so far what all of them make, what is kept of sessions is right, and what is left is
-- told,
-- and stops, as all of them.
use Rattle.std.proofs.Common.{◌≡◌, drop, map}
use Rattle.zk_log.specs.Views.{entry_of, placed_of}
use Rattle.zk_log_history.specs.Following.{with_entries}
use Rattle.zk_log_history.specs.Made.{AreMade}
use Rattle.zk_log_history.specs.Refused.{AreTold, StopsAt}
use Rattle.zk_log_history.specs.declared.untold.UntoldEntry.{UntoldEntry}
use Rattle.zk_log_history.proofs.logged_history.LoggedHistory.with.Given as goal

abbrev pub invariant-loop-one : goal.invariant-loop-one
invariant-loop-one g l =
    (with_entries l.history (map (λ one. entry_of one.entry) (drop l.one-index l.entries))
    ≡ with_entries l.fn.self (map (λ one. entry_of one.entry) l.entries))
    × AreMade l.made l.history
    × (AreTold l.history (map (λ one. entry_of one.entry) (drop l.one-index l.entries))
    → AreTold l.fn.self (map (λ one. entry_of one.entry) l.entries))
    × ((fault : UntoldEntry) → StopsAt l.history (map placed_of (drop l.one-index l.entries)) fault
    → StopsAt l.fn.self (map placed_of l.entries) fault)
