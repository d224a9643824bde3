-- The loop behind the calls handed over: none before this place waits. So a hit is the first, and at the end none waits.
use Rattle.std.proofs.Common.{◌≡◌, ◌<◌, ℕ, false, get_or}
use Rattle.zk_calls.specs.declared.entry.Entry.{Entry}
use Rattle.zk_calls.specs.Lines.{waits_turn}
use Rattle.zk_calls.proofs.turn.place_of_next.Given as goal

-- those so far were handed over
abbrev pub invariant-loop-place : goal.invariant-loop-place
invariant-loop-place g l = (k : ℕ) (d : Entry g.row.A.Denot) → k < l.place → waits_turn (get_or l.entries.items k d) ≡ false
