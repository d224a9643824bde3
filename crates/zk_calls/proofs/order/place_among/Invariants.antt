-- The loop over the calls: none so far is handed over with this ticket. So a hit is the first, and at the end there is none.
use Rattle.std.proofs.Common.{◌≡◌, ◌<◌, ℕ, false, get_or}
use Rattle.zk_calls.specs.declared.entry.Entry.{Entry}
use Rattle.zk_calls.specs.declared.entry.Ending.TheVariants.{LostOf}
use Rattle.zk_calls.specs.Lines.{is_ended}
use Rattle.zk_calls.proofs.order.place_among.Given as goal

-- none of those so far is it
abbrev pub invariant-loop-place : goal.invariant-loop-place
invariant-loop-place g l = (k : ℕ) (d : Entry g.row.A.Denot) → k < l.place → is_ended (LostOf l.ticket) (get_or l.entries.items k d) ≡ false
