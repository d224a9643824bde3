-- The loop over the calls: of those so far the limits of the ones that are left are known, of the others all.
use Rattle.std.proofs.Common.{◌≡◌, ◌+◌, ℕ, take, drop}
use Rattle.zk_calls.specs.Lines.{left}
use Rattle.zk_calls.specs.Orders.{calls_at}
use Rattle.zk_calls.proofs.Soonest.{many}
use Rattle.zk_calls.proofs.ending.release.Given as goal

-- the limits of those that are left so far, and of those to come
abbrev pub invariant-loop-place : goal.invariant-loop-place
invariant-loop-place g l = (limit : ℕ)
    → calls_at l.limits limit ≡ many limit (left l.ending (take l.place l.entries.items)) + many limit (drop l.place l.entries.items)
