-- Counts of what is pending.
use Rattle.std.specs.Prelude.{ℕ, ◌≤◌, ◌<◌, ◌^◌, ◌≡◌, List, length, filter}
use Rattle.zk_nodes.specs.declared.side.Side.TheVariants.{Data, Child}
use Rattle.zk_conversation.specs.declared.counts.Counts.{Counts}
use Rattle.zk_conversation.specs.Pending.{Pending, is_close, calls_pending, watches_pending}
use Rattle.zk_limits.specs.declared.limits.TheConstants.{MOST_PENDING}

abbrev pub counts_of : List Pending → Counts
counts_of pending = record {
  calls = calls_pending pending;
  on_data = watches_pending Data pending;
  on_child = watches_pending Child pending;
  closes = length (filter is_close pending);
}

-- what is true of the counts and the next xid of every conversation
pub record IsCounted (pending : List Pending) (counts : Counts) (xid : ℕ) : Type 0 where
  pub counted : counts ≡ counts_of pending
  pub few : counts.calls ≤ MOST_PENDING
  pub first : 1 ≤ xid
  pub below : xid < 2 ^ 31
