-- When the next attempt to connect may begin.
use Rattle.std.specs.Prelude.{◌≡◌, ℕ, ◌+◌, ◌-◌, ◌/◌, ◌^◌, min, max, nat_le, nat_lt, if◌then◌else◌, Bool, Option, Some, None}
use Rattle.zk_dialler.specs.Chances.{next_state}
use Rattle.zk_dialler.specs.Pauses.{longest_ms, most_ms, pause_ms}
use Rattle.zk_dialler.specs.declared.backoff.Backoff.{Backoff}

-- when the client was connected last, or else when the first attempt began
abbrev pub connected_by : Option ℕ → (began : ℕ) → ℕ
connected_by None began = began
connected_by (Some moment) began = moment

-- An attempt is made. It counts as one that failed. The next one begins after the pause, and not within a third of a second after this one
-- has begun.
pub record Attempts (timeout began done : ℕ) (old new : Backoff) : Type 0 where
  pub connected : new.connected ≡ Some (connected_by old.connected began)
  pub failures : new.failures ≡ min (old.failures + 1) (2 ^ 32 - 1)
  pub chance : new.chance.state ≡ next_state old.chance.state
  pub ended : new.ended ≡ done
  pub least : new.least ≡ min (began + 334) (2 ^ 64 - 1)
  pub moment : new.moment
      ≡ max (min (done + pause_ms (longest_ms new.failures (most_ms (nat_lt timeout (done - connected_by old.connected began)) timeout))
      new.chance.state) (2 ^ 64 - 1)) new.least

-- A server refused at this moment. Once for each of this many addresses, in a row of failures, the next address has its turn at once.
abbrev pub refused_at : (count done : ℕ) → Backoff → Backoff
refused_at count done backoff =
    if nat_lt backoff.failures count then record backoff { least = done; moment = done } else backoff

-- no failures any more: there is no pause except the third of a second
abbrev pub row_ended : Backoff → Backoff
row_ended backoff = record backoff { failures = 0; moment = backoff.least }

-- whether a connection has lived for a third of the timeout
abbrev pub has_lived : (timeout ended now : ℕ) → Bool
has_lived timeout ended now = nat_le (ended + timeout / 3) now

-- the client is connected at this moment
abbrev pub connected_at : (timeout now : ℕ) → Backoff → Backoff
connected_at timeout now backoff =
    if has_lived timeout backoff.ended now then row_ended (record backoff { connected = Some now })
    else record backoff { connected = Some now }
