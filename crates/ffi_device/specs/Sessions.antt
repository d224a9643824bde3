-- A session that is put away and taken up, and the numbers of states.
use Rattle.std.specs.Prelude.{ℕ, ℤ, unsigned_abs}
use Rattle.zk_session.specs.SessionView.{Saved}
use Rattle.zk_session.specs.declared.states.State.{State}
use Rattle.zk_session.specs.declared.states.State.TheVariants.{Idle, Connecting, Connected, Expired, Closed}
use Rattle.zk_frames.specs.Limits.{standard_limits}
use Rattle.zk_turns.specs.Turns.{Start}
use Rattle.zk_client.specs.SavedSessions.{PutAway}

-- what is put away of a session
abbrev pub put_of : Saved → PutAway
put_of kept = record { session = kept.session.session; password = kept.session.password; last = kept.last }

-- what a client begins with that takes it up
abbrev pub put_start : (timeout : ℤ) → PutAway → Start
put_start timeout put = record {
  timeout = unsigned_abs timeout;
  session = put.session;
  password = put.password;
  last = put.last;
  limits = standard_limits;
}

-- the number of a state
abbrev pub state_number : State → ℕ
state_number Idle = 0
state_number Connecting = 1
state_number Connected = 2
state_number Expired = 3
state_number Closed = 4
