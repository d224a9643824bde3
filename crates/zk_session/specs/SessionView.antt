-- What a session keeps.
use Rattle.std.specs.Prelude.{ℕ, ℤ, pos, ◌≤◌, ◌<◌, ◌≤ℤ◌, ◌^◌, List, replicate}
use Rattle.zk_session.specs.declared.states.State.{State}
use Rattle.zk_session.specs.declared.states.State.TheVariants.{Idle}

-- the session that an accepted response gives
pub record Welcome : Type 0 where
  pub timeout : ℕ
  pub session : ℤ
  pub password : List ℕ

-- the session of the last accepted response, the timeout first asked for, and the last seen zxid
pub record Saved : Type 0 where
  pub asked : ℕ
  pub session : Welcome
  pub last : ℤ

-- the latest moment, that of the connection's beginning or of what was last heard, and the same of what was last sent
pub record Moments : Type 0 where
  pub now : ℕ
  pub heard : ℕ
  pub sent : ℕ

pub record SessionView : Type 0 where
  pub state : State
  pub saved : Saved
  pub moments : Moments

-- a session that has met no server yet, and is to begin with this one
abbrev pub start : ℕ → ℤ → List ℕ → ℤ → SessionView
start asked session password last = record {
  state = Idle;
  saved = record { asked = asked; session = record { timeout = asked; session = session; password = password }; last = last };
  moments = record { now = 0; heard = 0; sent = 0 };
}

-- the password before any server gave one
abbrev pub no_password : List ℕ
no_password = replicate 16 0

abbrev pub new_start : ℕ → SessionView
new_start asked = start asked (pos 0) no_password (pos 0)

-- what is true of the numbers of every session
pub record IsInRange (asked now heard sent : ℕ) (last : ℤ) : Type 0 where
  pub asks : asked < 2 ^ 31
  pub heard_before : heard ≤ now
  pub sent_before : sent ≤ now
  pub last_counts : pos 0 ≤ℤ last
