-- What a client is handed by its callers, in range: a session to begin with, and what is asked.
use Rattle.std.specs.Prelude.{◌<◌, ◌≤◌, ◌≤ℤ◌, ◌^◌, pos, length, FitsSigned}
use Rattle.std.specs.Int.{w64}
use Rattle.zk_turns.specs.Turns.{Start}
use Rattle.zk_limits.specs.declared.limits.TheConstants.{LONGEST_PASSWORD}
pub use Rattle.zk_turns.specs.Turns.{AsksOf, AllAskOf, IsTyped, IsPathCall}

-- What may be taken up: the numbers are of their types and the last seen zxid is not below 0, and the password is not longer
-- than is admitted.
pub record IsResumable (start : Start) : Type 0 where
  pub timeout : start.timeout < 2 ^ 31
  pub session : FitsSigned w64 start.session
  pub password : length start.password ≤ LONGEST_PASSWORD
  pub last : FitsSigned w64 start.last
  pub counts : pos 0 ≤ℤ start.last
