-- How contenders stand, as numbers.
use Rattle.std.specs.Prelude.{ℕ, pos}
use Rattle.zk_contend.specs.declared.refused.Obstacle.{Obstacle}
use Rattle.zk_contend.specs.declared.refused.Obstacle.TheVariants as why
use Rattle.zk_contend.specs.declared.status.LockStatus.{LockStatus}
use Rattle.zk_contend.specs.declared.status.LockStatus.TheVariants as stands
use Rattle.ffi_device.specs.Flats.{plain}
use Rattle.ffi_device.specs.declared.flat.Flat.{Flat}

-- why a contender pauses
abbrev pub obstacle_flat : Obstacle → Flat
obstacle_flat (why.Code code) = record (plain (pos 20) (pos 1)) { code = code }
obstacle_flat why.TooManyWatches = plain (pos 20) (pos 2)
obstacle_flat why.TooLarge = plain (pos 20) (pos 3)
obstacle_flat why.SessionClosed = plain (pos 20) (pos 4)
obstacle_flat why.NumbersUsedUp = plain (pos 20) (pos 5)
obstacle_flat why.MixedNames = plain (pos 20) (pos 6)

-- How a contender stands. That it contends is told after that it held alone: it has lost its place.
abbrev pub status_flat : LockStatus → Flat
status_flat stands.Waits = plain (pos 17) (pos 0)
status_flat (stands.Holds token) = record (plain (pos 18) (pos 0)) { zxid = token }
status_flat stands.Contends = plain (pos 19) (pos 0)
status_flat (stands.Refused why) = obstacle_flat why
status_flat stands.GivenUp = plain (pos 21) (pos 0)

-- the same of the contender of a ticket
abbrev pub standing_flat : ℕ × LockStatus → Flat
standing_flat one = record (status_flat one.1) { ticket = one.0 }
