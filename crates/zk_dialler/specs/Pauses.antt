-- How long the pause before an attempt to connect is, in milliseconds.
use Rattle.std.specs.Prelude.{ℕ, zero, suc, ◌+◌, ◌-◌, ◌*◌, ◌/◌, ◌^◌, min, Bool, true, false}
use Rattle.zk_dialler.specs.Chances.{number_below}

-- The longest pause of all: a second, and a tenth of the timeout too until the client was not connected for longer than the timeout.
abbrev pub most_ms : (is_over : Bool) (timeout : ℕ) → ℕ
most_ms false timeout = min 1000 (timeout / 10)
most_ms true timeout = 1000

-- The longest pause after this many attempts that failed in a row: none after none, then 100, and twice as long after each further one.
abbrev pub longest_ms : (failures most : ℕ) → ℕ
longest_ms zero most = 0
longest_ms (suc failures) most = min most (100 * 2 ^ failures)

-- a half of the longest, and of the rest what the state of the chance says
abbrev pub pause_ms : (longest state : ℕ) → ℕ
pause_ms longest state = longest / 2 + number_below (longest - longest / 2 + 1) state
