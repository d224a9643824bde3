-- The tickets of calls.
use Rattle.std.specs.Prelude.{ℕ, ◌*◌, ◌^◌}

-- Each call of contenders has a ticket from here on: those of programs are below 2^63, those of trees below this one.
abbrev pub first_call : ℕ
first_call = 3 * 2 ^ 62
