-- What contracts of private functions say: nobody has to believe it.
use Rattle.std.specs.Prelude.{ℕ, ℤ, negsuc, pos, Option, Some}
use Rattle.std.specs.Prelude.{None}

-- the number that is written for a length or a count, or for null
abbrev pub number_of : Option ℕ → ℤ
number_of None = negsuc 0
number_of (Some count) = pos count
