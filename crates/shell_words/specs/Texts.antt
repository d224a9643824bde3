-- Which text may be shown as it is.
use Rattle.std.specs.Prelude.{◌||◌, ◌&&◌, nat_eq, nat_le, ℕ, Bool}

-- A character that turns the direction of what is shown after it, or ends its line there: U+061C, U+200E, U+200F, U+2028 to U+202E, and
-- U+2066 to U+2069.
abbrev pub is_turning : ℕ → Bool
is_turning c =
    nat_eq c 1564 || (nat_le 8206 c && nat_le c 8207) || (nat_le 8232 c && nat_le c 8238) || (nat_le 8294 c && nat_le c 8297)

-- a control character other than tab and newline, U+0000 to U+001F and U+007F to U+009F, and what turns the direction
abbrev pub is_hidden : ℕ → Bool
is_hidden c = (nat_le c 8 || (nat_le 11 c && nat_le c 31) || (nat_le 127 c && nat_le c 159)) || is_turning c
