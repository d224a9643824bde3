-- Addresses: four numbers, joined by dots, and a port. And servers: a host and a port.
use Rattle.std.specs.Prelude.{ℕ, ◌==◌, ◌&&◌, not, is_some, Bool, false, [], ◌∷◌, Option, Some, None}
use Rattle.zk_link.specs.Hosts.{host_of, parted}
use Rattle.zk_nodes.specs.Path.{Text}
use Rattle.script_words.specs.Numbers.{natural_of}

-- a number from 0 to 255
abbrev pub is_part : Text → Bool
is_part word = is_some (natural_of 255 word)

abbrev pub is_some_port : Option ℕ → Bool
is_some_port (Some port) = not (port == 0)
is_some_port None = false

-- a number from 1 to 65,535
abbrev pub is_port : Text → Bool
is_port word = is_some_port (natural_of 65535 word)

-- the one before a separator and the other after it
abbrev pub both : (Text → Bool) → (Text → Bool) → Option (Text × Text) → Bool
both one other (Some parts) = one parts.0 && other parts.1
both one other None = false

-- two numbers, joined by a dot
abbrev pub are_two : Text → Bool
are_two text = both is_part is_part (parted 46 text)

abbrev pub are_three : Text → Bool
are_three text = both is_part are_two (parted 46 text)

abbrev pub are_four : Text → Bool
are_four text = both is_part are_three (parted 46 text)

-- four numbers, a colon and a port
abbrev pub is_address : Text → Bool
is_address text = both are_four is_port (parted 58 text)

-- whether a byte of this value is not in a text
abbrev pub lacks : ℕ → Text → Bool
lacks byte text = not (is_some (parted byte text))

-- The name of a host, which may be an address in numbers: not empty, without a space, a comma, a slash and an opening bracket.
abbrev pub is_name : Text → Bool
is_name [] = false
is_name (b ∷ bytes) = lacks 32 (b ∷ bytes) && (lacks 44 (b ∷ bytes) && (lacks 47 (b ∷ bytes) && lacks 91 (b ∷ bytes)))

-- NAME, NAME:PORT, [NAME] or [NAME]:PORT
abbrev pub is_server : Text → Bool
is_server text = both is_name is_port (host_of text)
