-- Where a server is, in words: a host and a port.
use Rattle.std.specs.Prelude.{ℕ, ◌==◌, nat_lt, if◌then◌else◌, [], ◌∷◌, length, codes, Option, Some, None}
use Rattle.std.specs.List.{position_or_len, before_first, after_first}
use Rattle.zk_nodes.specs.Path.{Text}

-- what stands before the first byte of this value, and what stands after it
abbrev pub parted : ℕ → Text → Option (Text × Text)
parted separator text =
    if nat_lt (position_or_len (λ b. b == separator) text) (length text)
    then Some (before_first (λ b. b == separator) text, after_first (λ b. b == separator) text) else None

-- the second of two texts, where the first is empty
abbrev pub second : Option (Text × Text) → Option Text
second None = None
second (Some ([], text)) = Some text
second (Some (b ∷ bytes, text)) = None

-- the port of a host that names none
abbrev pub usual_port : Text
usual_port = codes "2181"

-- the port after brackets: after a colon, or the usual one where nothing follows them
abbrev pub port_behind : Text → Option Text
port_behind [] = Some usual_port
port_behind (b ∷ bytes) = second (parted 58 (b ∷ bytes))

-- the name and the port, where both are there
abbrev pub with_port : Option Text → Option Text → Option (Text × Text)
with_port (Some name) (Some port) = Some (name, port)
with_port _ _ = None

-- what stands before a colon and after it; or all, with the usual port
abbrev pub with_usual : Text → Option (Text × Text) → Option (Text × Text)
with_usual text None = Some (text, usual_port)
with_usual text (Some parts) = Some parts

-- by what stands before the first closing bracket and after it
abbrev pub by_bracket : Text → Option (Text × Text) → Option (Text × Text)
by_bracket text None = with_usual text (parted 58 text)
by_bracket text (Some parts) = with_port (second (parted 91 parts.0)) (port_behind parts.1)

-- The host and the port of NAME, NAME:PORT, [NAME] or [NAME]:PORT.
abbrev pub host_of : Text → Option (Text × Text)
host_of text = by_bracket text (parted 93 text)
