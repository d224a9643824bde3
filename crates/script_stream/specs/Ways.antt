-- The directions, and their words.
use Rattle.std.specs.Prelude.{ℕ, List, codes, Option, Some, None, bytes_eq, if◌then◌else◌, ◌||◌}
use Rattle.script_stream.specs.declared.way.Way.{Way}
use Rattle.script_stream.specs.declared.way.Way.TheVariants.{Client, Server}

abbrev pub way_mark : Way → List ℕ
way_mark Client = codes ">"
way_mark Server = codes "<"

-- a record says `bytes` of what the server sent
abbrev pub way_of : List ℕ → Option Way
way_of word = if bytes_eq word (codes ">") then Some Client
    else (if bytes_eq word (codes "<") || bytes_eq word (codes "bytes") then Some Server else None)
