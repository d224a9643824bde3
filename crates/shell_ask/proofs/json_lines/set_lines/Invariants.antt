-- Loop over the names: the lines so far and those of the names left are all lines. With none left they are all.
use Rattle.std.proofs.Common.{◌≡◌, ◌++◌, map, codes}
use Rattle.std.specs.List.{flat_map}
use Rattle.std.specs.Prelude.{string_bytes}
use Rattle.shell_ask.specs.Printing.{text_line}
use Rattle.shell_ask.proofs.json_lines.set_lines.Given as goal

-- the lines that are written, and those of the names that are left, are all
abbrev pub invariant-loop-name : goal.invariant-loop-name
invariant-loop-name g l =
    l.lines.items ++ flat_map (text_line (codes "name")) (map string_bytes l.name-iterator)
    ≡ flat_map (text_line (codes "name")) (map string_bytes l.names.keys)
