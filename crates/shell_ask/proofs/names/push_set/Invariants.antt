-- Loop over the names: what is written and the lines of those left are all lines. With none left all are written.
use Rattle.std.proofs.Common.{◌≡◌, ◌++◌, map}
use Rattle.std.specs.List.{flat_map}
use Rattle.std.specs.Prelude.{string_bytes}
use Rattle.shell_ask.specs.Printing.{name_line}
use Rattle.shell_ask.proofs.names.push_set.Given as goal

-- what is written, and the lines of the names that are left, are all that was to be written
abbrev pub invariant-loop-name : goal.invariant-loop-name
invariant-loop-name g l = string_bytes l.text ++ flat_map name_line (map string_bytes l.name-iterator)
    ≡ string_bytes l.initial.text ++ flat_map name_line (map string_bytes l.names.keys)
