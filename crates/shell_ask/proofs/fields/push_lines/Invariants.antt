-- Loop over the fields: what is written and the lines of those left are all lines. With none left all are written.
use Rattle.std.proofs.Common.{◌≡◌, ◌++◌, drop, map}
use Rattle.std.specs.Prelude.{string_bytes}
use Rattle.shell_ask.specs.Printing.{field_lines}
use Rattle.shell_ask.proofs.fields.push_lines.Given as goal

-- what is written, and the lines of the fields that are left, are all that was to be written
abbrev pub invariant-loop-name : goal.invariant-loop-name
invariant-loop-name g l =
    string_bytes l.text ++ field_lines (map (λ field. (field.0.now, field.1)) (drop l.name-index l.fields))
    ≡ string_bytes l.initial.text ++ field_lines (map (λ field. (field.0.now, field.1)) l.fields)
