-- The loop over a record's fields: after it no field is left, so the lines of all are written after the old text.
use Rattle.std.proofs.Common.{◌≡◌, ◌++◌, drop}
use Rattle.std.specs.Prelude.{string_bytes}
use Rattle.std.specs.List.{flat_map}
use Rattle.shell_commands.proofs.FieldLemmas.{line_of}
use Rattle.shell_commands.proofs.fields.push_fields.Given as goal

-- what is written, and the lines of the fields that are left, are all that was to be written
abbrev pub invariant-loop-name : goal.invariant-loop-name
invariant-loop-name g l =
    string_bytes l.text ++ flat_map line_of (drop l.name-index l.fields) ≡ string_bytes l.initial.text ++ flat_map line_of l.fields
