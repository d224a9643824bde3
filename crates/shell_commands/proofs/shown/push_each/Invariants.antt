-- The loop over the records: after it no record is left, so the lines of all are written after the old text.
use Rattle.std.proofs.Common.{◌≡◌, ◌++◌, drop, map}
use Rattle.std.specs.Prelude.{string_bytes}
use Rattle.std.specs.List.{flat_map}
use Rattle.shell_commands.specs.Print.{lines_of}
use Rattle.shell_commands.proofs.shown.push_each.Given as goal

-- what is written, and the lines of the records that are left, are all that was to be written
abbrev pub invariant-loop-value : goal.invariant-loop-value
invariant-loop-value g l =
    string_bytes l.text ++ flat_map (lines_of g.R.Record.layout g.R.Shown.names) (map g.R.Record.view (drop l.value-index l.values))
    ≡ string_bytes l.initial.text ++ flat_map (lines_of g.R.Record.layout g.R.Shown.names) (map g.R.Record.view l.values)
