-- The loop over the texts, each with its number: after it no text is left, so the lines of all are written after the old text.
use Rattle.std.proofs.Common.{◌≡◌, ◌++◌, drop}
use Rattle.std.specs.Prelude.{string_bytes}
use Rattle.shell_commands.specs.Print.{numbered_lines}
use Rattle.shell_commands.proofs.fields.push_numbered.Given as goal

-- what is written, and the lines of the texts that are left, are all that was to be written
abbrev pub invariant-loop-number : goal.invariant-loop-number
invariant-loop-number g l = string_bytes l.text ++ numbered_lines l.name l.number (drop l.number l.values)
    ≡ string_bytes l.initial.text ++ numbered_lines l.name 0 l.values
