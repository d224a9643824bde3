-- The loop over the rows: after it none is left, so the command has the words of all.
use Rattle.std.proofs.Common.{◌≡◌, drop}
use Rattle.std.specs.Prelude.{fold}
use Rattle.clap.specs.Words.{app_of}
use Rattle.shell_commands.specs.inner.Forms.{with_row}
use Rattle.shell_commands.proofs.forms.with_rows.Given as goal

-- the command with the words of the rows that are left is the one with those of all
abbrev pub invariant-loop-row : goal.invariant-loop-row
invariant-loop-row l =
    fold with_row (app_of l.made) (drop l.row-index l.rows) ≡ fold with_row (app_of l.initial.made) l.rows
