-- The loop over the commands: after it none is left, so the program has all.
use Rattle.std.proofs.Common.{◌≡◌, drop}
use Rattle.std.specs.Prelude.{fold}
use Rattle.clap.specs.Words.{app_of}
use Rattle.shell_commands.specs.inner.Forms.{with_form}
use Rattle.shell_commands.proofs.forms.with_forms.Given as goal

-- the program with the commands that are left is the one with all
abbrev pub invariant-loop-form : goal.invariant-loop-form
invariant-loop-form l =
    fold with_form (app_of l.made) (drop l.form-index l.forms) ≡ fold with_form (app_of l.initial.made) l.forms
