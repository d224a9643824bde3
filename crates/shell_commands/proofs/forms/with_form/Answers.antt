-- The command has the rules of its rows, and stands after the program's others: by `added`, as words leave a command plain (`still_plain`).
use Rattle.std.proofs.Common.{rules, ◌≡◌, ◌∙◌, List, [], ◌∷◌, ap, refl, true}
use Rattle.std.specs.Prelude.{fold}
use Rattle.std.specs.Borrow.{Bor}
use Rattle.std.proofs.lemmas.Result.{IfOk-weaker}
use Rattle.clap.specs.Words.{App, Text, app_of, new_app}
use Rattle.shell_commands.specs.declared.forms.Slot.{Slot}
use Rattle.shell_commands.specs.inner.Forms.{form_app, with_row}
use Rattle.shell_commands.proofs.FormLemmas.{added}
use Rattle.shell_commands.proofs.forms.with_form.Goals as goal

still_plain : (app : App) (rows : List (Bor Text × Slot × Bor Text)) → app.top.is_plain ≡ true
    → (fold with_row app rows).top.is_plain ≡ true
still_plain app [] is = is
still_plain app (row ∷ rows) is = still_plain (with_row app row) rows is

pub returns : goal.returns
returns c =
    let form = c.args.form.now in
    let new : app_of c.after_help-new.result ≡ new_app form.name.now = search rules in
    let command : app_of c.in_ok-command.command ≡ form_app form =
    c.in_ok-command.ensures ∙ ap (λ (app : App). fold with_row app form.rows.now) new in
    IfOk-weaker c.subcommand.result _ _
    (λ shell adds. added c.args.shell c.in_ok-command.command shell (form_app form) command
    (still_plain (new_app form.name.now) form.rows.now refl) adds) c.subcommand.ensures
