-- The program with the commands of the table is `shell_app`, of the kinds that the table has: by what `with_forms` ensures, computed.
use Rattle.std.proofs.Common.{rules, ◌≡◌, ◌∙◌, List, [], ◌∷◌, ap, refl}
use Rattle.std.specs.Prelude.{fold}
use Rattle.std.specs.Borrow.{Bor}
use Rattle.std.proofs.lemmas.Result.{IfOk-weaker}
use Rattle.clap.specs.Words.{App, Text, app_of}
use Rattle.shell_commands.specs.CommandLine.{AreKinds, shell_app, shell_top}
use Rattle.shell_commands.specs.declared.forms.Form.{Form}
use Rattle.shell_commands.specs.declared.forms.Slot.{Slot}
use Rattle.shell_commands.specs.declared.forms.Slot.TheVariants as slot
use Rattle.shell_commands.specs.inner.Forms.{with_form}
use Rattle.shell_commands.proofs.forms.shell_form.Goals as goal

-- the words of which one is to be given
abbrev names_of : Slot → Bor (List (Bor Text))
names_of (slot.OneOf names) = names
names_of other = record { ref_ptr = (0, 0); now = [] }

abbrev names_first : List (Bor Text × Slot × Bor Text) → Bor (List (Bor Text))
names_first [] = record { ref_ptr = (0, 0); now = [] }
names_first (row ∷ rows) = names_of row.1

-- those of the first word of the first command
abbrev names_in : List Form → Bor (List (Bor Text))
names_in [] = record { ref_ptr = (0, 0); now = [] }
names_in (form ∷ forms) = names_first form.rows.now

pub returns : goal.returns
returns c =
    let forms = c.as_slice.result.now in
    let are : AreKinds (names_in forms) = search rules in
    let all : fold with_form shell_top forms ≡ shell_app (names_in forms) = rw c.as_slice.ensures refl in
    IfOk-weaker c.with_forms.result _ _
    (λ shell is. (names_in forms, are, is ∙ ap (λ (app : App). fold with_form app forms) c.shell_top.ensures ∙ all)) c.with_forms.ensures
