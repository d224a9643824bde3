-- What contracts of private functions say: nobody has to believe it.
use Rattle.std.specs.Prelude.{List, [], ◌∷◌, Some, fold, true}
use Rattle.std.specs.Borrow.{Bor}
use Rattle.clap.specs.Words.{App, Rule, Text, new_app, new_rule, with_rule, with_subcommand}
use Rattle.clap.specs.declared.builder.action.ArgAction.TheVariants as action
use Rattle.clap.specs.declared.builder.value_parser.ValueParser.TheVariants as parser
use Rattle.shell_commands.specs.declared.forms.Form.{Form}
use Rattle.shell_commands.specs.declared.forms.Slot.{Slot}
use Rattle.shell_commands.specs.declared.forms.Slot.TheVariants as slot

-- the rule of a word with this name
abbrev pub slot_rule : Text → Slot → Rule
slot_rule name slot.Word = record (new_rule name) { required = true }
slot_rule name slot.Maybe = new_rule name
slot_rule name slot.Words = record (new_rule name) { required = true; action = Some action.Append }
slot_rule name (slot.OneOf names) = record (new_rule name) { required = true; parser = Some (parser.Names names) }
slot_rule name slot.Flag = record (new_rule name) { long = Some name; action = Some action.SetTrue }
slot_rule name (slot.Value value) = record (new_rule name) { long = Some name; value_names = 1 }
slot_rule name (slot.Values value) = record (new_rule name) { long = Some name; value_names = 1; action = Some action.Append }
slot_rule name (slot.Default value word) = record (new_rule name) { long = Some name; value_names = 1; defaults = word.now ∷ [] }

-- a command with one more word
abbrev pub with_row : App → Bor Text × Slot × Bor Text → App
with_row app row = with_rule app (slot_rule row.0.now row.1)

-- a command of the table
abbrev pub form_app : Form → App
form_app form = fold with_row (new_app form.name.now) form.rows.now

-- a program with one more command
abbrev pub with_form : App → Form → App
with_form app form = with_subcommand app (form_app form).top
