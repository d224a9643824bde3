-- The line of a field: what the function for its kind ensures, rewritten by the case of the field.
use Rattle.shell_commands.proofs.fields.push_field.Goals as goal

pub returns-in-Int : goal.returns-in-Int
returns-in-Int g c = rw c.in-Int.is c.push_shown.ensures

pub returns-in-Long : goal.returns-in-Long
returns-in-Long g c = rw c.in-Long.is c.push_shown-in-Long.ensures

pub returns-in-Boolean : goal.returns-in-Boolean
returns-in-Boolean g c = rw c.in-Boolean.is c.push_boolean.ensures

pub returns-in-Buffer : goal.returns-in-Buffer
returns-in-Buffer g c = rw c.in-Buffer.is c.push_buffer.ensures

pub returns-in-Text : goal.returns-in-Text
returns-in-Text g c = rw c.in-Text.is c.push_text.ensures
