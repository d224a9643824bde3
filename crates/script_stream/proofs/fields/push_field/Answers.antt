-- By the kind of the field: what the function that writes this kind ensures, rewritten.
use Rattle.script_stream.proofs.fields.push_field.Goals as goal

pub returns-in-Int : goal.returns-in-Int
returns-in-Int g c = rw c.in-Int.is c.push_value.ensures

pub returns-in-Long : goal.returns-in-Long
returns-in-Long g c = rw c.in-Long.is c.push_value-in-Long.ensures

pub returns-in-Boolean : goal.returns-in-Boolean
returns-in-Boolean g c = rw (c.in-Boolean.is, ← c.boolean_to_word.ensures) c.push_named.ensures

pub returns-in-Size : goal.returns-in-Size
returns-in-Size g c = rw c.in-Size.is c.push_size.ensures

pub returns-in-Text : goal.returns-in-Text
returns-in-Text g c = rw c.in-Text.is c.push_text.ensures
