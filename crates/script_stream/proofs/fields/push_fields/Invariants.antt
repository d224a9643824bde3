-- Loop over the fields: what is written and the words left are all words. With none left all are written.
use Rattle.std.proofs.Common.{◌≡◌, ◌++◌, drop}
use Rattle.std.specs.Prelude.{string_bytes}
use Rattle.std.specs.List.{flat_map}
use Rattle.script_stream.proofs.FieldLemmas.{words_of}
use Rattle.script_stream.proofs.fields.push_fields.Given as goal

-- what is written, and the words of the fields that are left, are all that was to be written
abbrev pub invariant-loop-name : goal.invariant-loop-name
invariant-loop-name g l =
    string_bytes l.text ++ flat_map words_of (drop l.name-index l.fields) ≡ string_bytes l.initial.text ++ flat_map words_of l.fields
