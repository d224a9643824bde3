-- Loop over the names: what is written and what those left add is all that is to be added. With none left all is written.
use Rattle.std.proofs.Common.{◌≡◌, ◌++◌, map}
use Rattle.std.specs.Prelude.{string_bytes}
use Rattle.script_words.specs.Values.{names_text}
use Rattle.script_words.proofs.values.push_all.Given as goal

-- what is written, and what the names that are left will add, is all that was to be added
abbrev pub invariant-loop-name : goal.invariant-loop-name
invariant-loop-name g l = string_bytes l.text ++ names_text (map string_bytes l.name-iterator)
    ≡ string_bytes l.initial.text ++ names_text (map string_bytes l.names.keys)
