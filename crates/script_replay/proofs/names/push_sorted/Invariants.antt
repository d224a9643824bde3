-- Loop over the names: what is written, and what those that are left add, is all that is to be added. With none left all is written.
use Rattle.std.proofs.Common.{◌≡◌, ◌++◌, drop}
use Rattle.std.specs.Prelude.{string_bytes}
use Rattle.script_words.specs.Values.{names_text}
use Rattle.script_replay.proofs.names.push_sorted.Given as goal

-- what is written, and what the names that are left will add, is all that was to be added
abbrev pub invariant-loop-index : goal.invariant-loop-index
invariant-loop-index g l = string_bytes l.text ++ names_text (drop l.index l.names) ≡ string_bytes l.initial.text ++ names_text l.names
