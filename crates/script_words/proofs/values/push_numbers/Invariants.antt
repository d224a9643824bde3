-- Loop over the numbers: what is written and what those left add is all that is to be added. With none left all is written.
use Rattle.std.proofs.Common.{◌≡◌, ◌++◌, drop}
use Rattle.std.specs.Prelude.{string_bytes}
use Rattle.script_words.specs.Values.{numbers_text}
use Rattle.script_words.proofs.values.push_numbers.Given as goal

-- what is written, and what the numbers that are left will add, is all that was to be added
abbrev pub invariant-loop-number : goal.invariant-loop-number
invariant-loop-number g l =
    string_bytes l.text ++ numbers_text (drop l.number-index l.numbers) ≡ string_bytes l.initial.text ++ numbers_text l.numbers
