-- Loop over the digits: the number is within the limit, and those left make of it what all make of 0. So at the end it is the word's.
use Rattle.std.proofs.Common.{◌≡◌, ◌≤◌, drop}
use Rattle.script_words.specs.Numbers.{digits_onto}
use Rattle.script_words.proofs.numbers.natural_of.Given as goal

-- what the digits that are left make of the number is what all digits make of 0
abbrev pub invariant-loop-digit : goal.invariant-loop-digit
invariant-loop-digit l = (l.number ≤ l.limit) × (digits_onto l.limit l.number (drop l.digit-index l.word) ≡ digits_onto l.limit 0 l.word)
