-- Loop over the bytes: all are printable exactly if those left are. At the end none is left, so all are.
use Rattle.std.proofs.Common.{◌≡◌, drop}
use Rattle.script_words.specs.Reads.{is_printed}
use Rattle.script_words.proofs.reads.is_printed.Given as goal

-- the word is printed where what is left of it is
abbrev pub invariant-loop-byte : goal.invariant-loop-byte
invariant-loop-byte l = is_printed (drop l.byte-index l.word) ≡ is_printed l.word
