-- Loop over the bytes: what is written and what those left add is all that is to be added. With none left all is written.
use Rattle.std.proofs.Common.{◌≡◌, ◌++◌, drop}
use Rattle.std.specs.Prelude.{string_bytes}
use Rattle.script_words.specs.Words.{bytes_text}
use Rattle.script_words.proofs.words.push_bytes.Given as goal

-- what is written, and what the bytes that are left will add, is all that was to be added
abbrev pub invariant-loop-byte : goal.invariant-loop-byte
invariant-loop-byte g l = string_bytes l.word ++ bytes_text (drop l.byte-index l.bytes) ≡ string_bytes l.initial.word ++ bytes_text l.bytes
