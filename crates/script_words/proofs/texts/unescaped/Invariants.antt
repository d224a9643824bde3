-- Loop over the bytes: those made, with what the rest means at this place, are what the word means. So at the end, in `Plain`, they are it.
use Rattle.std.proofs.Common.{◌≡◌, ◌++◌, drop}
use Rattle.std.specs.Option.{option_map}
use Rattle.script_words.specs.Texts.{unescape}
use Rattle.script_words.specs.declared.texts.Place.TheVariants.{Plain}
use Rattle.script_words.proofs.texts.unescaped.Given as goal

-- the bytes so far, and those of what is left, are all bytes
abbrev pub invariant-loop-byte : goal.invariant-loop-byte
invariant-loop-byte g l = option_map (λ text. l.bytes.items ++ text) (unescape l.place (drop l.byte-index l.word)) ≡ unescape Plain l.word
