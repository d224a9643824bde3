-- Loop over the pieces: the words so far and those among the pieces left are all words. With none left they are all.
use Rattle.std.proofs.Common.{◌≡◌, ◌++◌, drop, map, filter}
use Rattle.script_words.specs.Pieces.{is_some_word}
use Rattle.script_words.proofs.pieces.words_of.Given as goal

-- the words so far, and those among the pieces that are left, are all words
abbrev pub invariant-loop-piece : goal.invariant-loop-piece
invariant-loop-piece g l = map (λ p. p.now) l.words.items ++ filter is_some_word (map (λ p. p.now) (drop l.piece-index l.piece-items))
    ≡ filter is_some_word (map (λ p. p.now) l.piece-items)
