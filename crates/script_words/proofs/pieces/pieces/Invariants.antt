-- Loop over the bytes: pieces so far, bytes since the last separator and pieces of what is left are all. At the end those bytes are one.
use Rattle.std.proofs.Common.{◌≡◌, ◌≤◌, ◌++◌, drop, take, map}
use Rattle.script_words.specs.Pieces.{pieces_at, with_front}
use Rattle.script_words.proofs.pieces.pieces.Given as goal

-- the pieces so far, the bytes since the last separator, and the pieces of what is left are all pieces
abbrev pub invariant-loop-at : goal.invariant-loop-at
invariant-loop-at g l = (l.start ≤ l.at)
    × (map (λ p. p.now) l.pieces.items ++ with_front (drop l.start (take l.at l.text)) (pieces_at l.separator (drop l.at l.text))
    ≡ pieces_at l.separator l.text)
