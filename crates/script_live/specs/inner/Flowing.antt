-- What contracts of private functions say: nobody has to believe it.
use Rattle.std.specs.Prelude.{ℕ, List, [], Vec, Option, Some, None}

-- those of a piece, or none if there is none
abbrev pub piece_bytes : {A : Type 0} → Option (Vec ℕ A) → List ℕ
piece_bytes None = []
piece_bytes (Some bytes) = bytes.items
