-- Where a text is cut.
use Rattle.std.specs.Prelude.{ℕ, zero, suc, List, [], ◌∷◌}

-- where the segment at a place begins
abbrev pub start_at : ℕ → List ℕ → ℕ → ℕ
start_at start ends zero = start
start_at start [] (suc place) = start
start_at start (end ∷ ends) (suc place) = start_at end ends place
