-- What a write takes.
use Rattle.std.specs.Prelude.{◌≡◌, ℕ, List, drop}

-- What is left of bytes after a number of them, from the first on, were written.
abbrev pub IsLeftOf : (bytes left : List ℕ) → Type 0
IsLeftOf bytes left = (written : ℕ) × (left ≡ drop written bytes)
