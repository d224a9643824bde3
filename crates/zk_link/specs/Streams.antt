-- What goes into a stream.
use Rattle.std.specs.Prelude.{◌≡◌, ℕ, List, ◌++◌, Option}
use Rattle.std.specs.Io.KnownBytes.{Appends}

-- What leaves the front of what is unsent is what the stream took, after what it had taken.
abbrev pub Sends : (unsent rest : List ℕ) → (before after : Option (List ℕ)) → Type 0
Sends unsent rest before after = (written : List ℕ) × (unsent ≡ written ++ rest) × Appends before after written
