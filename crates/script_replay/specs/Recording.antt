-- What an outside in memory has to keep room for.
use Rattle.std.specs.Prelude.{ℕ, Option, Some, None}

-- one more turn is to be told
abbrev pub asked_count : {X : Type 0} → Option X → ℕ
asked_count None = 0
asked_count (Some x) = 1
