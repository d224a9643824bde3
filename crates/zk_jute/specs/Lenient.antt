-- The lenient reading of what a server sends: null is read as the empty text, the empty bytes or the empty list.
use Rattle.std.specs.Prelude.{List, [], Option, unwrap_or}

abbrev pub or_empty : {X : Type 0} → Option (List X) → List X
or_empty values = unwrap_or values []
