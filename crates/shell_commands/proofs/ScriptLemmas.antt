-- What a command comes to that reads and writes nothing: nothing is added to what was written, and any script is its input.
use Rattle.std.proofs.Common.{ℕ, List, [], refl, sym}
use Rattle.std.specs.Prelude.{Option, Some, None}
use Rattle.std.specs.Io.KnownBytes.{Appends}
use Rattle.std.proofs.lemmas.List.{append-nil}
use Rattle.shell_commands.specs.Scripts.{IsInput}

-- nothing more is there where nothing was written
pub appends_nothing : (known : Option (List ℕ)) → Appends known known []
appends_nothing None = tt
appends_nothing (Some bytes) = sym (append-nil bytes)

-- some script is the input
pub some_input : (given : Option (List ℕ)) → (script : List ℕ) × IsInput given script
some_input None = ([], tt)
some_input (Some bytes) = (bytes, refl)
