-- What a slot owns: nothing where it is empty, and else a value at its pointer, with the right to free its block.
use Rattle.std.specs.Prelude.{Option, Some, None}
use base.Fml.{Fml, ftrue}
use denote.RattleType.{RattleType}
use denote.RawPtr.{Ptr}
use mir.Syntax.{Ty}
use Rattle.std.specs.Box.Ownership.{box_owns}

abbrev pub owned : (R : RattleType) → (Ty → Ptr → Fml) → Ptr → Option R.Denot → Fml
owned R token p None = ftrue
owned R token p (Some x) = box_owns token R p x
