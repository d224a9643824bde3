-- What contracts of private functions say: nobody has to believe it.
use Rattle.std.specs.Prelude.{◌≡◌}
use Rattle.script_rehearse.specs.declared.rehearsal.Rehearsal.{Rehearsal}
use Rattle.script_rehearse.specs.Rehearsed.{Position}
use Rattle.script_rehearse.specs.inner.Rehearsed.{position_of, IsServedAt}

-- A rehearsal is at a position where servers of the laws have served its client.
abbrev pub IsAt : {A : Type 0} → Rehearsal A → Position → Type 0
IsAt rehearsal position = (position_of rehearsal ≡ position) × IsServedAt position
