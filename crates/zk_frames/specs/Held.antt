-- What a reader holds.
use Rattle.std.specs.Prelude.{◌≡◌, ℕ, List, [], Option, None, Some}
use Rattle.zk_frames.specs.declared.fault.FrameFault.{FrameFault}
use Rattle.zk_frames.specs.declared.fault.FrameFault.TheVariants.{Negative, TooLong, Memory}

-- The bytes that were fed and not given, how many bytes that were given still stand before them in memory, and how the
-- reader failed, if it has.
pub record Held : Type 0 where
  pub bytes : List ℕ
  pub spent : ℕ
  pub fault : Option FrameFault

-- a reader that has not failed, and holds these bytes alone
abbrev pub reading : List ℕ → Held
reading bs = record { bytes = bs; spent = 0; fault = None }

-- a reader that has failed holds nothing
abbrev pub failed : FrameFault → Held
failed f = record { bytes = []; spent = 0; fault = Some f }

-- the same, with what was given let go
abbrev pub settled : Held → Held
settled held = record { bytes = held.bytes; spent = 0; fault = held.fault }

-- a fault of a length, and not of memory
abbrev pub IsOfLength : FrameFault → Type 0
IsOfLength Negative = Unit {0}
IsOfLength TooLong = Unit {0}
IsOfLength Memory = ⊥

-- Only a fault of a length lasts, and nothing is held then.
abbrev pub IsStill : Option FrameFault → ℕ → Type 0
IsStill None n = Unit {0}
IsStill (Some f) n = IsOfLength f × (n ≡ 0)
