-- What a handle holds after a call, and what is told of it.
use Rattle.std.specs.Prelude.{◌≡◌, ◌<◌, ◌^◌, ◌++◌, List, [], drop, length, take, ℕ, zero, suc, ℤ, pos, negsuc, Option, Some, None}
use Rattle.std.specs.Prelude.{IsSome, IfSome}
use Rattle.zk_frames.specs.declared.limits.FrameLimits.{FrameLimits}
use Rattle.zk_turns.specs.Turns.{Start}
use Rattle.zk_turns.specs.View.{view_at}
use Rattle.ffi_device.specs.AtOnce.{WritesOutputs}
use Rattle.ffi_device.specs.Contending.{NothingDue}
use Rattle.ffi_device.specs.Outputs.{next_of, read_after}
use Rattle.ffi_device.specs.Refused.{RefusesMemory}
use Rattle.ffi_device.specs.Steps.{BeginsWith, Forgot, within}
use Rattle.ffi_device.specs.declared.device.Device.{Device}
use Rattle.ffi_device.specs.declared.flat.Flat.{Flat}

-- the handle holds something of which this is so
abbrev pub Holds : {T : Type 0} → Option T → (T → Type 0) → Type 0
Holds held P = IsSome held × IfSome held P

-- A handle held nothing, as -3 says, and holds nothing.
pub record IsClosed {T : Type 0} (code : ℤ) (held : Option T) : Type 0 where
  pub told : code ≡ negsuc 2
  pub empty : held ≡ None

-- A handle held nothing, as -3 says: the room is as it was, and the count is 0.
pub record LeavesRoom (code : ℤ) (room written : List ℕ) (count : ℕ) : Type 0 where
  pub told : code ≡ negsuc 2
  pub unwritten : written ≡ room
  pub none : count ≡ 0

-- A text is written: 0 if as much of it as there is room for stands at the front, and -2 if memory ran out.
abbrev pub Writes : (text : List ℕ) (code : ℤ) (room written : List ℕ) (count : ℕ) → Type 0
Writes text (pos zero) room written count = (written ≡ take (length room) text ++ drop (length text) room) × (count ≡ length text)
Writes text (negsuc (suc zero)) room written count = (written ≡ room) × (count ≡ 0)
Writes text code room written count = ⊥

-- An action is told: 0 if it is the next one, and 1 if all were told.
abbrev pub TellsOf : Option Flat → Flat → ℤ → Flat → Type 0
TellsOf (Some flat) before (pos zero) after = after ≡ flat
TellsOf None before (pos (suc zero)) after = after ≡ before
TellsOf next before code after = ⊥

-- A session is made: 0 if the handle holds one that has begun so, and any other number if it holds nothing, for a reason that this
-- number has.
abbrev pub Makes : (Refuses : ℤ → Type 0) → Start → ℤ → Option Device → Type 0
Makes Refuses start (pos zero) held = Holds held (BeginsWith (view_at start []))
Makes Refuses start code held = Refuses code × (held ≡ None)

-- The same with payloads within these limits.
abbrev pub MakesWithin : (incoming outgoing : ℕ) → (Refuses : ℤ → Type 0) → Start → ℤ → Option Device → Type 0
MakesWithin incoming outgoing Refuses start code held =
    (limits : FrameLimits) → limits.incoming ≡ incoming → limits.outgoing ≡ outgoing → Makes Refuses (within limits start) code held

-- The next action is told. Nothing else changes than that one more was read.
pub record Tells (before : Device) (room : Flat) (code : ℤ) (told : Flat) (after : Device) : Type 0 where
  pub tells : TellsOf (next_of before.said.items before.news.items before.read) room code told
  pub agent : after.agent ≡ before.agent
  pub said : after.said ≡ before.said
  pub read : after.read ≡ read_after (next_of before.said.items before.news.items before.read) before.read
  pub over : after.is_over ≡ before.is_over
  pub number : after.revision ≡ before.revision
  pub contenders : after.contenders ≡ before.contenders
  pub contends : after.is_contending ≡ before.is_contending
  pub news : after.news ≡ before.news

-- All that waits is told at once, with 0, if there is room for all; and if memory ran out, as the number says, nothing is written or
-- told.
abbrev pub TellsAll : (before : Device) (room written : List ℕ) (count : ℕ) (code : ℤ) (after : Device) → Type 0
TellsAll before room written count (pos zero) after = WritesOutputs before room written count after
TellsAll before room written count code after = RefusesMemory code × (written ≡ room) × (count ≡ 0) × (after ≡ before)

-- The stale answers are gone, which is told by 0, and nothing else is another one.
pub record ForgetsStale (before : Device) (code : ℤ) (after : Device) : Type 0 where
  pub told : code ≡ pos 0
  pub forgot : Forgot before after

-- The first moment at which something is due, with 0; or that nothing will be due, with 1.
abbrev pub FirstDue : Device → ℤ → ℕ → Type 0
FirstDue session (pos zero) first =
    ((moment : ℕ) → moment < 2 ^ 64 → moment < first → NothingDue session moment) × ¬ (NothingDue session first)
FirstDue session (pos (suc zero)) first = (moment : ℕ) → moment < 2 ^ 64 → NothingDue session moment
FirstDue session code first = ⊥

-- A moment, with 0; or that there is none, with 1, and then 0 is written.
abbrev pub TellsMoment : Option ℕ → ℤ → ℕ → Type 0
TellsMoment (Some moment) (pos zero) told = told ≡ moment
TellsMoment None (pos (suc zero)) told = told ≡ 0
TellsMoment moment code told = ⊥
