-- What a reader answers when it is asked for the next frame.
use Rattle.std.specs.Prelude.{◌≡◌, ℕ, ◌+◌, ◌^◌, ◌<◌, ◌≤◌, List, ◌++◌, length, Option, None, Some, Result, Ok, Err, MatchOption}
use denote.Ref.{Bor}
use Rattle.zk_frames.specs.declared.fault.FrameFault.{FrameFault}
use Rattle.zk_frames.specs.declared.fault.FrameFault.TheVariants.{Negative, TooLong, Memory}
use Rattle.zk_frames.specs.Frame.{frame, IsNegative, IsTooLong, IsUnfinished}
use Rattle.zk_frames.specs.Held.{Held, failed}

-- The frame of the payload stood first, and is taken. Its bytes stay in memory, since they are lent.
pub record GivesFrame (most : ℕ) (old : Held) (payload : List ℕ) (new : Held) : Type 0 where
  pub was : old.bytes ≡ frame payload ++ new.bytes
  pub spent : new.spent ≡ old.spent + (4 + length payload)
  pub read : old.fault ≡ None
  pub reads : new.fault ≡ None
  pub admitted : length payload ≤ most
  pub positive : length payload < 2 ^ 31

-- No whole frame is there, and nothing changes.
pub record GivesNothing (most : ℕ) (old new : Held) : Type 0 where
  pub unfinished : IsUnfinished most old.bytes
  pub bounded : length old.bytes < 4 + most
  pub reads : old.fault ≡ None
  pub same : new ≡ old

-- It has failed by this fault: before, or since such a length stands next.
pub record Fails (old : Held) (Stands : List ℕ → Type 0) (f : FrameFault) (new : Held) : Type 0 where
  pub now : new ≡ failed f
  pub why : MatchOption old.fault (Stands old.bytes) (λ g. old ≡ failed f)

-- the answer by this limit, and what is held after it
abbrev pub AnswersNext : (most : ℕ) → Held → Result (Option (Bor (List ℕ))) FrameFault → Held → Type 0
AnswersNext most old (Ok (Some payload)) new = GivesFrame most old payload.now new
AnswersNext most old (Ok None) new = GivesNothing most old new
AnswersNext most old (Err Negative) new = Fails old IsNegative Negative new
AnswersNext most old (Err TooLong) new = Fails old (IsTooLong most) TooLong new
AnswersNext most old (Err Memory) new = ⊥
