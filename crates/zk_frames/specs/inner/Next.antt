-- What contracts of private functions say: nobody has to believe it.
use Rattle.std.specs.Prelude.{◌≡◌, ℕ, ◌+◌, ◌^◌, ◌<◌, ◌≤◌, List, ◌++◌, length, take, drop, Option, None, Some, Result, Ok, Err}
use Rattle.zk_frames.specs.declared.fault.FrameFault.{FrameFault}
use Rattle.zk_frames.specs.declared.fault.FrameFault.TheVariants.{Negative, TooLong, Memory}
use Rattle.zk_frames.specs.Frame.{frame, IsNegative, IsTooLong, IsUnfinished}

-- A whole frame stands first, and its payload has this length.
pub record IsWhole (most : ℕ) (bytes : List ℕ) (n : ℕ) : Type 0 where
  pub is : bytes ≡ frame (take n (drop 4 bytes)) ++ drop (4 + n) bytes
  pub there : 4 + n ≤ length bytes
  pub admitted : n ≤ most
  pub positive : n < 2 ^ 31

-- what is read of the first length
abbrev pub ReadsLength : (most : ℕ) → List ℕ → Result (Option ℕ) FrameFault → Type 0
ReadsLength most bytes (Ok (Some n)) = IsWhole most bytes n
ReadsLength most bytes (Ok None) = IsUnfinished most bytes
ReadsLength most bytes (Err Negative) = IsNegative bytes
ReadsLength most bytes (Err TooLong) = IsTooLong most bytes
ReadsLength most bytes (Err Memory) = ⊥
