-- What stands at the front of some bytes.
use Rattle.std.specs.Prelude.{⊤, ℕ, ◌+◌, ◌^◌, ◌≡◌, ◌<◌, ◌≤◌, ◌++◌, List, length, take, drop}
use Rattle.zk_frames.specs.Frame.{frame, length_field, IsNegative}
use Rattle.zk_bench.specs.declared.frames.Front.{Front}
use Rattle.zk_bench.specs.declared.frames.Front.TheVariants.{Unfinished, Negative, Whole}

-- less than a length, or fewer bytes after it than it says
pub record IsShort (bytes : List ℕ) : Type 0 where
  pub positive : 4 ≤ length bytes → length_field bytes < 2 ^ 31
  pub short : 4 ≤ length bytes → length bytes < 4 + length_field bytes

-- a length of a payload that is there
pub record IsWhole (bytes : List ℕ) (count : ℕ) : Type 0 where
  pub there : 4 + count ≤ length bytes
  pub is : length_field bytes ≡ count
  pub small : count < 2 ^ 31

-- what is at the front of some bytes
abbrev pub IsFront : List ℕ → Front → Type 0
IsFront bytes Unfinished = IsShort bytes
IsFront bytes Negative = IsNegative bytes
IsFront bytes (Whole count) = IsWhole bytes count

-- Where a payload is there with its length, these are its frame, and the rest follows.
abbrev pub IsFramed : List ℕ → Front → Type 0
IsFramed bytes (Whole count) = bytes ≡ frame (take count (drop 4 bytes)) ++ drop (4 + count) bytes
IsFramed bytes front = ⊤
