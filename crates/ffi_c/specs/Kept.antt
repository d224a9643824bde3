-- What is told of what is kept.
use Rattle.std.specs.Prelude.{◌≡◌, ◌++◌, List, drop, length, take, ℕ, zero, ℤ, pos, Option}
use Rattle.zk_cache.specs.Kept as cache
use Rattle.zk_cache.specs.Kept.{Answer}
use Rattle.zk_cache.specs.declared.held.Kept.{Kept}
use Rattle.ffi_device.specs.declared.kept.KeptData.{KeptData}
use Rattle.ffi_device.specs.declared.kept.KeptNames.{KeptNames}
use Rattle.ffi_device.specs.Kept.{TellsNames, data_flat, data_text}

-- Of the data: 0 if they are told and copied, and any other number if nothing is written, for a reason that it has.
abbrev pub FindsData : (Refuses : ℤ → Type 0) → Option (Kept Answer) → (code : ℤ) (before after : KeptData) (room written : List ℕ) → Type 0
FindsData Refuses kept (pos zero) before after room written =
    (after ≡ data_flat kept) × (written ≡ take (length room) (data_text kept) ++ drop (length (data_text kept)) room)
FindsData Refuses kept code before after room written = Refuses code × (after ≡ before) × (written ≡ room)

-- the same of the names
abbrev pub FindsNames : (Refuses : ℤ → Type 0) → Option (Kept cache.Names) → (code : ℤ) (before after : KeptNames) → Type 0
FindsNames Refuses kept (pos zero) before after = TellsNames kept after
FindsNames Refuses kept code before after = Refuses code × (after ≡ before)

-- the same of a text of names, with 0 for its count if nothing is written
abbrev pub FindsText : (Refuses : ℤ → Type 0) (Writes : (room written : List ℕ) (count : ℕ) → Type 0)
    → (code : ℤ) (room written : List ℕ) (count : ℕ) → Type 0
FindsText Refuses Writes (pos zero) room written count = Writes room written count
FindsText Refuses Writes code room written count = Refuses code × (written ≡ room) × (count ≡ 0)
