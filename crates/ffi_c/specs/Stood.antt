-- If a session stands, and whether it holds, by the number that is answered.
use Rattle.std.specs.Prelude.{◌≡◌, ℕ, zero, suc, ℤ, pos, List}
use Rattle.zk_nodes.specs.Path.{Text}
use Rattle.zk_turns.specs.View.{View}
use Rattle.zk_conclusions.specs.Holders.{ShowsHolder}
use Rattle.ffi_device.specs.Holders.{ArePlace, HoldsFirst, RefusesHolder}
use Rattle.ffi_device.specs.Standings.{RefusesStanding, Stood}
use Rattle.ffi_device.specs.declared.standings.Stands.TheVariants.{First, After, Unsure}

-- 0 if the session stands first, by the token; 2 if it waits for the rival whose name is written; 1 where neither is shown; and any
-- other number if nothing is told, for a reason that it has.
abbrev pub FindsStanding : View → (directory name : Text) (names : List ℕ) (listed : ℤ) (markers : List ℕ)
    → (code token : ℤ) (room written : List ℕ) (count : ℕ) → Type 0
FindsStanding view directory name names listed markers (pos zero) token room written count =
    Stood view directory name names listed markers (First token) room written × (count ≡ 0)
FindsStanding view directory name names listed markers (pos (suc zero)) token room written count =
    Stood view directory name names listed markers Unsure room written × (token ≡ pos 0) × (count ≡ 0)
FindsStanding view directory name names listed markers (pos (suc (suc zero))) token room written count =
    Stood view directory name names listed markers (After count) room written × (token ≡ pos 0)
FindsStanding view directory name names listed markers code token room written count =
    RefusesStanding directory name names markers code × (written ≡ room) × (token ≡ pos 0) × (count ≡ 0)

-- Whether the session holds: 0 if it does, by the token; 1 if that is not shown; and any other number if nothing is told, for a
-- reason that it has.
abbrev pub FindsHolder : View → (directory prefix path : Text) → (code token : ℤ) → Type 0
FindsHolder view directory prefix path (pos zero) token = HoldsFirst view directory prefix path token × ArePlace directory prefix path
FindsHolder view directory prefix path (pos (suc zero)) token =
    ((other : ℤ) → ¬ (ShowsHolder view directory prefix path other)) × ArePlace directory prefix path × (token ≡ pos 0)
FindsHolder view directory prefix path code token = RefusesHolder directory prefix path code × (token ≡ pos 0)
