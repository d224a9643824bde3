-- What is handed over of a contender, and what is told of it, by the number that is answered.
use Rattle.std.specs.Prelude.{◌≡◌, ◌++◌, ◌==◌, List, drop, if◌then◌else◌, length, take, ℕ, zero, suc, ℤ, pos, Option, Some, None}
use Rattle.std.specs.declared.alloc.Global.{Global}
use Rattle.zk_nodes.specs.Path.{Text}
use Rattle.zk_turns.specs.View.{View}
use Rattle.zk_contend.specs.Collections.{ShowsOne}
use Rattle.zk_contend.specs.declared.contender.LockContender.{LockContender}

-- the ACL that bytes spell: without any there is none
abbrev pub acl_in : List ℕ → Option (List ℕ)
acl_in bytes = if length bytes == 0 then None else Some bytes

-- 0 if the session holds by the contender, by the token; and 1 if that is not shown.
abbrev pub FindsHeld : View → Option (LockContender Global) → (code token : ℤ) → Type 0
FindsHeld view one (pos zero) token = ShowsOne view one (Some token)
FindsHeld view one (pos (suc zero)) token = ShowsOne view one None × (token ≡ pos 0)
FindsHeld view one code token = ⊥

-- 0 if as much of the path of its place as there is room for is written; and 1 if that is not known.
abbrev pub FindsPlace : Option Text → (code : ℤ) → (room written : List ℕ) → (count : ℕ) → Type 0
FindsPlace (Some path) (pos zero) room written count =
    (written ≡ take (length room) path ++ drop (length path) room) × (count ≡ length path)
FindsPlace None (pos (suc zero)) room written count = (written ≡ room) × (count ≡ 0)
FindsPlace place code room written count = ⊥
