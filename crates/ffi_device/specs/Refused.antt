-- When a number is told that is neither 0 nor that of a halt.
use Rattle.std.specs.Prelude.{⊤, ◌≡◌, ◌⊎◌, ◌≤ℤ◌, ◌<ℤ◌, ◌<◌, List, ℕ, zero, suc, ℤ, pos, negsuc, Option, Some, None, IsSome}
use Rattle.std.specs.Str.{IsUtf8}
use Rattle.zk_nodes.specs.PathFault.{IsPath, fault_of}
use Rattle.zk_contend.specs.Acls.{IsAcl}
use Rattle.zk_contend.specs.Contenders.{contender_fault}
use Rattle.zk_contend.specs.declared.naming.Naming.{Naming}
use Rattle.ffi_device.specs.Contending.{naming_number}

-- nothing is refused
abbrev pub RefusesNothing : ℤ → Type 0
RefusesNothing code = ⊥

-- only that memory ran out, -2
abbrev pub RefusesMemory : ℤ → Type 0
RefusesMemory (negsuc (suc zero)) = ⊤
RefusesMemory code = ⊥

-- bytes for a path: -2 if they are one, -4 if they are no UTF-8, and -5 where their text is no path
abbrev pub RefusesPath : (path : List ℕ) → ℤ → Type 0
RefusesPath path (negsuc (suc zero)) = IsPath path
RefusesPath path (negsuc (suc (suc (suc zero)))) = ¬ (IsUtf8 path)
RefusesPath path (negsuc (suc (suc (suc (suc zero))))) = IsSome (fault_of path)
RefusesPath path code = ⊥

-- a timeout: -2 if it is one, and -6 if it is not above 0
abbrev pub RefusesTimeout : (timeout : ℤ) → ℤ → Type 0
RefusesTimeout timeout (negsuc (suc zero)) = pos 0 <ℤ timeout
RefusesTimeout timeout (negsuc (suc (suc (suc (suc (suc zero)))))) = timeout ≤ℤ pos 0
RefusesTimeout timeout code = ⊥

-- bytes for a path and the number of a mode: those of the path if the number is that of a mode, and else -7
abbrev pub RefusesCreate : (path : List ℕ) (mode : ℕ) → ℤ → Type 0
RefusesCreate path mode (negsuc (suc (suc (suc (suc (suc (suc zero))))))) = 3 < mode
RefusesCreate path mode code = RefusesPath path code

-- no place with this guid, of a naming by its number, has a path in the directory
abbrev pub HasNoPlace : (directory : List ℕ) (naming : ℕ) (guid : List ℕ) → Type 0
HasNoPlace directory naming guid =
    (named : Naming) × (naming_number named ≡ naming) × IsSome (contender_fault directory named guid)

-- bytes are handed in for an ACL, and are none
abbrev pub IsNoAcl : Option (List ℕ) → Type 0
IsNoAcl None = ⊥
IsNoAcl (Some bytes) = ¬ (IsAcl bytes)

-- A contender: -4 if its directory or its guid is no UTF-8; -5 if the directory is no path, or no place in it has one; -7 if the
-- number is none of a naming; -15 if the bytes for its ACL are none; and -2.
abbrev pub RefusesContender : (directory : List ℕ) (naming : ℕ) (guid : List ℕ) (acl : Option (List ℕ)) → ℤ → Type 0
RefusesContender directory naming guid acl (negsuc (suc zero)) = ⊤
RefusesContender directory naming guid acl (negsuc (suc (suc (suc zero)))) = ¬ (IsUtf8 directory) ⊎ ¬ (IsUtf8 guid)
RefusesContender directory naming guid acl (negsuc (suc (suc (suc (suc zero))))) =
    IsSome (fault_of directory) ⊎ HasNoPlace directory naming guid
RefusesContender directory naming guid acl (negsuc (suc (suc (suc (suc (suc (suc zero))))))) = naming ≡ 6
RefusesContender dir naming guid acl (negsuc (suc (suc (suc (suc (suc (suc (suc (suc (suc (suc (suc (suc (suc (suc zero))))))))))))))) =
    IsNoAcl acl
RefusesContender directory naming guid acl code = ⊥

-- All nodes at and below a path: those of the path, and -9 and -10 if these two are so.
abbrev pub RefusesNodes : (lacking many : Type 0) (path : List ℕ) → ℤ → Type 0
RefusesNodes lacking many path (negsuc (suc (suc (suc (suc (suc (suc (suc (suc zero))))))))) = lacking
RefusesNodes lacking many path (negsuc (suc (suc (suc (suc (suc (suc (suc (suc (suc zero)))))))))) = many
RefusesNodes lacking many path code = RefusesPath path code
