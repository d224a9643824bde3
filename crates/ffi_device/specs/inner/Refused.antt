-- What contracts of private functions say: nobody has to believe it.
use Rattle.std.specs.Prelude.{⊤, List, ℕ, zero, suc, ℤ, negsuc, ◌≢◌, Option, None}
use Rattle.std.specs.Str.{IsUtf8}
use Rattle.zk_nodes.specs.PathFault.{child_fault}
use Rattle.ffi_device.specs.Refused.{IsNoAcl}

-- bytes for a text: -4 if they are no UTF-8
abbrev pub RefusesText : (bytes : List ℕ) → ℤ → Type 0
RefusesText bytes (negsuc (suc (suc (suc zero)))) = ¬ (IsUtf8 bytes)
RefusesText bytes code = ⊥

-- a name below a path: -2, and -5 if it makes no path
abbrev pub RefusesChild : (path name : List ℕ) → ℤ → Type 0
RefusesChild path name (negsuc (suc zero)) = ⊤
RefusesChild path name (negsuc (suc (suc (suc (suc zero))))) = child_fault path name ≢ None
RefusesChild path name code = ⊥

-- bytes for an ACL, if there are some: -2, and -15 if they are none
abbrev pub RefusesAcl : (acl : Option (List ℕ)) → ℤ → Type 0
RefusesAcl acl (negsuc (suc zero)) = ⊤
RefusesAcl acl (negsuc (suc (suc (suc (suc (suc (suc (suc (suc (suc (suc (suc (suc (suc (suc zero))))))))))))))) = IsNoAcl acl
RefusesAcl acl code = ⊥
