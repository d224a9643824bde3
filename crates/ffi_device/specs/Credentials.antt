-- A credential from bytes.
use Rattle.std.specs.Prelude.{⊤, ◌+◌, ◌<◌, List, ℕ, zero, suc, ℤ, negsuc, length}
use Rattle.std.specs.Str.{IsUtf8}
use Rattle.zk_limits.specs.declared.limits.TheConstants.{LONGEST_OUTGOING}

-- When a credential is refused, by the number that is told: -2 if memory ran out, -4 if its scheme is no UTF-8, and -13 if its
-- payload would have more bytes than a server takes.
abbrev pub RefusesCredential : (scheme secret : List ℕ) → ℤ → Type 0
RefusesCredential scheme secret (negsuc (suc zero)) = ⊤
RefusesCredential scheme secret (negsuc (suc (suc (suc zero)))) = ¬ (IsUtf8 scheme)
RefusesCredential scheme secret (negsuc (suc (suc (suc (suc (suc (suc (suc (suc (suc (suc (suc (suc zero))))))))))))) =
    LONGEST_OUTGOING < 20 + (length scheme + length secret)
RefusesCredential scheme secret code = ⊥
