-- What is refused is told by its number: case by case, and nothing is written then.
use Rattle.std.proofs.Common.{◌≡◌, ℕ, List, ℤ, refl, subst, sym, w32, to_z, of_z}
use Rattle.ffi_device.specs.Codes.{refusal_code}
use Rattle.ffi_device.specs.declared.refusal.DeviceRefusal.{DeviceRefusal}
use Rattle.ffi_device.specs.declared.refusal.DeviceRefusal.TheVariants.{Halted, Memory, NotText, NotPath, BadTimeout, NoSuchMode, NotSaved}
use Rattle.ffi_device.specs.declared.refusal.DeviceRefusal.TheVariants.{NotWhole, TooMany, NotTexts, NoSuchOperation, CredentialTooLarge}
use Rattle.ffi_device.specs.declared.refusal.DeviceRefusal.TheVariants.{NoSuchLimits, NotAcl}
use Rattle.ffi_c.specs.Kept.{FindsText}

at_number : (Refuses : ℤ → Type 0) (Writes : List ℕ → List ℕ → ℕ → Type 0) (room written : List ℕ) (refusal : DeviceRefusal)
    → Refuses (refusal_code refusal) → written ≡ room → FindsText Refuses Writes (to_z w32 (of_z w32 (refusal_code refusal))) room written 0
at_number Refuses Writes room written Halted is same = (is, same, refl)
at_number Refuses Writes room written Memory is same = (is, same, refl)
at_number Refuses Writes room written NotText is same = (is, same, refl)
at_number Refuses Writes room written NotPath is same = (is, same, refl)
at_number Refuses Writes room written BadTimeout is same = (is, same, refl)
at_number Refuses Writes room written NoSuchMode is same = (is, same, refl)
at_number Refuses Writes room written NotSaved is same = (is, same, refl)
at_number Refuses Writes room written NotWhole is same = (is, same, refl)
at_number Refuses Writes room written TooMany is same = (is, same, refl)
at_number Refuses Writes room written NotTexts is same = (is, same, refl)
at_number Refuses Writes room written NoSuchOperation is same = (is, same, refl)
at_number Refuses Writes room written CredentialTooLarge is same = (is, same, refl)
at_number Refuses Writes room written NoSuchLimits is same = (is, same, refl)
at_number Refuses Writes room written NotAcl is same = (is, same, refl)

pub told_refused : (Refuses : ℤ → Type 0) (Writes : List ℕ → List ℕ → ℕ → Type 0) (room written : List ℕ)
    (refusal : DeviceRefusal) (code : ℤ) → code ≡ refusal_code refusal → Refuses (refusal_code refusal) → written ≡ room
    → FindsText Refuses Writes (to_z w32 (of_z w32 code)) room written 0
told_refused Refuses Writes room written refusal code told is same =
    subst (λ code. FindsText Refuses Writes (to_z w32 (of_z w32 code)) room written 0) (sym told)
    (at_number Refuses Writes room written refusal is same)
