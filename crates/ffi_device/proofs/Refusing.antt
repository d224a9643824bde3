-- What is refused leaves the device as it was: case by case of the refusals, each with its number, which is not that of a halt.
use mathlib.Core.Path.{refl}
use Rattle.std.proofs.Common.{inl, inr, subst, sym}
use Rattle.std.specs.Prelude.{◌≡◌, ◌∷◌, List, ℕ, ℤ, negsuc, Result, Ok, Err, IfErr, IsErrAnd}
use Rattle.zk_turns.specs.View.{Cache}
use Rattle.ffi_device.specs.declared.device.Device.{Device}
use Rattle.ffi_device.specs.declared.refusal.DeviceRefusal.{DeviceRefusal}
use Rattle.ffi_device.specs.declared.refusal.DeviceRefusal.TheVariants.{Halted, Memory, NotText, NotPath, BadTimeout, NoSuchMode, NotSaved}
use Rattle.ffi_device.specs.declared.refusal.DeviceRefusal.TheVariants.{NotWhole, TooMany, NotTexts, NoSuchOperation, CredentialTooLarge}
use Rattle.ffi_device.specs.declared.refusal.DeviceRefusal.TheVariants.{NoSuchLimits, NotAcl}
use Rattle.ffi_device.specs.Codes.{refusal_code, refusal_of}
use Rattle.ffi_device.specs.Refused.{RefusesPath, RefusesCreate, RefusesNodes}
use Rattle.zk_nodes.specs.PathFault.{IsPath}
use Rattle.zk_conclusions.specs.Subtrees.{Says}
use Rattle.zk_conclusions.specs.declared.no_subtree.NoSubtree.{NoSubtree}
use Rattle.zk_conclusions.specs.declared.no_subtree.NoSubtree.TheVariants as why
use Rattle.ffi_device.specs.Snapshots.{RefusesSnapshot}
use Rattle.ffi_device.specs.Standings.{RefusesStanding}
use Rattle.ffi_device.specs.Happenings.{Happening}
use Rattle.ffi_device.specs.Steps.{Steps}
use Rattle.ffi_device.specs.inner.Texts.{RefusesPaths, RefusesTexts}

pub refuses : (Refuses : ℤ → Type 0) (now : ℕ) (what : Happening) (device : Device) (refusal : DeviceRefusal)
    → Refuses (refusal_code refusal) → (Refuses (negsuc 0) → ⊥) → Steps Refuses now what device (refusal_code refusal) device
refuses Refuses now what device Halted is goes_on = absurd (goes_on is)
refuses Refuses now what device Memory is goes_on = (is, refl)
refuses Refuses now what device NotText is goes_on = (is, refl)
refuses Refuses now what device NotPath is goes_on = (is, refl)
refuses Refuses now what device BadTimeout is goes_on = (is, refl)
refuses Refuses now what device NoSuchMode is goes_on = (is, refl)
refuses Refuses now what device NotSaved is goes_on = (is, refl)
refuses Refuses now what device NotWhole is goes_on = (is, refl)
refuses Refuses now what device TooMany is goes_on = (is, refl)
refuses Refuses now what device NotTexts is goes_on = (is, refl)
refuses Refuses now what device NoSuchOperation is goes_on = (is, refl)
refuses Refuses now what device CredentialTooLarge is goes_on = (is, refl)
refuses Refuses now what device NoSuchLimits is goes_on = (is, refl)
refuses Refuses now what device NotAcl is goes_on = (is, refl)

pub refuses_create : (path : List ℕ) (mode : ℕ) (refusal : DeviceRefusal) → RefusesPath path (refusal_code refusal)
    → RefusesCreate path mode (refusal_code refusal)
refuses_create path mode Halted is = is
refuses_create path mode Memory is = is
refuses_create path mode NotText is = is
refuses_create path mode NotPath is = is
refuses_create path mode BadTimeout is = is
refuses_create path mode NoSuchMode is = absurd is
refuses_create path mode NotSaved is = is
refuses_create path mode NotWhole is = is
refuses_create path mode TooMany is = is
refuses_create path mode NotTexts is = is
refuses_create path mode NoSuchOperation is = is
refuses_create path mode CredentialTooLarge is = is
refuses_create path mode NoSuchLimits is = is
refuses_create path mode NotAcl is = is

-- the same of a path for all nodes at and below it
pub refuses_path : (lacking many : Type 0) (path : List ℕ) (refusal : DeviceRefusal) → RefusesPath path (refusal_code refusal)
    → RefusesNodes lacking many path (refusal_code refusal)
refuses_path lacking many path Halted is = is
refuses_path lacking many path Memory is = is
refuses_path lacking many path NotText is = is
refuses_path lacking many path NotPath is = is
refuses_path lacking many path BadTimeout is = is
refuses_path lacking many path NoSuchMode is = is
refuses_path lacking many path NotSaved is = is
refuses_path lacking many path NotWhole is = absurd is
refuses_path lacking many path TooMany is = absurd is
refuses_path lacking many path NotTexts is = is
refuses_path lacking many path NoSuchOperation is = is
refuses_path lacking many path CredentialTooLarge is = is
refuses_path lacking many path NoSuchLimits is = is
refuses_path lacking many path NotAcl is = is

-- what a refusal of them says, by its number
pub refuses_nodes : (lacking many : Type 0) (path : List ℕ) (why : NoSubtree)
    → IsPath path → Says why lacking many → RefusesNodes lacking many path (refusal_code (refusal_of why))
refuses_nodes lacking many path why.NotWhole fine is = is
refuses_nodes lacking many path why.TooMany fine is = is
refuses_nodes lacking many path why.Memory fine is = fine

-- the same where it is handed on
pub handed_on : {T : Type 0} (r : Result T DeviceRefusal) (why : NoSubtree) (lacking many : Type 0) (path : List ℕ)
    → IsErrAnd r (λ refusal. refusal ≡ refusal_of why) → IsPath path → Says why lacking many
    → IfErr r (λ refusal. RefusesNodes lacking many path (refusal_code refusal))
handed_on (Ok x) why lacking many path is fine says = tt
handed_on (Err refusal) why lacking many path is fine says =
    subst (λ refusal. RefusesNodes lacking many path (refusal_code refusal)) (sym is) (refuses_nodes lacking many path why fine says)

-- no markers are spelled so
pub refuses_markers : (directory name names markers : List ℕ) (refusal : DeviceRefusal) → RefusesTexts markers (refusal_code refusal)
    → RefusesStanding directory name names markers (refusal_code refusal)
refuses_markers directory name names markers Halted is = absurd is
refuses_markers directory name names markers Memory is = is
refuses_markers directory name names markers NotText is = absurd is
refuses_markers directory name names markers NotPath is = absurd is
refuses_markers directory name names markers BadTimeout is = absurd is
refuses_markers directory name names markers NoSuchMode is = absurd is
refuses_markers directory name names markers NotSaved is = absurd is
refuses_markers directory name names markers NotWhole is = absurd is
refuses_markers directory name names markers TooMany is = absurd is
refuses_markers directory name names markers NotTexts is = inr (λ own against are. is (own ∷ against) are)
refuses_markers directory name names markers NoSuchOperation is = absurd is
refuses_markers directory name names markers CredentialTooLarge is = absurd is
refuses_markers directory name names markers NoSuchLimits is = absurd is
refuses_markers directory name names markers NotAcl is = absurd is

-- what spells no nodes of a snapshot
pub refuses_first : (cache : Cache) (nodes parents : List ℕ) (refusal : DeviceRefusal) → RefusesPaths nodes (refusal_code refusal)
    → RefusesSnapshot cache nodes parents (refusal_code refusal)
refuses_first cache nodes parents Halted is = absurd is
refuses_first cache nodes parents Memory is = absurd is
refuses_first cache nodes parents NotText is = absurd is
refuses_first cache nodes parents NotPath is = inl is
refuses_first cache nodes parents BadTimeout is = absurd is
refuses_first cache nodes parents NoSuchMode is = absurd is
refuses_first cache nodes parents NotSaved is = absurd is
refuses_first cache nodes parents NotWhole is = absurd is
refuses_first cache nodes parents TooMany is = absurd is
refuses_first cache nodes parents NotTexts is = inl is
refuses_first cache nodes parents NoSuchOperation is = absurd is
refuses_first cache nodes parents CredentialTooLarge is = absurd is
refuses_first cache nodes parents NoSuchLimits is = absurd is
refuses_first cache nodes parents NotAcl is = absurd is

-- what spells no parents
pub refuses_second : (cache : Cache) (nodes parents : List ℕ) (refusal : DeviceRefusal) → RefusesPaths parents (refusal_code refusal)
    → RefusesSnapshot cache nodes parents (refusal_code refusal)
refuses_second cache nodes parents Halted is = absurd is
refuses_second cache nodes parents Memory is = absurd is
refuses_second cache nodes parents NotText is = absurd is
refuses_second cache nodes parents NotPath is = inr is
refuses_second cache nodes parents BadTimeout is = absurd is
refuses_second cache nodes parents NoSuchMode is = absurd is
refuses_second cache nodes parents NotSaved is = absurd is
refuses_second cache nodes parents NotWhole is = absurd is
refuses_second cache nodes parents TooMany is = absurd is
refuses_second cache nodes parents NotTexts is = inr is
refuses_second cache nodes parents NoSuchOperation is = absurd is
refuses_second cache nodes parents CredentialTooLarge is = absurd is
refuses_second cache nodes parents NoSuchLimits is = absurd is
refuses_second cache nodes parents NotAcl is = absurd is

-- what is so of a refusal is so of what is handed on
pub on_refused : {T : Type 0} (r : Result T DeviceRefusal) (refusal : DeviceRefusal) (P : DeviceRefusal → Type 0)
    → IsErrAnd r (λ one. one ≡ refusal) → P refusal → IfErr r P
on_refused (Ok x) refusal P is so = tt
on_refused (Err one) refusal P is so = subst P (sym is) so
