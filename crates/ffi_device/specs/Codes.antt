-- The numbers that a caller is told.
use Rattle.std.specs.Prelude.{⊤, ℤ, pos, negsuc, Result, Ok, Err}
use Rattle.ffi_device.specs.declared.refusal.DeviceRefusal.{DeviceRefusal}
use Rattle.ffi_device.specs.declared.refusal.DeviceRefusal.TheVariants.{Halted, Memory, NotText, NotPath, BadTimeout, NoSuchMode, NotSaved}
use Rattle.ffi_device.specs.declared.refusal.DeviceRefusal.TheVariants.{NotWhole, TooMany, NotTexts, NoSuchOperation, CredentialTooLarge}
use Rattle.ffi_device.specs.declared.refusal.DeviceRefusal.TheVariants.{NoSuchLimits, NotAcl}
use Rattle.zk_conclusions.specs.declared.no_subtree.NoSubtree.{NoSubtree}
use Rattle.zk_conclusions.specs.declared.no_subtree.NoSubtree.TheVariants as why

-- the number of a refusal: -1, -2, and -4 to -15
abbrev pub refusal_code : DeviceRefusal → ℤ
refusal_code Halted = negsuc 0
refusal_code Memory = negsuc 1
refusal_code NotText = negsuc 3
refusal_code NotPath = negsuc 4
refusal_code BadTimeout = negsuc 5
refusal_code NoSuchMode = negsuc 6
refusal_code NotSaved = negsuc 7
refusal_code NotWhole = negsuc 8
refusal_code TooMany = negsuc 9
refusal_code NotTexts = negsuc 10
refusal_code NoSuchOperation = negsuc 11
refusal_code CredentialTooLarge = negsuc 12
refusal_code NoSuchLimits = negsuc 13
refusal_code NotAcl = negsuc 14

-- why there is no subtree, as a refusal
abbrev pub refusal_of : NoSubtree → DeviceRefusal
refusal_of why.NotWhole = NotWhole
refusal_of why.TooMany = TooMany
refusal_of why.Memory = Memory

-- the number of what was done: 0 if nothing was refused
abbrev pub code_of : Result ⊤ DeviceRefusal → ℤ
code_of (Ok done) = pos 0
code_of (Err refusal) = refusal_code refusal
