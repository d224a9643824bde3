-- What contracts of private functions say: nobody has to believe it.
use Rattle.std.specs.Prelude.{◌≡◌, ℕ, ℤ, pos, Result, Ok, Err}
use Rattle.ffi_device.specs.Codes.{refusal_code}
use Rattle.ffi_device.specs.declared.refusal.DeviceRefusal.{DeviceRefusal}
use Rattle.ffi_device.specs.declared.standings.Stands.{Stands}
use Rattle.ffi_device.specs.declared.standings.Stands.TheVariants.{First, After, Unsure}

-- The number that is answered, the token and the count. Each of these two is 0 if it is not told.
abbrev pub TellsStands : Result Stands DeviceRefusal → (code token : ℤ) (count : ℕ) → Type 0
TellsStands (Ok (First first)) code token count = (code ≡ pos 0) × (token ≡ first) × (count ≡ 0)
TellsStands (Ok (After length)) code token count = (code ≡ pos 2) × (token ≡ pos 0) × (count ≡ length)
TellsStands (Ok Unsure) code token count = (code ≡ pos 1) × (token ≡ pos 0) × (count ≡ 0)
TellsStands (Err refusal) code token count = (code ≡ refusal_code refusal) × (token ≡ pos 0) × (count ≡ 0)
