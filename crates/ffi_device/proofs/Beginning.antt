-- What a new device begins with, by a view that is another's too: rewriting, case by case of what was made.
use mathlib.Core.Path.{sym, subst}
use Rattle.std.specs.Prelude.{◌≡◌, ◌<ℤ◌, ℤ, pos, Result, Ok, Err, IfOk, IfErr, MatchResult}
use Rattle.zk_turns.specs.View.{View}
use Rattle.ffi_device.specs.Codes.{refusal_code}
use Rattle.ffi_device.specs.Refused.{RefusesTimeout}
use Rattle.ffi_device.specs.declared.refusal.DeviceRefusal.{DeviceRefusal}
use Rattle.ffi_device.specs.declared.refusal.DeviceRefusal.TheVariants.{Memory}
use Rattle.ffi_device.specs.declared.device.Device.{Device}
use Rattle.ffi_device.specs.Steps.{BeginsWith}

pub begins_with : (made : Result Device DeviceRefusal) (view other : View) (timeout : ℤ)
    → view ≡ other → pos 0 <ℤ timeout → IfOk made (BeginsWith view) → IfErr made (λ refusal. refusal ≡ Memory)
    → MatchResult made (BeginsWith other) (λ refusal. RefusesTimeout timeout (refusal_code refusal))
begins_with (Ok device) view other timeout same above begins refused = subst (λ v. BeginsWith v device) same begins
begins_with (Err refusal) view other timeout same above begins refused =
    subst (λ r. RefusesTimeout timeout (refusal_code r)) (sym refused) above
