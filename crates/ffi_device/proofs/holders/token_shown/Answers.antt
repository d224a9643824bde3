-- Where `Holder::of` gives none, no token is shown: that is its clause `none`.
use Rattle.std.proofs.Common.{refl}
use Rattle.ffi_device.proofs.holders.token_shown.Goals as goal

pub returns-in-None : goal.returns-in-None
returns-in-None c = c.in-None.ensures.none refl
