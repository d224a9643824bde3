-- No contender is there and no call is to be heard of, since there are none; and none of what was said answers one.
use Rattle.std.proofs.Common.{rules, refl}
use Rattle.ffi_device.proofs.device.Device.has_nobody.Goals as goal

pub returns-then-is_empty : goal.returns-then-is_empty
returns-then-is_empty c = λ none. record {
  nobody = c.if-is_empty.ensures.nobody refl;
  nothing = c.if-is_empty.ensures.nothing refl;
  programs = search rules;
}
