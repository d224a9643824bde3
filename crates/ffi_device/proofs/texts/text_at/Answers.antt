-- Where there is no text, `get` says so of the list, and there `get_or` gives the empty one: `unwrap_or-slice_get`.
use Rattle.std.proofs.Common.{◌∙◌, [], ap}
use Rattle.std.proofs.lemmas.Option.{unwrap_or-slice_get}
use Rattle.std.specs.Prelude.{unwrap_or}
use Rattle.ffi_device.proofs.texts.text_at.Goals as goal

pub returns-in-None : goal.returns-in-None
returns-in-None c = ap (λ found. unwrap_or found []) c.in-None.ensures ∙ unwrap_or-slice_get c.args.texts.now c.args.index []
