-- The law that a reply to what a caller has spelled is told whole is the lemma `brings_all` of `Replies`.
use Rattle.ffi_device.proofs.Replies.{brings_all}
use Rattle.ffi_device.proofs.laws.brings_all.Goals as goal

pub returns : goal.returns
returns c = brings_all
