-- The law of a session's handle, that the session in it is sound, is the lemma `sound_for_life` of `Lives`.
use Rattle.ffi_c.proofs.Lives.{sound_for_life}
use Rattle.ffi_c.proofs.laws.sound_for_life.Goals as goal

pub returns : goal.returns
returns c = sound_for_life
