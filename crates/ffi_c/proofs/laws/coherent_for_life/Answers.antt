-- The law of what a session shows is the lemma `coherent_for_life` of `Pasts`.
use Rattle.ffi_c.proofs.Pasts.{coherent_for_life}
use Rattle.ffi_c.proofs.laws.coherent_for_life.Goals as goal

pub returns : goal.returns
returns c = coherent_for_life
