-- The law of the revision, that the same number means the same good answers, is the lemma `same_for_life` of `Revisions`.
use Rattle.ffi_c.proofs.Revisions.{same_for_life}
use Rattle.ffi_c.proofs.laws.same_for_life.Goals as goal

pub returns : goal.returns
returns c = same_for_life
