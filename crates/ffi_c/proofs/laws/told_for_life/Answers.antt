-- The law of what a session follows is the lemma `told_for_life` of `AsTold`, and `one_hand_is_apart` who meets its premise.
use Rattle.ffi_c.proofs.AsTold.{told_for_life, one_hand_is_apart}
use Rattle.ffi_c.proofs.laws.told_for_life.Goals as goal

pub returns-clause-told : goal.returns-clause-told
returns-clause-told c = told_for_life

pub returns-clause-apart : goal.returns-clause-apart
returns-clause-apart c = one_hand_is_apart
