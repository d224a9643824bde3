-- The law that a script prints what its client says is the lemma `lives_print` of `Living`.
use Rattle.script_live.proofs.Living.{lives_print}
use Rattle.script_live.proofs.laws.lives_print.Goals as goal

pub returns : goal.returns
returns c = lives_print
