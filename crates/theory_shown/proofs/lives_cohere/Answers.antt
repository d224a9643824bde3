-- Good answers of a scripted client are the history's: by induction over its deeds (`life_coheres`), and so by what streams know.
use Rattle.theory_shown.proofs.Lived.{known_coheres, life_coheres}
use Rattle.theory_shown.proofs.lives_cohere.Goals as goal

pub returns-clause-known : goal.returns-clause-known
returns-clause-known c = known_coheres

pub returns-clause-bytes : goal.returns-clause-bytes
returns-clause-bytes c = life_coheres
