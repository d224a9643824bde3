-- What `live` prints over a bench agrees with its history: each deed beside a bench is one beside servers of the model (`life_agrees`).
use Rattle.theory_shown.specs.Lived.{ByClient, ByKnown}
use Rattle.theory_shown.proofs.Agreeing.{life_agrees}
use Rattle.theory_shown.proofs.Lived.{known_coheres, life_coheres}
use Rattle.theory_shown.proofs.lives_agree.Goals as goal

pub returns-clause-bytes : goal.returns-clause-bytes
returns-clause-bytes g c = life_agrees ByClient c.args.bench.now life_coheres c.known_of.ensures

pub returns-clause-known : goal.returns-clause-known
returns-clause-known g c = life_agrees ByKnown c.args.bench.now known_coheres c.known_of.ensures
