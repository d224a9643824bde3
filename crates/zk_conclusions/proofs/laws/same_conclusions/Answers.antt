-- The law is `same_conclusions`: the tests look at good answers alone, so what one cache shows the other shows too, and back.
use Rattle.zk_conclusions.proofs.Same.{same_conclusions}
use Rattle.zk_conclusions.proofs.laws.same_conclusions.Goals as goal

pub returns : goal.returns
returns c = same_conclusions
