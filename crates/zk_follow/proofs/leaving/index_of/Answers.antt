-- Of an index of all, who may not be quiet is as it was; of one of none nothing is to be said: `none_found`.
use Rattle.std.proofs.Common.{subst, sym}
use Rattle.zk_follow.specs.Following.{AreQuietBut}
use Rattle.zk_follow.proofs.Finding.{none_found}
use Rattle.zk_follow.proofs.leaving.index_of.Goals as goal

pub fit-requires : goal.fit-requires
fit-requires g c = none_found c.new-index.result c.args.subjects.now c.new-index.ensures

pub returns-in-Ok-clause-rest : goal.returns-in-Ok-clause-rest
returns-in-Ok-clause-rest g c = λ view quiet.
    subst (λ n. AreQuietBut view n c.args.subjects.now c.args.awake.items) (sym c.in-Ok.ensures.count) quiet
