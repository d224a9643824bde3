-- Nothing is in its way, or it was not asked for the names: `not_listing`.
use Rattle.std.proofs.Common.{inr, refl}
use Rattle.zk_contend.proofs.Wishes.{not_listing}
use Rattle.zk_contend.proofs.contender.LockContender.refusal.Goals as goal

pub returns-in-None : goal.returns-in-None
returns-in-None g c = λ now. inr ((λ is. c.obstacle.ensures.none c.in-None.is), refl)

pub returns-in_default : goal.returns-in_default
returns-in_default g c = λ now. inr ((λ is. absurd (not_listing c.args.ask c.in_default.not-List is)), refl)
