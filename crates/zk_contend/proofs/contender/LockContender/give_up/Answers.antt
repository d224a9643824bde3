-- A refusal is told, since one that was told is forgotten: `told_again`.
use Rattle.std.proofs.Common.{◌≡◌, Some, sym, subst}
use Rattle.zk_contend.specs.declared.status.LockStatus.{LockStatus}
use Rattle.zk_contend.specs.declared.status.LockStatus.TheVariants.{Refused}
use Rattle.zk_contend.specs.Standings.{news_of}
use Rattle.zk_contend.proofs.Tellings.{told_again}
use Rattle.zk_contend.proofs.contender.LockContender.give_up.Goals as goal

pub returns-clause-tells : goal.returns-clause-tells
returns-clause-tells g c why =
    subst (λ (told : LockStatus). news_of told (Refused why) ≡ Some (Refused why)) (sym c.without_refusal-self.ensures)
    (told_again c.args.self.now.told why)
