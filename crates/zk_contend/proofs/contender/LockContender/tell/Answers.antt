-- What was told last says whether it holds: `told_held`.
use Rattle.std.proofs.Common.{◌∙◌, ap, subst, sym}
use Rattle.zk_client.specs.Clients.{view_of}
use Rattle.zk_contend.specs.declared.status.LockStatus.{LockStatus}
use Rattle.zk_contend.specs.Standings.{told_after, TellsHeld}
use Rattle.zk_contend.proofs.Tellings.{told_held}
use Rattle.zk_contend.proofs.contender.LockContender.tell.Goals as goal

pub returns-in-Some-clause-held : goal.returns-in-Some-clause-held
returns-in-Some-clause-held g c =
    subst (λ (s : LockStatus). TellsHeld (view_of c.args.client.now) c.args.self.now s)
    (ap (told_after c.args.self.now.told) (sym c.news_of-news.ensures ∙ c.in-Some.is))
    (told_held (view_of c.args.client.now) c.args.self.now c.args.self.now.told c.stands-stands.result c.stands-stands.ensures.held)

pub returns-in_default-clause-held : goal.returns-in_default-clause-held
returns-in_default-clause-held g c =
    subst (λ (s : LockStatus). TellsHeld (view_of c.args.client.now) c.args.self.now s)
    (ap (told_after c.args.self.now.told) (sym c.news_of-news.ensures ∙ c.in_default.is))
    (told_held (view_of c.args.client.now) c.args.self.now c.args.self.now.told c.stands-stands.result c.stands-stands.ensures.held)
