-- What is lent is told of: the look-up finds it with what was told, and no other is changed.
use Rattle.std.proofs.Common.{◌≡◌, ◌∙◌, IsSome, Option, Some, ap, nat_eq, refl, subst}
use Rattle.indexmap.specs.IndexMap.{get}
use Rattle.std.specs.Map.{update}
use Rattle.zk_client.specs.Clients.{view_of}
use Rattle.zk_contend.specs.declared.contender.LockContender.{LockContender}
use Rattle.zk_contend.specs.inner.Rolls.{with_told, TellsOne}
use Rattle.zk_contend.specs.Standings.{news_of, told_after}
use Rattle.zk_contend.proofs.roll.tell_one.Goals as goal

pub returns-in-Some : goal.returns-in-Some
returns-in-Some g c =
    let was = c.in-Some.contender.now in
    let is = c.tell.new.self in
    let news = c.tell.ensures.news in
    let same : is ≡ with_told was (told_after was.told (news_of was.told news.0)) =
    c.tell.ensures.told ∙ ap (λ r. with_told was (told_after was.told r)) news.3 in
    subst (λ (o : Option (LockContender g.row.A.Denot)). TellsOne (view_of c.args.client.now) c.args.ticket o c.tell.result
    (get nat_eq c.args.all.now) (get nat_eq (c.get_mut.follows.lender is)))
    c.in-Some.ensures.value (
      news.0,
      news.1,
      news.2,
      news.3,
      λ other. ((c.get_mut.follows.holds is).3 (subst IsSome c.in-Some.ensures.value refl)).0 other
          ∙ ap (λ w. update nat_eq (get nat_eq c.args.all.now) c.args.ticket (Some w) other) same,
    )
