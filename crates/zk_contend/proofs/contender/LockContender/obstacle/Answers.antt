-- The place has this listing, so what is in its way is so by that.
use Rattle.std.proofs.Common.{◌≡◌, Some, rules, subst}
use Rattle.zk_client.specs.Clients.{view_of}
use Rattle.zk_contend.specs.declared.place.Place.{Place}
use Rattle.zk_contend.specs.declared.place.Place.TheVariants.{At}
use Rattle.zk_contend.specs.Standings.{IsObstacle}
use Rattle.zk_contend.proofs.contender.LockContender.obstacle.Goals as goal

pub returns-in-At-default-Some-clause-none : goal.returns-in-At-default-Some-clause-none
returns-in-At-default-Some-clause-none g c e why obstacle =
    let is : c.args.self.now.place ≡ At c.in-At-default-Some.own (Some c.in-At-default-Some.listed) = search rules in
    c.obstacle_at.ensures.none e why
    (rw is (subst (λ (place : Place g.row.A.Denot). IsObstacle (view_of c.args.client.now) c.args.self.now.directory
    c.args.self.now.naming place why) is obstacle))
