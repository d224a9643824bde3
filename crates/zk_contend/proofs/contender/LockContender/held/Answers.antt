-- The place has this listing, so what holds in it is shown by that.
use Rattle.std.proofs.Common.{◌≡◌, Some, rules, subst}
use Rattle.zk_client.specs.Clients.{view_of}
use Rattle.zk_contend.specs.declared.place.Place.{Place}
use Rattle.zk_contend.specs.declared.place.Place.TheVariants.{At}
use Rattle.zk_contend.specs.Standings.{HoldsIn}
use Rattle.zk_contend.proofs.contender.LockContender.held.Goals as goal

pub returns-in-At-default-Some-clause-none : goal.returns-in-At-default-Some-clause-none
returns-in-At-default-Some-clause-none g c e token shows =
    let is : c.args.self.now.place ≡ At c.in-At-default-Some.own (Some c.in-At-default-Some.listed) = search rules in
    c.token_at.ensures.none e token
    (rw is (subst (λ (place : Place g.row.A.Denot). HoldsIn (view_of c.args.client.now) c.args.self.now place token) is shows))
