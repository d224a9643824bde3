-- The place is as it was, with the listing that `listed_of` makes.
use Rattle.std.proofs.Common.{◌≡◌, ◌∙◌, Some, arith, w64, refl, sym, subst}
use Rattle.std.proofs.lemmas.Int.{ints}
use mir.Val.{to_z, of_z}
use Rattle.zk_contend.specs.declared.place.Place.{Place}
use Rattle.zk_contend.specs.declared.place.Place.TheVariants.{At}
use Rattle.zk_contend.specs.Settling.{IsListedAt}
use Rattle.zk_contend.proofs.contender.LockContender.list.Goals as goal

pub returns-clause-listed : goal.returns-clause-listed
returns-clause-listed g c =
    let its = c.in_ok-listed.ensures in
    let same : to_z w64 (of_z w64 c.args.zxid) ≡ c.args.zxid = omega (arith, ints) in
    subst (λ (place : Place g.row.A.Denot). IsListedAt c.args.self.now.directory c.args.self.now.naming c.args.names c.args.zxid place
    (At c.in-At.own (Some c.in_ok-listed.listed))) (sym c.in-At.is)
    (c.in_ok-listed.listed, refl, its.names, its.zxid ∙ same, its.behind)
