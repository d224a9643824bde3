-- What is shown of the place by the listing that it has.
use Rattle.std.proofs.Common.{◌≡◌, ℤ, arith, w64, sym, subst}
use Rattle.std.proofs.lemmas.Int.{ints}
use mir.Val.{to_z, of_z}
use Rattle.zk_client.specs.Clients.{view_of}
use Rattle.zk_contend.specs.Leases.{StandsBy}
use Rattle.zk_contend.proofs.contender.LockContender.token_at.Goals as goal

pub returns-clause-none : goal.returns-clause-none
returns-clause-none g c e token stands =
    let its : to_z w64 (of_z w64 c.args.listed.now.zxid) ≡ c.args.listed.now.zxid = omega (arith, ints) in
    c.token_by-token.ensures.none e token
    (subst (λ (z : ℤ). StandsBy (view_of c.args.client.now) c.args.self.now.directory c.args.self.now.naming c.args.listed.now.names z
    c.args.own.now token) (sym its) stands)
