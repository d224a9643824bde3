-- Nobody is waited for, and it does not hold: `wants_again`.
use Rattle.std.proofs.Common.{◌≡◌, ◌∙◌, arith, length, refl, sym}
use Rattle.std.proofs.lemmas.Bool.Decides.{Decides-eqb}
use Rattle.zk_client.specs.Clients.{view_of}
use Rattle.zk_contend.proofs.Wishes.{no_items, wants_again}
use Rattle.zk_contend.proofs.contender.LockContender.wants_listed.Goals as goal

pub returns-in-None-clause-some : goal.returns-in-None-clause-some
returns-in-None-clause-some g c =
    let behind = c.args.listed.now.behind in
    let none = (Decides-eqb behind.len 0).0 (sym c.is_empty.ensures ∙ c.if-not-is_empty.false) in
    let empty : length behind.items ≡ 0 = omega (arith, none, behind.ok.0) in
    wants_again (view_of c.args.client.now) c.args.self.now c.args.own.now c.args.listed.now (no_items behind.items empty)
    (c.in-None.ensures.none refl)
