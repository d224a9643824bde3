-- The place goes where the answer leads: `hears_of_place`.
use Rattle.std.proofs.Common.{◌≡◌, ℤ, arith, w64, subst, ap, sym}
use Rattle.std.proofs.lemmas.Int.{ints}
use mir.Val.{to_z, of_z}
use Rattle.zk_client.specs.Views.{outcome_view}
use Rattle.zk_contend.specs.Settling.{moved, Becomes}
use Rattle.zk_contend.proofs.Wishes.{hears_of_place}
use Rattle.zk_contend.proofs.contender.LockContender.hear_of_place.Goals as goal

pub returns-in-Some-clause-heard : goal.returns-in-Some-clause-heard
returns-in-Some-clause-heard g c =
    let its : to_z w64 (of_z w64 c.args.session) ≡ c.args.session = omega (arith, ints) in
    let place = c.args.self.now.place in
    hears_of_place c.args.session c.args.self.now c.args.ask (outcome_view c.args.outcome.now) c.in_ok-next.next c.in-Some.place c.requires
    (subst (λ (z : ℤ). Becomes z c.args.self.now place c.args.ask (outcome_view c.args.outcome.now) c.in_ok-next.next) its
    c.in_ok-next.ensures) (sym (ap (moved place) c.in-Some.is))

pub returns-in_default-clause-heard : goal.returns-in_default-clause-heard
returns-in_default-clause-heard g c =
    let its : to_z w64 (of_z w64 c.args.session) ≡ c.args.session = omega (arith, ints) in
    let place = c.args.self.now.place in
    hears_of_place c.args.session c.args.self.now c.args.ask (outcome_view c.args.outcome.now) c.in_ok-next.next place c.requires
    (subst (λ (z : ℤ). Becomes z c.args.self.now place c.args.ask (outcome_view c.args.outcome.now) c.in_ok-next.next) its
    c.in_ok-next.ensures) (sym (ap (moved place) c.in_default.is))
