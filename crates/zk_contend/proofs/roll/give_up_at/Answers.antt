-- One that is lent is changed, and no other: `changed_at`, `unchanged_at`.
use Rattle.std.proofs.Common.{◌≡◌, nat_eq, refl, subst, sym, IsSome}
use Rattle.indexmap.specs.IndexMap.{get}
use Rattle.zk_contend.specs.Contenders.{given_up}
use Rattle.zk_contend.proofs.Rolls.{changed_at}
use Rattle.zk_contend.proofs.roll.give_up_at.Goals as goal

pub returns-in-Some : goal.returns-in-Some
returns-in-Some g c =
    changed_at (λ was is. is ≡ given_up was) c.args.ticket (get nat_eq c.args.all.now)
    (get nat_eq (c.get_mut.follows.lender c.give_up.new.self)) c.in-Some.contender.now c.give_up.new.self
    (sym c.in-Some.ensures.value)
    ((c.get_mut.follows.holds c.give_up.new.self).3 (subst IsSome c.in-Some.ensures.value refl)).0
    c.give_up.ensures.gives
