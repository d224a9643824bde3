-- What is lent hears, and no other does: `changed_at`.
use Rattle.std.proofs.Common.{IsSome, nat_eq, refl, subst, sym}
use Rattle.indexmap.proofs.MapLemmas.{OnOk-map}
use Rattle.indexmap.specs.IndexMap.{get}
use Rattle.zk_client.specs.Clients.{view_of}
use Rattle.zk_client.specs.Views.{outcome_view}
use Rattle.zk_contend.specs.Contenders.{IsHeard}
use Rattle.zk_contend.proofs.Rolls.{changed_at}
use Rattle.zk_contend.proofs.roll.hear_at.Goals as goal

pub returns-in-Some : goal.returns-in-Some
returns-in-Some g c = OnOk-map c.hear.result _ _ (λ heard.
    changed_at (IsHeard (view_of c.args.client.now) c.args.now (outcome_view c.args.outcome)) c.args.ticket (get nat_eq c.args.all.now)
    (get nat_eq (c.get_mut.follows.lender c.hear.new.self)) c.in-Some.contender.now c.hear.new.self
    (sym c.in-Some.ensures.value)
    ((c.get_mut.follows.holds c.hear.new.self).3 (subst IsSome c.in-Some.ensures.value refl)).0
    heard)
    c.hear.ensures.heard
