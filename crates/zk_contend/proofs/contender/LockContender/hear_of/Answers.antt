-- The answer is taken in, and then it is seen whether it is a refusal.
use Rattle.std.proofs.Common.{◌≡◌, ℤ, None, Option, arith, w64, subst, sym, ap, ◌∙◌}
use Rattle.std.proofs.lemmas.Int.{ints}
use mir.Val.{to_z, of_z}
use Rattle.zk_client.specs.Clients.{view_of}
use Rattle.zk_client.specs.Views.{outcome_view}
use Rattle.zk_contend.specs.declared.contender.LockContender.{LockContender}
use Rattle.zk_contend.specs.declared.refused.Obstacle.{Obstacle}
use Rattle.zk_contend.specs.declared.refused.Refused.{Refused}
use Rattle.zk_contend.specs.Contenders.{IsRefusal}
use Rattle.zk_contend.specs.Hearing.{refused_for}
use Rattle.zk_contend.specs.Settling.{Hears}
use Rattle.zk_contend.proofs.contender.LockContender.hear_of.Goals as goal

pub returns-clause-heard : goal.returns-clause-heard
returns-clause-heard g c =
    let its : to_z w64 (of_z w64 c.session_of-session.result) ≡ c.session_of-session.result = omega (arith, ints) in
    record {
      hears = subst (λ (z : ℤ). Hears z c.args.self.now c.args.ask (outcome_view c.args.outcome) c.take_in.new.self.place)
          (its ∙ c.session_of-session.ensures) c.in_ok-take_in.ensures.heard;
      refused = subst (λ (told : Option Obstacle). IsRefusal (view_of c.args.client.now) c.args.now c.args.ask
          c.take_in.new.self.directory c.take_in.new.self.naming c.take_in.new.self.place (refused_for c.args.now told)
          c.refused_for-self.result) c.refusal_of-told.ensures
          (subst (λ (r : Option Refused). IsRefusal (view_of c.args.client.now) c.args.now c.args.ask c.take_in.new.self.directory
          c.take_in.new.self.naming c.take_in.new.self.place (refused_for c.args.now c.refusal_of-told.result) r)
          (sym c.refused_for-self.ensures) (c.refusal.ensures c.args.now));
      is = ap (λ (one : LockContender g.row.A.Denot). record one { asked = None; refused = c.refused_for-self.result })
          c.in_ok-take_in.ensures.rest;
    }
