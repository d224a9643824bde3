-- By whether the dialler asked for it: a connection of its own is the move `Opened` (`ours_makes`), any other is hung up (`late_makes`).
use Rattle.std.proofs.Common.{◌++◌, ◌∷◌, [], refl, subst}
use Rattle.std.specs.Prelude.{OnOk}
use Rattle.zk_turns.specs.Turns as turns
use Rattle.zk_client.specs.Clients.{view_of}
use Rattle.zk_agent.specs.Agents.{over_at, trail_of, Hears, HungUp, Opened}
use Rattle.zk_agent.specs.inner.Agents.{Acts}
use Rattle.zk_agent.specs.Telling.{told_by, HangsUp}
use Rattle.zk_agent.proofs.Breaking.{beside, err_always}
use Rattle.zk_agent.proofs.Moves.{gives, late_is_same, late_makes, ok_after, opened, ours_is_open, ours_makes, trail_eq}
use Rattle.zk_agent.proofs.agent.Agent.open.Goals as goal

pub step_client-requires : goal.step_client-requires
step_client-requires g c = ours_is_open c.timeout_ms-timeout_ms.result c.args.now c.args.self.now.dialler c.open.new.self c.open.result
    c.open.ensures c.if-open.true

pub returns-then-open-clause-comes : goal.returns-then-open-clause-comes
returns-then-open-clause-comes g c =
    let old = trail_of c.args.self.now c.args.actions.now.items in
    let between = record old { dialler = c.open.new.self } in
    let new = trail_of c.step_client.new.self c.step_client.new.actions.items in
    subst (λ given. OnOk c.step_client.result (Acts c.args.now given old new))
    (ours_makes c.timeout_ms-timeout_ms.result c.args.now c.args.self.now.dialler c.open.new.self c.open.result
    c.open.ensures c.if-open.true)
    (ok_after c.step_client.result c.args.now (Opened c.args.now ∷ []) (Hears c.args.now turns.Opened ∷ []) old between new
    (opened old between c.timeout_ms-timeout_ms.result c.args.now c.open.result c.timeout_ms-timeout_ms.ensures c.if-open.true
    c.open.ensures refl) c.step_client.ensures.comes)

pub returns-clause-comes : goal.returns-clause-comes
returns-clause-comes g c =
    let old = trail_of c.args.self.now c.args.actions.now.items in
    let between = record old { dialler = c.open.new.self; told = told_by c.push.new.actions.items } in
    let new = trail_of c.end.new.self c.end.new.actions.items in
    let same = late_is_same c.timeout_ms-timeout_ms.result c.args.now c.args.self.now.dialler c.open.new.self c.open.result
    c.open.ensures c.if-open.false in
    subst (λ given. OnOk c.end.result (Acts c.args.now given old new))
    (late_makes c.timeout_ms-timeout_ms.result c.args.now c.args.self.now.dialler c.open.new.self c.open.result
    c.open.ensures c.if-open.false)
    (ok_after c.end.result c.args.now (HungUp ∷ []) (over_at c.args.now) old between new
    (gives c.args.now HungUp old between refl refl tt (trail_eq
    (record old { told = old.told ++ HangsUp ∷ [] }) between refl refl refl same refl refl c.in_ok-push.ensures)) c.end.ensures.comes)

pub returns-in_err-push-clause-broke : goal.returns-in_err-push-clause-broke
returns-in_err-push-clause-broke g c =
    let old = c.args.self.now in
    let view = view_of old.asker.follower.client in
    err_always c.from_residual.result (beside old.timeout_ms view view refl)
