-- To change the addresses is the move `Addressed`, by what the dialler ensures (`readdressed`). A session that leaves its connection is
-- hung up after that, and of any other the client hears the moment (`leaves_so`): `ok_after`.
use Rattle.std.proofs.Common.{◌++◌, ◌∷◌, [], refl, sym, subst, ◌∙◌}
use Rattle.std.specs.Prelude.{OnOk}
use Rattle.zk_turns.specs.Turns.{Now}
use Rattle.zk_client.specs.Clients.{view_of}
use Rattle.zk_agent.specs.Agents.{left_at, over_at, trail_of, Addressed, Hears, HungUp}
use Rattle.zk_agent.specs.inner.Agents.{Acts}
use Rattle.zk_agent.specs.Telling.{told_by, HangsUp}
use Rattle.zk_agent.proofs.Breaking.{beside, err_always}
use Rattle.zk_agent.proofs.Moves.{after, gives, leaves_so, ok_after, readdressed, trail_eq}
use Rattle.zk_agent.proofs.agent.Agent.change_addresses.Goals as goal

pub returns-then-is_leaving-clause-comes : goal.returns-then-is_leaving-clause-comes
returns-then-is_leaving-clause-comes g c =
    let now = c.args.now in
    let old = trail_of c.args.self.now c.args.actions.now.items in
    let changed = record old { dialler = c.change_addresses.new.self } in
    let hung = record changed { told = told_by c.push.new.actions.items } in
    let new = trail_of c.end.new.self c.end.new.actions.items in
    let addressed = Addressed c.args.kept c.args.added c.args.is_listed in
    let so = c.in_ok-moves.ensures in
    subst (λ leaves. OnOk c.end.result (Acts now (addressed ∷ left_at leaves now) old new))
    (sym c.if-is_leaving.true ∙ leaves_so c.args.kept c.args.added c.args.is_listed c.in_ok-moves.moves c.args.self.now.dialler
    c.change_addresses.new.self so.moves so.phase c.is_leaving.result c.is_leaving.ensures)
    (ok_after c.end.result now (addressed ∷ HungUp ∷ []) (over_at now) old hung new
    (after now (addressed ∷ []) (HungUp ∷ []) old changed hung
    (gives now addressed old changed refl refl tt (
      readdressed c.args.kept c.args.added c.args.is_listed c.in_ok-moves.moves c.args.self.now.dialler c.change_addresses.new.self
          so.moves so.phase so.order so.each so.first so.backoff,
      refl,
    ))
    (gives now HungUp changed hung refl refl tt
    (trail_eq (record changed { told = old.told ++ HangsUp ∷ [] }) hung refl refl refl refl refl refl c.in_ok-push.ensures)))
    c.end.ensures.comes)

pub returns-clause-comes : goal.returns-clause-comes
returns-clause-comes g c =
    let now = c.args.now in
    let old = trail_of c.args.self.now c.args.actions.now.items in
    let changed = record old { dialler = c.change_addresses.new.self } in
    let new = trail_of c.step_client.new.self c.step_client.new.actions.items in
    let addressed = Addressed c.args.kept c.args.added c.args.is_listed in
    let so = c.in_ok-moves.ensures in
    subst (λ leaves. OnOk c.step_client.result (Acts now (addressed ∷ left_at leaves now) old new))
    (sym c.if-is_leaving.false ∙ leaves_so c.args.kept c.args.added c.args.is_listed c.in_ok-moves.moves c.args.self.now.dialler
    c.change_addresses.new.self so.moves so.phase c.is_leaving.result c.is_leaving.ensures)
    (ok_after c.step_client.result now (addressed ∷ []) (Hears now (Now now) ∷ []) old changed new
    (gives now addressed old changed refl refl tt (
      readdressed c.args.kept c.args.added c.args.is_listed c.in_ok-moves.moves c.args.self.now.dialler c.change_addresses.new.self
          so.moves so.phase so.order so.each so.first so.backoff,
      refl,
    ))
    c.step_client.ensures.comes)

pub returns-in_err-moves-clause-broke : goal.returns-in_err-moves-clause-broke
returns-in_err-moves-clause-broke g c =
    let old = c.args.self.now in
    let view = view_of old.asker.follower.client in
    err_always c.from_residual.result (beside old.timeout_ms view view refl)

pub returns-in_err-push-clause-broke : goal.returns-in_err-push-clause-broke
returns-in_err-push-clause-broke g c =
    let old = c.args.self.now in
    let view = view_of old.asker.follower.client in
    err_always c.from_residual-in_err-push.result (beside old.timeout_ms view view refl)
