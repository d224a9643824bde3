-- Where a connection is open, its loss is all that happens: `turns-view` and `turns-says`, from what `lose` ensures.
use Rattle.std.proofs.Common.{[], ◌∷◌, ap, sym, ◌∙◌}
use Rattle.zk_session.specs.States.{is_open}
use Rattle.std.proofs.lemmas.Result.{on_ok_weaker}
use Rattle.zk_frames.specs.Held.{Held}
use Rattle.zk_turns.specs.Past.{Lost}
use Rattle.zk_turns.specs.Taken.{if_open}
use Rattle.zk_turns.specs.Rule.{IsOpen}
use Rattle.zk_client.specs.Views.{said}
use Rattle.zk_client.specs.inner.Seen.{view_with}
use Rattle.zk_client.proofs.Turning.{turns-view, turns-says, one-says, open-causes}
use Rattle.zk_client.proofs.turn.cut.Goals as goal

pub returns-clause-next : goal.returns-clause-next
returns-clause-next g c =
    let core = c.args.core.now in
    let view = view_with c.args.reader.now.bytes core in
    let up : IsOpen core.session.state = ap is_open (sym c.state.ensures) ∙ sym c.is_open.ensures ∙ c.if-not-is_open.false in
    on_ok_weaker c.lose.result (λ next. turns-view view _ core.halted (if_open core.session.state (Lost ∷ []))
    (Lost ∷ []) c.requires.goes_on (open-causes core.session.state (Lost ∷ []) up)
    (ap (λ (h : Held). view_with h.bytes c.lose.new.self) c.reset.ensures ∙ next c.args.reader.now.bytes)) c.lose.ensures.next

pub returns-clause-says : goal.returns-clause-says
returns-clause-says g c =
    let core = c.args.core.now in
    let view = view_with c.args.reader.now.bytes core in
    let up : IsOpen core.session.state = ap is_open (sym c.state.ensures) ∙ sym c.is_open.ensures ∙ c.if-not-is_open.false in
    on_ok_weaker c.lose.result (λ says. turns-says view (said c.args.outputs.now.items) _ core.halted
    (if_open core.session.state (Lost ∷ [])) (Lost ∷ []) c.requires.goes_on (open-causes core.session.state (Lost ∷ []) up)
    (one-says view (said c.args.outputs.now.items) _ Lost (says c.args.reader.now.bytes))) c.lose.ensures.says
