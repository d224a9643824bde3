-- By the state: from idle, one connection begins; an open one is lost first and then one begins (`open-begins`). `turns-view` and
-- `turns-says`, with `two-says` for the two outcomes in a row.
use Rattle.std.proofs.Common.{[], ◌∷◌, ◌++◌, ap, sym, ◌∙◌}
use Rattle.std.proofs.lemmas.Result.{on_ok_weaker}
use Rattle.zk_frames.specs.Held.{Held}
use Rattle.zk_turns.specs.Past.{Lost, Began}
use Rattle.zk_turns.specs.Taken.{opens}
use Rattle.zk_turns.specs.View.{View}
use Rattle.zk_turns.specs.Rule.{next, says}
use Rattle.zk_client.specs.Views.{said}
use Rattle.zk_client.specs.inner.Seen.{view_with}
use Rattle.zk_client.proofs.Turning.{turns-view, turns-says, one-says, two-says, open-begins, either-open}
use Rattle.zk_client.proofs.turn.opened.Goals as goal

pub returns-in-Idle-clause-next : goal.returns-in-Idle-clause-next
returns-in-Idle-clause-next g c =
    let core = c.args.core.now in
    let view = view_with c.args.reader.now.bytes core in
    on_ok_weaker c.begin.result (λ told. turns-view view _ core.halted (opens core.session.state) (Began ∷ []) c.requires.goes_on
    (ap opens (sym c.state.ensures ∙ c.in-Idle.is))
    (ap (λ (h : Held). view_with h.bytes c.begin.new.self) c.reset.ensures ∙ told c.args.reader.now.bytes)) c.begin.ensures.next

pub returns-in-Idle-clause-says : goal.returns-in-Idle-clause-says
returns-in-Idle-clause-says g c =
    let core = c.args.core.now in
    let view = view_with c.args.reader.now.bytes core in
    on_ok_weaker c.begin.result (λ told. turns-says view (said c.args.outputs.now.items) _ core.halted (opens core.session.state)
    (Began ∷ []) c.requires.goes_on (ap opens (sym c.state.ensures ∙ c.in-Idle.is))
    (one-says view (said c.args.outputs.now.items) _ Began (told c.args.reader.now.bytes))) c.begin.ensures.says

pub returns-in_ok-lose-in-Connecting-clause-next : goal.returns-in_ok-lose-in-Connecting-clause-next
returns-in_ok-lose-in-Connecting-clause-next g c =
    let core = c.args.core.now in
    let view = view_with c.args.reader.now.bytes core in
    let up = either-open core.session.state c.state.result c.in-Connecting.is c.state.ensures in
    on_ok_weaker c.begin-in-Connecting.result (λ told.
    turns-view view _ core.halted (opens core.session.state) (Lost ∷ Began ∷ []) c.requires.goes_on (open-begins core.session.state up)
    (ap (λ (h : Held). view_with h.bytes c.begin-in-Connecting.new.self) c.reset-in-Connecting.ensures ∙ told []
    ∙ ap (λ (v : View). next v Began) (c.in_ok-lose-in-Connecting.ensures.next c.args.reader.now.bytes))) c.begin-in-Connecting.ensures.next

pub returns-in_ok-lose-in-Connecting-clause-says : goal.returns-in_ok-lose-in-Connecting-clause-says
returns-in_ok-lose-in-Connecting-clause-says g c =
    let core = c.args.core.now in
    let view = view_with c.args.reader.now.bytes core in
    let up = either-open core.session.state c.state.result c.in-Connecting.is c.state.ensures in
    on_ok_weaker c.begin-in-Connecting.result (λ told. turns-says view (said c.args.outputs.now.items) _ core.halted
    (opens core.session.state) (Lost ∷ Began ∷ []) c.requires.goes_on (open-begins core.session.state up)
    (two-says view (said c.args.outputs.now.items) (said c.lose.new.outputs.items) _ Lost Began
    (c.in_ok-lose-in-Connecting.ensures.says c.args.reader.now.bytes)
    (told [] ∙ ap (λ (v : View). said c.lose.new.outputs.items ++ says v Began)
    (c.in_ok-lose-in-Connecting.ensures.next c.args.reader.now.bytes)))) c.begin-in-Connecting.ensures.says
