-- Where no connection is open the bytes change nothing and say nothing (`unheard_view` and `unheard_says`). Else they are held behind the
-- old ones, and taking them as frames is taking them byte by byte: `whole-view` and `whole-says`.
use Rattle.std.proofs.Common.{◌≡◌, ◌<◌, true, false, length, List, [], ◌++◌, ap, sym, ◌∙◌, map, arith}
use Rattle.zk_session.specs.States.{is_open}
use Rattle.std.proofs.lemmas.Result.{on_ok_weaker}
use Rattle.std.proofs.lemmas.List.{append-nil}
use Rattle.std.proofs.lemmas.Bool.Decides.{nat_tests}
use Rattle.zk_frames.specs.Held.{Held}
use Rattle.zk_turns.specs.Turns.{Output, Comes}
use Rattle.zk_turns.specs.Rule.{IsOpen, after_signals, says_signals}
use Rattle.zk_turns.proofs.Pieces.{unheard_view, unheard_says}
use Rattle.zk_client.specs.Views.{said}
use Rattle.zk_client.specs.inner.Seen.{view_with}
use Rattle.zk_client.proofs.Heard.{whole-view, whole-says}
use Rattle.zk_client.proofs.frames.receive_bytes.Goals as goal

-- where no connection is open, and where one is
down : (g : _) (c : goal.After-drop-piece g) → IsOpen c.args.core.now.session.state → ⊥
down g c up = let clash : true ≡ false = sym up ∙ ap is_open (sym c.state.ensures) ∙ sym c.is_open.ensures ∙ c.if-not-is_open.true in cc

up_still : (g : _) (c : goal.After-take_frames g) → IsOpen c.args.core.now.session.state
up_still g c = ap is_open (sym c.state.ensures) ∙ sym c.is_open.ensures ∙ c.if-not-is_open.false

some_came : (g : _) (c : goal.After-take_frames g) → 0 < length c.args.piece.items
some_came g c = grind (arith, nat_tests)

pub returns-then-not-is_open-clause-next : goal.returns-then-not-is_open-clause-next
returns-then-not-is_open-clause-next g c =
    sym (unheard_view c.args.piece.items (view_with c.args.reader.now.bytes c.args.core.now) (down g c))

pub returns-then-not-is_open-clause-says : goal.returns-then-not-is_open-clause-says
returns-then-not-is_open-clause-says g c =
    sym (append-nil (said c.args.outputs.now.items))
    ∙ ap (λ (l : List Output). said c.args.outputs.now.items ++ l)
    (sym (unheard_says c.args.piece.items (view_with c.args.reader.now.bytes c.args.core.now) (down g c)))

pub returns-clause-next : goal.returns-clause-next
returns-clause-next g c =
    let core = c.args.core.now in
    on_ok_weaker c.take_frames.result (λ told. told
    ∙ ap (λ (h : Held). after_signals (view_with [] (record core { session = c.heard.new.self })) (map Comes h.bytes)) c.in-Ok.ensures.ok
    ∙ whole-view core.limits c.args.reader.now.bytes c.args.piece.items core.halted core.session c.heard.new.self core.conversation
    core.registry
    core.cache (up_still g c) c.requires.goes_on c.requires.reading.less (some_came g c) c.heard.ensures) c.take_frames.ensures.next

pub returns-clause-says : goal.returns-clause-says
returns-clause-says g c =
    let core = c.args.core.now in
    on_ok_weaker c.take_frames.result (λ told. told
    ∙ ap (λ (h : Held). said c.args.outputs.now.items
    ++ says_signals (view_with [] (record core { session = c.heard.new.self })) (map Comes h.bytes)) c.in-Ok.ensures.ok
    ∙ ap (λ (l : List Output). said c.args.outputs.now.items ++ l)
    (whole-says core.limits c.args.reader.now.bytes c.args.piece.items core.halted core.session c.heard.new.self core.conversation
    core.registry
    core.cache (up_still g c) c.requires.goes_on c.requires.reading.less (some_came g c) c.heard.ensures)) c.take_frames.ensures.says
