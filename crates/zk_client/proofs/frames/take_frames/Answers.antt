-- By what `next_frame` gives: a whole frame is one arrival more (`frame-view`), a rest stays held
-- (`rest-view`), and a bad length drops the connection (`bad-view`). After the loop no connection is
-- open, so the bytes left go unheard (`unheard_view`). The same for what is said: `frame-says` and so on.
use Rattle.std.proofs.Common.{◌≡◌, ◌≤◌, ℕ, true, false, refl, length, List, [], ◌++◌, ap, sym, subst, ◌∙◌, map, append_assoc}
use Rattle.zk_session.specs.States.{is_open}
use Rattle.std.proofs.lemmas.Result.{on_ok_weaker}
use Rattle.std.proofs.lemmas.List.{append-nil}
use Rattle.zk_frames.specs.Frame.{IsUnfinished}
use Rattle.zk_frames.specs.Held.{Held}
use Rattle.zk_frames.specs.Stream.{StandsNext}
use Rattle.zk_turns.specs.Turns.{Output, Comes}
use Rattle.zk_turns.specs.View.{View}
use Rattle.zk_turns.specs.Rule.{IsOpen, after_signals, says_signals, says, next}
use Rattle.zk_turns.specs.Taken.{longest_of}
use Rattle.zk_turns.proofs.Fed.{arrival}
use Rattle.zk_client.specs.Views.{said}
use Rattle.zk_client.specs.inner.Seen.{view_with}
use Rattle.zk_turns.proofs.Pieces.{unheard_view, unheard_says}
use Rattle.zk_client.proofs.Heard.{stands-there, stays, frame-view, frame-says, bad-view, bad-says, rest-view, rest-says}
use Rattle.zk_client.proofs.frames.take_frames.Goals as goal

pub loop-reader-preserved : goal.loop-reader-preserved
loop-reader-preserved g c =
    let gives = rw (c.in-Ok-Some.is, c.in-Ok-Some.field-0-is) at c.next_frame.follows.holds-at-none in
    let view = view_with [] c.loop-reader.core in
    let payload = c.in-Ok-Some.payload.now in
    let rest = c.next_frame.follows.lender-at-none.bytes in
    let up : IsOpen c.loop-reader.core.session.state = ap is_open (sym c.state.ensures) ∙ sym c.loop-reader-test.ensures in
    let admitted : length payload ≤ longest_of view = subst (λ (m : ℕ). length payload ≤ m) c.longest.ensures gives.admitted in
    let is = c.in_ok-read_payload-in-Ok-Some.ensures.next [] in
    let keeps = stays view payload in
    record {
      sound = c.in_ok-read_payload-in-Ok-Some.ensures.sound;
      clean = gives.reads;
      goes_on = ap (λ (v : View). v.standing.halted) is ∙ keeps.halted ∙ c.loop-reader.invariant.goes_on;
      heard = ap (λ (v : View). v.moments.heard) is ∙ keeps.heard ∙ c.loop-reader.invariant.heard
          ∙ sym (ap (λ (v : View). v.moments.now) is ∙ keeps.now);
      next = ap (λ (v : View). after_signals v (map Comes rest)) is ∙ sym (frame-view view up c.loop-reader.invariant.goes_on
          c.loop-reader.invariant.heard refl c.loop-reader.reader.bytes payload rest admitted gives.was)
          ∙ c.loop-reader.invariant.next;
      says =
          ap (λ (l : List Output). l ++ says_signals (view_with [] c.read_payload.new.self) (map Comes rest))
          (c.in_ok-read_payload-in-Ok-Some.ensures.says [])
          ∙ ap (λ (v : View). (said c.loop-reader.outputs.items ++ says view (arrival view payload)) ++ says_signals v (map Comes rest)) is
          ∙ append_assoc (said c.loop-reader.outputs.items) (says view (arrival view payload))
          (says_signals (next view (arrival view payload)) (map Comes rest))
          ∙ ap (λ (l : List Output). said c.loop-reader.outputs.items ++ l) (sym (frame-says view up c.loop-reader.invariant.goes_on
          c.loop-reader.invariant.heard refl c.loop-reader.reader.bytes payload rest admitted gives.was))
          ∙ c.loop-reader.invariant.says;
      origin = c.read_payload.ensures.origin ∙ c.loop-reader.invariant.origin;
    }

pub returns-in-Ok-None-clause-next : goal.returns-in-Ok-None-clause-next
returns-in-Ok-None-clause-next g c =
    let nothing = rw (c.in-Ok-None.is, c.in-Ok-None.field-0-is) at c.next_frame.follows.holds-at-none in
    let view = view_with [] c.loop-reader.core in
    let up : IsOpen c.loop-reader.core.session.state = ap is_open (sym c.state.ensures) ∙ sym c.loop-reader-test.ensures in
    ap (λ (h : Held). view_with h.bytes c.loop-reader.core) nothing.same
    ∙ sym
    (rest-view view up c.loop-reader.invariant.goes_on c.loop-reader.invariant.heard refl c.loop-reader.reader.bytes
    (subst (λ (m : ℕ). IsUnfinished m c.loop-reader.reader.bytes) c.longest.ensures nothing.unfinished))
    ∙ c.loop-reader.invariant.next

pub returns-in-Ok-None-clause-says : goal.returns-in-Ok-None-clause-says
returns-in-Ok-None-clause-says g c =
    let nothing = rw (c.in-Ok-None.is, c.in-Ok-None.field-0-is) at c.next_frame.follows.holds-at-none in
    let view = view_with [] c.loop-reader.core in
    let up : IsOpen c.loop-reader.core.session.state = ap is_open (sym c.state.ensures) ∙ sym c.loop-reader-test.ensures in
    sym (append-nil (said c.loop-reader.outputs.items))
    ∙ ap (λ (l : List Output). said c.loop-reader.outputs.items ++ l) (sym (rest-says view up c.loop-reader.invariant.goes_on
    c.loop-reader.invariant.heard refl c.loop-reader.reader.bytes
    (subst (λ (m : ℕ). IsUnfinished m c.loop-reader.reader.bytes) c.longest.ensures nothing.unfinished))) ∙ c.loop-reader.invariant.says

-- a length that is not admitted stands there, while the connection is open
bad_there : (g : _) (c : goal.After-give_up g)
    → StandsNext (longest_of (view_with [] c.loop-reader.core)) c.in-Err.fault c.loop-reader.reader.bytes
bad_there g c =
    let fails = rw c.in-Err.is at c.next_frame.follows.holds-at-none in
    subst (λ (m : ℕ). StandsNext m c.in-Err.fault c.loop-reader.reader.bytes) c.longest.ensures (stands-there c.longest.result
    c.loop-reader.reader c.in-Err.fault c.next_frame.follows.lender-at-none c.loop-reader.invariant.clean fails)

up_there : (g : _) (c : goal.After-give_up g) → IsOpen c.loop-reader.core.session.state
up_there g c = ap is_open (sym c.state.ensures) ∙ sym c.loop-reader-test.ensures

pub returns-in-Err-clause-next : goal.returns-in-Err-clause-next
returns-in-Err-clause-next g c =
    on_ok_weaker c.give_up.result (λ told. ap (λ (h : Held). view_with h.bytes c.give_up.new.self) c.reset.ensures ∙ told []
    ∙ sym (bad-view (view_with [] c.loop-reader.core) (up_there g c) c.loop-reader.invariant.goes_on c.loop-reader.invariant.heard refl
    c.loop-reader.reader.bytes c.in-Err.fault (bad_there g c)) ∙ c.loop-reader.invariant.next) c.give_up.ensures.next

pub returns-in-Err-clause-says : goal.returns-in-Err-clause-says
returns-in-Err-clause-says g c =
    on_ok_weaker c.give_up.result (λ told. told []
    ∙ ap (λ (l : List Output). said c.loop-reader.outputs.items ++ l) (sym (bad-says (view_with [] c.loop-reader.core) (up_there g c)
    c.loop-reader.invariant.goes_on c.loop-reader.invariant.heard refl c.loop-reader.reader.bytes c.in-Err.fault (bad_there g c)))
    ∙ c.loop-reader.invariant.says) c.give_up.ensures.says

-- no connection is open any more
down : (g : _) (c : goal.After-reset-2 g) → IsOpen c.loop-reader.core.session.state → ⊥
down g c up = let clash : true ≡ false = sym up ∙ ap is_open (sym c.state.ensures) ∙ sym c.loop-reader-test.ensures in cc

pub returns-clause-next : goal.returns-clause-next
returns-clause-next g c =
    ap (λ (h : Held). view_with h.bytes c.loop-reader.core) c.reset-2.ensures
    ∙ sym (unheard_view c.loop-reader.reader.bytes (view_with [] c.loop-reader.core) (down g c)) ∙ c.loop-reader.invariant.next

pub returns-clause-says : goal.returns-clause-says
returns-clause-says g c =
    sym (append-nil (said c.loop-reader.outputs.items))
    ∙ ap (λ (l : List Output). said c.loop-reader.outputs.items ++ l)
    (sym (unheard_says c.loop-reader.reader.bytes (view_with [] c.loop-reader.core) (down g c))) ∙ c.loop-reader.invariant.says
