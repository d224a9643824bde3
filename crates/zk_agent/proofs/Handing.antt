-- A call is handed over as one move of the agent, or nothing happens. Where another may be handed over after it, fewer wait for their turn,
-- so handing over ends.
use Rattle.std.proofs.Common.{◌≡◌, ◌≢◌, ◌<◌, ◌+◌, arith, cond, inl, inr, ℕ, Bool, true, false, not, List, [], Option, Some, None, refl, sym}
use Rattle.std.proofs.Common.{ap, subst, ◌∙◌}
use Rattle.std.specs.Prelude.{All}
use Rattle.std.specs.List.{list_any}
use Rattle.zk_session.specs.declared.states.State.{State}
use Rattle.zk_session.specs.declared.states.State.TheVariants.{Connected}
use Rattle.zk_turns.specs.Turns.{Call}
use Rattle.zk_turns.specs.View.{View}
use Rattle.zk_follow.specs.declared.subject.Subject.{Subject}
use Rattle.zk_follow.specs.Following.{AreFollowed}
use Rattle.zk_calls.specs.declared.entry.Entry.{Entry}
use Rattle.zk_calls.specs.Lines.{first_handed, next_call}
use Rattle.zk_agent.specs.declared.replies.Heard.{Heard}
use Rattle.zk_agent.specs.Agents.{Hands, LetsGo, Trail, is_connected, noted, row_after}
use Rattle.zk_agent.specs.inner.Agents.{Acts, HandsOver, Sends}
use Rattle.zk_agent.specs.inner.Calls.{IsAsked, IsDone}
use Rattle.zk_agent.specs.Calls.{IsInTime}
use Rattle.zk_agent.specs.Overlong.{with_too_long}
use Rattle.zk_agent.specs.Replies.{is_back}
use Rattle.zk_agent.specs.Telling.{Told}
use Rattle.zk_agent.specs.Waits.{waited_after}
use Rattle.zk_agent.proofs.Closing.{call_so}
use Rattle.zk_agent.proofs.Lines.{fewer_wait, handed_asked, still_in_time}
use Rattle.zk_agent.proofs.Moves.{nothing, one, taken_by, trail_eq}
use Rattle.zk_agent.proofs.Oversized.{none_back}
use Rattle.zk_agent.proofs.Turning.{steps_away}

-- what counts as handed over waits for its reply
pub hands_asked : {A : Type 0} (now : ℕ) (view : View) (subjects : List (Subject A)) (line : List (Entry A)) (told : List Told)
    (after : View) (new_subjects : List (Subject A))
    (new_line : List (Entry A)) (new_told : List Told) (heard : Option Heard)
    → HandsOver now view subjects line told after new_subjects new_line new_told heard
    → All (IsAsked view) line → All (IsAsked after) new_line
hands_asked now view subjects line told after new_subjects new_line new_told None hands all =
    subst (λ v. All (IsAsked v) new_line) (sym hands.1) (subst (All (IsAsked view)) (sym hands.3) all)
hands_asked now view subjects line told after new_subjects new_line new_told (Some heard) hands all =
    handed_asked now view hands.0 hands.1 subjects after hands.3.given hands.3.stepped line new_line hands.3.steps hands.2 hands.3.line all

-- nothing happens
pub sends_nothing : {A : Type 0} (now : ℕ) (old new : Trail A) → new ≡ old → IsDone new.view new.line → Sends now old new false
sends_nothing {A} now old new same done = record {
  acts = subst (λ (t : Trail A). Acts now [] old t) (sym same) (nothing now old);
  limits = subst (λ (t : Trail A). All (IsInTime now) old.line → All (IsInTime now) t.line) (sym same) (λ all. all);
  ends = λ state final is. sym (ap (λ (t : Trail A). t.view.standing.state) same) ∙ is;
  more = λ e. absurd cc;
  none = λ e. done;
}

pub hands_as : {A : Type 0} (now : ℕ) (old new : Trail A) (heard it : Option Heard) → heard ≡ it
    → HandsOver now old.view old.subjects old.line old.told new.view new.subjects new.line new.told heard
    → HandsOver now old.view old.subjects old.line old.told new.view new.subjects new.line new.told it
hands_as now old new heard it is hands =
    subst (HandsOver now old.view old.subjects old.line old.told new.view new.subjects new.line new.told) is hands

pub followed_as : {A : Type 0} (now : ℕ) (view after : View) (subjects new : List (Subject A))
    → after ≡ view → new ≡ subjects → AreFollowed now view subjects → AreFollowed now after new
followed_as now view after subjects new same are followed =
    subst (λ v. AreFollowed now v new) (sym same) (subst (AreFollowed now view) (sym are) followed)

pub sends_none : {A : Type 0} (now : ℕ) (old new : Trail A)
    → HandsOver now old.view old.subjects old.line old.told new.view new.subjects new.line new.told None → new.dialler ≡ old.dialler
    → new.timeout ≡ old.timeout → new.waits ≡ old.waits
    → Sends now old new false
sends_none {A} now old new hands same same_timeout same_waits =
    sends_nothing now old new (trail_eq old new hands.1 hands.2 hands.3 same same_timeout same_waits hands.4)
    (inl (ap next_call hands.3 ∙ hands.0))

is_not_back : (b : Bool) → not b ≡ true → b ≡ false
is_not_back false e = refl
is_not_back true e = absurd cc

goes_back_is : (b : Bool) → not b ≡ false → b ≡ true
goes_back_is true e = refl
goes_back_is false e = absurd cc

pub sends_one : {A : Type 0} (now : ℕ) (old between new : Trail A) (heard : Heard) → old.view.standing.state ≡ Connected
    → AreFollowed now old.view old.subjects
    → HandsOver now old.view old.subjects old.line old.told between.view between.subjects between.line between.told (Some heard)
    → new.view ≡ between.view → new.subjects ≡ between.subjects → new.line ≡ between.line → new.timeout ≡ old.timeout
    → LetsGo heard.is_over between.view.saved.session.timeout now
    (noted between.view.saved.session.timeout now between.view.standing.state (row_after heard.ends_row old.dialler)) new.dialler
    between.told new.told
    → new.waits ≡ waited_after now heard.sent old.waits
    → Sends now old new (not heard.goes_back)
sends_one {A} now old between new heard connected followed hands same_view same_subjects same_line same_timeout goes waits =
    let takes = hands.3 in
    let input = Call hands.0 hands.1 in
    let says : heard.goes_back ≡ list_any is_back takes.given = ap (λ (h : Heard). h.goes_back) takes.heard in
    let line = same_line ∙ takes.line in
    record {
      acts = one now (Hands now hands.0 hands.1) old new refl refl refl
          (taken_by now input old new between (first_handed old.line) heard
          (connected, hands.2, followed) refl takes same_view same_subjects same_line same_timeout goes waits);
      limits = still_in_time now old.line new.line (with_too_long (first_handed old.line) takes.given) line;
      ends = λ state final is.
          call_so state final now old.view hands.0 hands.1 old.subjects between.view takes.given takes.stepped takes.steps
          (sym (ap (λ (v : View). v.standing.state) same_view) ∙ is);
      more = λ e. fewer_wait (hands.0, hands.1) old.line new.line (with_too_long (first_handed old.line) takes.given) hands.2 line
          (none_back (first_handed old.line) takes.given (sym says ∙ is_not_back heard.goes_back e));
      none = λ e. subst (λ v. IsDone v new.line) (sym same_view)
          (inr (steps_away now old.view hands.0 hands.1 old.subjects between.view takes.given takes.stepped takes.steps
          (sym says ∙ goes_back_is heard.goes_back e)));
    }

pub not_connected : (state : State) → is_connected state ≡ false → state ≢ Connected
not_connected state is there = let e : true ≡ false = sym (ap is_connected there) ∙ is in cc

pub is_there : (state : State) → is_connected state ≡ true → state ≡ Connected
is_there Connected is = refl
is_there _ is = absurd cc

-- what is left of the loop
pub fewer_left : (goes_on more : Bool) (before after : ℕ) → goes_on ≡ true → (more ≡ true → after < before)
    → cond more (after + 1) 0 < cond goes_on (before + 1) 0
fewer_left goes_on more before after on fewer = subst (λ b. cond more (after + 1) 0 < cond b (before + 1) 0) (sym on) (by more refl)
  where
    by : (b : Bool) → more ≡ b → cond b (after + 1) 0 < before + 1
    by true is = let less = fewer is in omega (arith, less)
    by false is = omega arith
