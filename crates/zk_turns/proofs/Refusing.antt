-- A call is refused by the first condition that applies: in each state the tests of a refusal are the conditions in their order, one after
-- the other.
use Rattle.std.proofs.Common.{◌≡◌, ◌≤◌, ◌<◌, ◌+◌, ℕ, pos, length, Bool, true, false, cond, ◌||◌, List, [], ◌∷◌, Option, Some, None, refl}
use Rattle.std.proofs.Common.{sym, ap, subst, ◌∙◌, inl, inr, ◌⊎◌, arith}
use Rattle.std.specs.Prelude.{nat_le, nat_lt}
use Rattle.std.specs.List.{list_any}
use Rattle.std.proofs.lemmas.Bool.Decides.{nat_tests}
use Rattle.zk_nodes.specs.declared.side.Side.{Side}
use Rattle.zk_session.specs.declared.states.State.{State}
use Rattle.zk_session.specs.declared.states.State.TheVariants.{Idle, Connecting, Connected, Expired, Closed}
use Rattle.zk_watches.specs.Lists.{count_of}
use Rattle.zk_conversation.specs.Calls.{Call, call_payload}
use Rattle.zk_conversation.specs.Questions.{question_of, watched_side}
use Rattle.zk_conversation.specs.Pending.{Pending, is_close, calls_pending, watches_pending}
use Rattle.zk_turns.specs.Turns.{Outcome, SessionClosed, NotConnected, TooManyPending, TooManyWatches, TooLarge}
use Rattle.zk_turns.specs.View.{View}
use Rattle.zk_turns.specs.Taken.{is_full_on, refusal}
use Rattle.zk_turns.specs.Meaning.{Among}
use Rattle.zk_turns.specs.Causes.{IsFirstOf, in_turn}
use Rattle.zk_turns.proofs.Words.{refusal_in}
use Rattle.zk_limits.specs.declared.limits.TheConstants.{MOST_PATHS, MOST_PENDING}

any_close : (ps : List Pending) → list_any is_close ps ≡ true → (close : Pending) × Among close ps × (is_close close ≡ true)
any_close [] e = absurd cc
any_close (p ∷ ps) e = by (is_close p) refl e (any_close ps)
  where
    by : (b : Bool) → is_close p ≡ b → (b || list_any is_close ps) ≡ true
        → (list_any is_close ps ≡ true → (close : Pending) × Among close ps × (is_close close ≡ true))
        → (close : Pending) × Among close (p ∷ ps) × (is_close close ≡ true)
    by true i e ih = (p, inl refl, i)
    by false i e ih = let r = ih e in (r.0, inr r.1, r.2)

or_right : (a b : Bool) → b ≡ true → (a || b) ≡ true
or_right true b e = refl
or_right false b e = e

close_any : (ps : List Pending) (close : Pending) → Among close ps → is_close close ≡ true → list_any is_close ps ≡ true
close_any [] close a e = absurd a
close_any (p ∷ ps) close (inl i) e = ap (λ b. b || list_any is_close ps) (ap is_close (sym i) ∙ e)
close_any (p ∷ ps) close (inr a) e = or_right (is_close p) (list_any is_close ps) (close_any ps close a e)

-- a test and what it says
le_or : (a b : ℕ) → ((a ≤ b) × (nat_le a b ≡ true)) ⊎ ((a ≤ b → ⊥) × (nat_le a b ≡ false))
le_or a b = by (nat_le a b) refl
  where
    by : (t : Bool) → nat_le a b ≡ t → ((a ≤ b) × (nat_le a b ≡ true)) ⊎ ((a ≤ b → ⊥) × (nat_le a b ≡ false))
    by true e = inl (grind (arith, nat_tests), e)
    by false e = inr (λ le. let f : b < a = grind (arith, nat_tests) in omega arith, e)

lt_or : (a b : ℕ) → ((a < b) × (nat_lt a b ≡ true)) ⊎ ((a < b → ⊥) × (nat_lt a b ≡ false))
lt_or a b = by (nat_lt a b) refl
  where
    by : (t : Bool) → nat_lt a b ≡ t → ((a < b) × (nat_lt a b ≡ true)) ⊎ ((a < b → ⊥) × (nat_lt a b ≡ false))
    by true e = inl (grind (arith, nat_tests), e)
    by false e = inr (λ le. let f : b ≤ a = grind (arith, nat_tests) in omega arith, e)

module _ (view : View) (call : Call) where
  abbrev Full : Option Side → Type 0
  Full watched = (side : Side) × (watched ≡ Some side) × (MOST_PATHS ≤ count_of view.lists side + watches_pending side view.pending)

  full_or : (watched : Option Side)
      → (Full watched × (is_full_on view watched ≡ true)) ⊎ ((Full watched → ⊥) × (is_full_on view watched ≡ false))
  full_or None = inr (λ f. let e = f.1 in cc, refl)
  full_or (Some side) = elim (le_or MOST_PATHS (count_of view.lists side + watches_pending side view.pending)) [
    | inl t ↦ inl ((side, refl, t.0), t.1)
    | inr t ↦ inr (
      λ f. t.0 (let s : side ≡ f.0 = let e = f.1 in cc in
          subst (λ x. MOST_PATHS ≤ count_of view.lists x + watches_pending x view.pending) (sym s) f.2),
      t.1,
    )
  ]

  -- the tests of a connected client, one after the other
  large : (why : Option Outcome) → why ≡ cond (nat_lt view.limits.outgoing (length (call_payload (pos view.xid) call))) (Some TooLarge) None
      → IsFirstOf (TooLarge ∷ []) view call why
  large why e = elim (lt_or view.limits.outgoing (length (call_payload (pos view.xid) call))) [
    | inl t ↦ inl (t.0, e ∙ ap (λ b. cond b (Some TooLarge) None) t.1)
    | inr t ↦ inr (t.0, e ∙ ap (λ b. cond b (Some TooLarge) None) t.1)
  ]

  watches : (why rest : Option Outcome) → why ≡ cond (is_full_on view (watched_side (question_of call))) (Some TooManyWatches) rest
      → (why ≡ rest → IsFirstOf (TooLarge ∷ []) view call why) → IsFirstOf (TooManyWatches ∷ TooLarge ∷ []) view call why
  watches why rest e more = elim (full_or (watched_side (question_of call))) [
    | inl t ↦ inl (t.0, e ∙ ap (λ b. cond b (Some TooManyWatches) rest) t.1)
    | inr t ↦ inr (t.0, more (e ∙ ap (λ b. cond b (Some TooManyWatches) rest) t.1))
  ]

  many : (why rest : Option Outcome) → why ≡ cond (nat_le MOST_PENDING (calls_pending view.pending)) (Some TooManyPending) rest
      → (why ≡ rest → IsFirstOf (TooManyWatches ∷ TooLarge ∷ []) view call why)
      → IsFirstOf (TooManyPending ∷ TooManyWatches ∷ TooLarge ∷ []) view call why
  many why rest e more = elim (le_or MOST_PENDING (calls_pending view.pending)) [
    | inl t ↦ inl (t.0, e ∙ ap (λ b. cond b (Some TooManyPending) rest) t.1)
    | inr t ↦ inr (t.0, more (e ∙ ap (λ b. cond b (Some TooManyPending) rest) t.1))
  ]

  not_expired : (s : State) → s ≡ Connected → s ≡ Expired → ⊥
  not_expired s e f = let g : Connected ≡ Expired = sym e ∙ f in cc

  not_closed : (s : State) → s ≡ Connected → s ≡ Closed → ⊥
  not_closed s e f = let g : Connected ≡ Closed = sym e ∙ f in cc

  connected : (b : Bool) → list_any is_close view.pending ≡ b → (s : view.standing.state ≡ Connected) (why rest : Option Outcome)
      → why ≡ cond b (Some SessionClosed) rest
      → (why ≡ rest → IsFirstOf (TooManyPending ∷ TooManyWatches ∷ TooLarge ∷ []) view call why) → IsFirstOf in_turn view call why
  connected true c s why rest e more = inr (not_expired view.standing.state s, inl (inr (s, any_close view.pending c), e))
  connected false c s why rest e more =
      inr (
        not_expired view.standing.state s,
        inr (
          λ a. elim a [ inl x ↦ not_closed view.standing.state s x | inr x ↦ (let y = close_any view.pending x.1.0 x.1.1 x.1.2 in cc) ],
          inr (λ n. n s, more e),
        ),
      )

  elsewhere : (s : State) → view.standing.state ≡ s → (s ≡ Connected → ⊥) → (s ≡ Expired → ⊥) → (s ≡ Closed → ⊥) → (why : Option Outcome)
      → why ≡ Some NotConnected → IsFirstOf in_turn view call why
  elsewhere s e c x z why w =
      inr (λ f. x (sym e ∙ f), inr (λ a. elim a [ inl f ↦ z (sym e ∙ f) | inr f ↦ c (sym e ∙ f.0) ], inl (λ f. c (sym e ∙ f), w)))

  by_state : (s : State) → view.standing.state ≡ s → (why : Option Outcome) → why ≡ refusal_in s view call → IsFirstOf in_turn view call why
  by_state Expired e why w = inl (e, w)
  by_state Closed e why w = inr (λ f. let g : Closed ≡ Expired = sym e ∙ f in cc, inl (inl e, w))
  by_state Connected e why w =
      connected (list_any is_close view.pending) refl e why _ w (λ w. many why _ w (λ w. watches why _ w (λ w. large why w)))
  by_state Idle e why w = elsewhere Idle e (λ f. cc) (λ f. cc) (λ f. cc) why w
  by_state Connecting e why w = elsewhere Connecting e (λ f. cc) (λ f. cc) (λ f. cc) why w

  pub first_of : IsFirstOf in_turn view call (refusal view call)
  first_of = by_state view.standing.state refl (refusal view call) refl
