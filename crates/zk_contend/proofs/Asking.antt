-- The contender of which a call is due asks it, and no other does.
use Rattle.std.proofs.Common.{ℕ, ◌≡◌, ◌∙◌, ◌⊎◌, inl, inr, Bool, true, false, List, Option, Some, None, IfSome, is_some, nat_eq}
use Rattle.std.proofs.Common.{refl, sym, ap, subst, true≢false}
use Rattle.std.proofs.lemmas.Bool.Decides.{Decides-eqb}
use Rattle.std.specs.Option.{unwrap_or}
use Rattle.zk_conversation.specs.Calls.{Call}
use Rattle.zk_turns.specs.View.{View}
use Rattle.zk_contend.specs.declared.contender.LockContender.{LockContender}
use Rattle.zk_contend.specs.declared.place.Ask.{Ask}
use Rattle.zk_contend.specs.Collections.{is_in, IsChanged}
use Rattle.zk_contend.specs.Contenders.{IsAsked}
use Rattle.zk_contend.specs.Dues.{IsAsleep, IsAtRest}
use Rattle.zk_contend.specs.Places.{is_ready}
use Rattle.zk_contend.specs.inner.Rolls.{AsksThis}
use Rattle.zk_contend.specs.inner.Stirred.{IsDueAt, Stays}

-- no call may be asked
pub unready : {A : Type 0} (view : View) (now : ℕ) (one : Option (LockContender A)) → is_ready view ≡ false → IfSome one (IsAtRest view now)
unready view now None not = tt
unready view now (Some contender) not = λ nothing pause ready. absurd (true≢false (sym ready ∙ not))

module _ {A : Type 0} (view : View) (now : ℕ) (ask : Ask) where
  pub there : (one : Option (LockContender A)) → IsDueAt view now one ask → is_some one ≡ true
  there None due = absurd due
  there (Some was) due = refl

  asked_by : (call : Call) (old new : Option (LockContender A)) → IsDueAt view now old ask
      → IsChanged true (AsksThis ask (Some call)) old new → IsChanged true (λ was is. IsAsked view now was call is) old new
  asked_by call None new due changed = absurd due
  asked_by call (Some was) new due (is, same, so) = (is, same, (ask, due, ap (λ o. unwrap_or o call) so.0, so.1))

  none_by : (old new : Option (LockContender A)) → IsDueAt view now old ask → IsChanged true (AsksThis ask None) old new → ⊥
  none_by None new due changed = due
  none_by (Some was) new due (is, same, so) = true≢false (sym (ap is_some so.0))

  asleep_by : (call : Option Call) (old new : Option (LockContender A)) → IsChanged true (AsksThis ask call) old new
      → IfSome new (IsAsleep view)
  asleep_by call None new same = subst (λ o. IfSome o (IsAsleep view)) (sym same) tt
  asleep_by call (Some was) new (is, same, so) =
      subst (λ o. IfSome o (IsAsleep view)) (sym same) (inl (ap (λ c. is_some c.asked) so.1))

  module _ (ticket : ℕ) (old new : ℕ → Option (LockContender A)) (due : IsDueAt view now (old ticket) ask) where
    asked_if : (call : Call) (other : ℕ) (is_it : Bool) → nat_eq ticket other ≡ is_it
        → IsChanged is_it (AsksThis ask (Some call)) (old other) (new other)
        → IsChanged is_it (λ was is. IsAsked view now was call is) (old other) (new other)
    asked_if call other false e changed = changed
    asked_if call other true e changed =
        asked_by call (old other) (new other)
        (subst (λ t. IsDueAt view now (old t) ask) ((Decides-eqb ticket other).0 e) due) changed

    -- the contender of the ticket asks the call
    pub asked_at : (call : Call) → ((other : ℕ) → IsChanged (nat_eq ticket other) (AsksThis ask (Some call)) (old other) (new other))
        → (other : ℕ) → IsChanged (nat_eq ticket other) (λ was is. IsAsked view now was call is) (old other) (new other)
    asked_at call changed other = asked_if call other (nat_eq ticket other) refl (changed other)

    -- so there is a call
    pub no_call : ((other : ℕ) → IsChanged (nat_eq ticket other) (AsksThis ask None) (old other) (new other)) → ⊥
    no_call changed =
        none_by (old ticket) (new ticket) due
        (subst (λ b. IsChanged b (AsksThis ask None) (old ticket) (new ticket)) ((Decides-eqb ticket ticket).1 refl) (changed ticket))

  module _ (call : Option Call) (ticket : ℕ) (old new : ℕ → Option (LockContender A)) (awake : List ℕ) where
    awake_if : (other : ℕ) (is_it : Bool) → nat_eq ticket other ≡ is_it
        → Stays view (old other) (Some (ticket, ask)) other awake
        → IsChanged is_it (AsksThis ask call) (old other) (new other)
        → (is_in other awake ≡ true) ⊎ IfSome (new other) (IsAsleep view)
    awake_if other true e stays changed = inr (asleep_by call (old other) (new other) changed)
    awake_if other false e (inl among) changed = inl among
    awake_if other false e (inr (inl sleeps)) changed = inr (subst (λ o. IfSome o (IsAsleep view)) (sym changed) sleeps)
    awake_if other false e (inr (inr it)) changed = absurd (true≢false (sym ((Decides-eqb ticket other).1 (sym it)) ∙ e))

    -- who is looked at no more sleeps
    pub stays_after : (other : ℕ) → Stays view (old other) (Some (ticket, ask)) other awake
        → ((other : ℕ) → IsChanged (nat_eq ticket other) (AsksThis ask call) (old other) (new other))
        → (is_in other awake ≡ true) ⊎ IfSome (new other) (IsAsleep view)
    stays_after other stays changed = awake_if other (nat_eq ticket other) refl stays (changed other)

-- where none is due
pub stays_none : {A : Type 0} (view : View) (one : Option (LockContender A)) (ticket : ℕ) (awake : List ℕ)
    → Stays view one None ticket awake → (is_in ticket awake ≡ true) ⊎ IfSome one (IsAsleep view)
stays_none view one ticket awake (inl among) = inl among
stays_none view one ticket awake (inr (inl sleeps)) = inr sleeps
stays_none view one ticket awake (inr (inr it)) = absurd it
