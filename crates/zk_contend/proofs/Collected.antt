-- What becomes of the contenders of a session, by what becomes of their parts.
use Rattle.std.proofs.Common.{ℕ, ◌≡◌, ◌+◌, ◌++◌, ◌∷◌, [], Option, Some, None, true, false, nat_eq, sym, subst}
use Rattle.std.proofs.Common.{Result, Ok, Err}
use Rattle.std.specs.Result.{OnOk}
use Rattle.std.specs.Map.{keys_of, update}
use Rattle.zk_conversation.specs.Calls.{Call}
use Rattle.zk_turns.specs.Turns.{Outcome}
use Rattle.zk_turns.specs.View.{View}
use Rattle.zk_contend.specs.declared.collection.Contenders.{Contenders}
use Rattle.zk_contend.specs.declared.place.Ask.{Ask}
use Rattle.zk_contend.specs.Collections.{asker_of, is_awake, one_of, AreAtRest, AreSame, Asks, Changes, Hears, HearsBy, IsChanged}
use Rattle.zk_contend.specs.Collections.{is_in, StaysAwake, Stirs, StirsAll}
use Rattle.zk_contend.specs.Contenders.{IsHeard}
use Rattle.zk_contend.specs.Places.{is_ready}
use Rattle.zk_contend.specs.inner.Rolls.{AsksThis}
use Rattle.zk_contend.specs.inner.Stirred.{IsDueAt, Stays}
use Rattle.zk_contend.proofs.Asking.{asked_at, stays_after, stays_none, there, unready}
use Rattle.zk_contend.proofs.Stirring.{in_more, keys_in}

module _ {A : Type 0} (old new : Contenders A) where
  -- one more is looked at
  pub stirs_one : (ticket : ℕ) → new.stirred.awake.items ≡ old.stirred.awake.items ++ ticket ∷ []
      → new.stirred.untold.items ≡ old.stirred.untold.items ++ ticket ∷ [] → Stirs ticket old new
  stirs_one ticket awake untold = record {
    awake = λ other. in_more other ticket old.stirred.awake.items new.stirred.awake.items awake;
    untold = λ other. in_more other ticket old.stirred.untold.items new.stirred.untold.items untold;
  }

  -- the contender that asked a call hears of it
  pub heard_of : (view : View) (now call : ℕ) (outcome : Outcome) (asker : ℕ) → asker_of old call ≡ Some asker
      → Changes asker (IsHeard view now outcome) old new
      → new.stirred.awake.items ≡ old.stirred.awake.items ++ asker ∷ []
      → new.stirred.untold.items ≡ old.stirred.untold.items ++ asker ∷ []
      → ((other : ℕ) → asker_of new other ≡ update nat_eq (asker_of old) call None other) → new.calls.next ≡ old.calls.next
      → Hears view now call outcome old new
  heard_of view now call outcome asker asked changes awake untold calls next = record {
    heard = subst (λ o. HearsBy view now outcome o old new) (sym asked) (changes, stirs_one asker awake untold);
    calls = calls;
    next = next;
  }

  -- the same, if it is looked at in the end
  pub heard_if : {Y E : Type 0} (result : Result Y E) (view : View) (now call : ℕ) (outcome : Outcome) (asker : ℕ)
      → asker_of old call ≡ Some asker → Changes asker (IsHeard view now outcome) old new
      → OnOk result (new.stirred.awake.items ≡ old.stirred.awake.items ++ asker ∷ [])
      → OnOk result (new.stirred.untold.items ≡ old.stirred.untold.items ++ asker ∷ [])
      → ((other : ℕ) → asker_of new other ≡ update nat_eq (asker_of old) call None other) → new.calls.next ≡ old.calls.next
      → OnOk result (Hears view now call outcome old new)
  heard_if (Ok done) view now call outcome asker asked changes awake untold calls next =
      heard_of view now call outcome asker asked changes awake untold calls next
  heard_if (Err fault) view now call outcome asker asked changes awake untold calls next = tt

  -- nobody asked it
  pub unheard : (view : View) (now call : ℕ) (outcome : Outcome) → asker_of old call ≡ None → AreSame old new
      → ((other : ℕ) → asker_of new other ≡ update nat_eq (asker_of old) call None other) → new.calls.next ≡ old.calls.next
      → Hears view now call outcome old new
  unheard view now call outcome asked same calls next = record {
    heard = subst (λ o. HearsBy view now outcome o old new) (sym asked) same;
    calls = calls;
    next = next;
  }

  module _ (view : View) (now ticket : ℕ) (ask : Ask) where
    -- one contender asks its call
    pub asks_one : (number : ℕ) (call : Call) → IsDueAt view now (one_of old ticket) ask
        → ((other : ℕ) → IsChanged (nat_eq ticket other) (AsksThis ask (Some call)) (one_of old other) (one_of new other))
        → ((other : ℕ) → asker_of new other ≡ update nat_eq (asker_of old) number (Some ticket) other)
        → number ≡ old.calls.next → new.calls.next ≡ old.calls.next + 1 → Asks view now number call old new
    asks_one number call due changed calls is next = record {
      ticket = ticket;
      there = there view now ask (one_of old ticket) due;
      asked = asked_at view now ask ticket (one_of old) (one_of new) due call changed;
      calls = calls;
      is_next = is;
      next = next;
    }

    -- who is looked at no more sleeps
    pub awake_but_one : (call : Option Call)
        → ((other : ℕ) → is_awake old other ≡ true → Stays view (one_of old other) (Some (ticket, ask)) other new.stirred.awake.items)
        → ((other : ℕ) → IsChanged (nat_eq ticket other) (AsksThis ask call) (one_of old other) (one_of new other))
        → StaysAwake view old new
    awake_but_one call stays changed = λ other among.
        stays_after view now ask call ticket (one_of old) (one_of new) new.stirred.awake.items other (stays other among) changed

  -- where none is due
  pub awake_still : (view : View)
      → ((other : ℕ) → is_awake old other ≡ true → Stays view (one_of old other) None other new.stirred.awake.items)
      → AreSame old new → StaysAwake view old new
  awake_still view stays same =
      λ other among.
      stays_none view (one_of new other) other new.stirred.awake.items
      (subst (λ o. Stays view o None other new.stirred.awake.items) (sym (same other)) (stays other among))

-- no call may be asked
pub none_ready : {A : Type 0} (view : View) (now : ℕ) (contenders : Contenders A) → is_ready view ≡ false → AreAtRest view now contenders
none_ready view now contenders not = λ ticket among. unready view now (one_of contenders ticket) not

-- all are looked at, if those are that are among the keys
pub stirs_all : {A Y E : Type 0} (new : Contenders A) (result : Result Y E)
    → OnOk result (new.stirred.awake.items ≡ keys_of new.all.entries) → OnOk result (new.stirred.untold.items ≡ keys_of new.all.entries)
    → OnOk result (StirsAll new)
stirs_all new (Ok done) awake untold = record {
  awake = λ ticket there. subst (λ l. is_in ticket l ≡ true) (sym awake) (keys_in ticket new.all.entries there);
  untold = λ ticket there. subst (λ l. is_in ticket l ≡ true) (sym untold) (keys_in ticket new.all.entries there);
}
stirs_all new (Err fault) awake untold = tt
