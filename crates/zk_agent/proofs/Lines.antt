-- What becomes of a line that hears outputs, and of one whose next call is handed over. The client waits for the reply to each call that
-- counts as handed over; no limit has come that had not; and where a call is handed over and no output sends one back, fewer wait for their
-- turn.
use Rattle.std.proofs.Common.{◌≡◌, ◌≤◌, ◌<◌, ◌+◌, ◌++◌, ◌⊎◌, inl, inr, ℕ, Bool, true, false, cond, not, List, [], ◌∷◌, Option, Some, None}
use Rattle.std.proofs.Common.{refl, sym, ap, subst, ◌∙◌, arith}
use Rattle.std.specs.Prelude.{◌||◌, All, get_or}
use Rattle.std.specs.List.{count_by, list_any, AllByRecursion}
use Rattle.std.specs.Option.{option_map}
use Rattle.std.proofs.lemmas.List.Elements.{filter_passes}
use Rattle.std.proofs.lemmas.List.Filters.{sum_by-filter_both}
use Rattle.std.proofs.lemmas.List.Sums.{sum_by-cons}
use Rattle.zk_conversation.specs.Calls.{Call as Asked_call}
use Rattle.zk_conversation.specs.Questions.{question_of}
use Rattle.zk_conversation.specs.Views.{call_view}
use Rattle.zk_turns.specs.Turns.{Outcome, Output, Answer, Enters, Send, Report, Drop, Input, Call, Replied, ConnectionLoss, SessionExpired}
use Rattle.zk_turns.specs.Turns.{SessionClosed, NotConnected, TooManyWatches, TooLarge, TooManyPending}
use Rattle.zk_turns.specs.View.{View}
use Rattle.zk_follow.specs.declared.subject.Subject.{Subject}
use Rattle.zk_follow.specs.Following.{Steps}
use Rattle.zk_follow.proofs.Waiting.{Silent}
use Rattle.zk_calls.specs.declared.entry.Entry.{Entry}
use Rattle.zk_calls.specs.declared.entry.Ending.{Ending}
use Rattle.zk_calls.specs.declared.entry.Ending.TheVariants.{Expired, Late, Lost, LostOf}
use Rattle.zk_dialler.specs.Dialling.{has_come}
use Rattle.zk_calls.specs.Lines.{has_come as come_of_calls}
use Rattle.zk_calls.specs.Lines.{after_answer, answered, ended, first_handed, first_limit, first_where}
use Rattle.zk_calls.specs.Lines.{goes_back, is_ended, left, next_call, waits_turn}
use Rattle.zk_agent.specs.Calls.{hears, hears_all, IsInTime, IsPending, IsServed}
use Rattle.zk_agent.specs.inner.Calls.{how_many_wait, IsAsked, IsDone}
use Rattle.zk_agent.specs.Overlong.{with_too_long}
use Rattle.zk_agent.specs.Replies.{is_back}
use Rattle.zk_agent.proofs.Keeping.{all_heard_left, all_of, each_held, of_all, Held, Quiet}
use Rattle.zk_agent.proofs.Oversized.{silent_without}
use Rattle.zk_agent.proofs.Turning.{steps_pending, steps_sent}

count_cons : {X : Type 0} (p : X → Bool) (x : X) (xs : List X) → count_by p (x ∷ xs) ≡ cond (p x) 1 0 + count_by p xs
count_cons p x xs = sum_by-cons (λ y. cond (p y) 1 0) x xs

abbrev asked_by : {A : Type 0} → Entry A → ℕ × Asked_call
asked_by entry = (entry.ticket, call_view entry.call)

-- by whether the first waits for its turn
abbrev next_by : {A : Type 0} → Bool → Entry A → List (Entry A) → Option (ℕ × Asked_call)
next_by waits entry entries = option_map asked_by (cond waits (Some entry) (first_where waits_turn entries))

-- ---- the first limit

pub not_come : {A : Type 0} (now : ℕ) (first : Option ℕ) (come : Bool) (entries : List (Entry A))
    → come ≡ has_come now first → not come ≡ true → first ≡ first_limit entries → come_of_calls now (first_limit entries) ≡ false
not_come now first come entries is none at = ap (come_of_calls now) (sym at) ∙ same first ∙ sym is ∙ not_so come none
  where
    not_so : (b : Bool) → not b ≡ true → b ≡ false
    not_so true e = sym e
    not_so false e = refl

    same : (moment : Option ℕ) → come_of_calls now moment ≡ has_come now moment
    same None = refl
    same (Some moment) = refl

-- ---- what counts as handed over

module _ {A : Type 0} (view : View) (ticket : ℕ) (asked : Asked_call) where
  -- it waits for its reply, or it is the one that is handed over now
  abbrev IsOrHands : Entry A → Type 0
  IsOrHands entry = IsPending view entry ⊎ ((entry.ticket ≡ ticket) × (question_of (call_view entry.call) ≡ question_of asked))

  pub handed_held : (entries : List (Entry A)) → next_call entries ≡ Some (ticket, asked)
      → AllByRecursion (IsAsked view) entries → AllByRecursion (Held IsOrHands) (first_handed entries)
  handed_held [] is all = tt
  handed_held (entry ∷ entries) is all = by (λ e. handed_held entries e all.1) (waits_turn entry) refl
    where
      before : (more : List (Entry A)) → AllByRecursion (IsAsked view) more → AllByRecursion (Held IsOrHands) more
      before more asked = each_held (IsAsked view) (Held IsOrHands) (λ e a sent. inl (a sent)) more asked

      the_one : (pair : ℕ × Asked_call) → Some pair ≡ Some (ticket, asked) → pair ≡ (ticket, asked)
      the_one pair e = ap (λ (o : Option (ℕ × Asked_call)). elim o [ None ↦ pair | Some it ↦ it ]) e

      by : (next_call entries ≡ Some (ticket, asked) → AllByRecursion (Held IsOrHands) (first_handed entries)) → (waits : Bool)
          → waits_turn entry ≡ waits
          → AllByRecursion (Held IsOrHands) (cond waits (record entry { is_sent = true } ∷ entries) (entry ∷ first_handed entries))
      by rest true w =
          let one : asked_by entry ≡ (ticket, asked) = the_one (asked_by entry) (sym (ap (λ b. next_by b entry entries) w) ∙ is) in
          ((λ sent. inr (ap (λ (p : ℕ × Asked_call). p.0) one, ap (λ (p : ℕ × Asked_call). question_of p.1) one)), before entries all.1)
      by rest false w = ((λ sent. inl (all.0 sent)), rest (sym (ap (λ b. next_by b entry entries) w) ∙ is))

-- where a call counts as handed over the client waits for its reply: after an input, and after a call was handed over
pub still_asked : {A : Type 0} (now : ℕ) (view : View) (input : Input) (old : List (Subject A)) (after : View) (given : List Output)
    (new : List (Subject A)) (line new_line : List (Entry A))
    → Steps now view input old after given new → new_line ≡ hears_all line (with_too_long line given)
    → All (IsAsked view) line → All (IsAsked after) new_line
still_asked now view input old after given new line new_line steps is all =
    subst (All (IsAsked after)) (sym is)
    (of_all (IsAsked after) (hears_all line (with_too_long line given))
    (each_held (Quiet (IsPending view) (with_too_long line given)) (IsAsked after)
    (λ entry quiet sent. let was = quiet sent in
    steps_pending entry now view input old after given new steps (silent_without entry.ticket line given was.1) was.0)
    (hears_all line (with_too_long line given))
    (all_heard_left (IsPending view) (with_too_long line given) line (all_of (IsAsked view) line all))))

pub handed_asked : {A : Type 0} (now : ℕ) (view : View) (ticket : ℕ) (asked : Asked_call) (old : List (Subject A)) (after : View)
    (given : List Output) (new : List (Subject A))
    (line new_line : List (Entry A)) → Steps now view (Call ticket asked) old after given new → next_call line ≡ Some (ticket, asked)
    → new_line ≡ hears_all (first_handed line) (with_too_long (first_handed line) given)
    → All (IsAsked view) line → All (IsAsked after) new_line
handed_asked {A} now view ticket asked old after given new line new_line steps next is all =
    subst (All (IsAsked after)) (sym is)
    (of_all (IsAsked after) (hears_all (first_handed line) (with_too_long (first_handed line) given))
    (each_held (Quiet (IsOrHands view ticket asked) (with_too_long (first_handed line) given)) (IsAsked after)
    (λ entry quiet sent. let was = quiet sent in by entry (silent_without entry.ticket (first_handed line) given was.1) was.0)
    (hears_all (first_handed line) (with_too_long (first_handed line) given))
    (all_heard_left (IsOrHands view ticket asked) (with_too_long (first_handed line) given) (first_handed line)
    (handed_held view ticket asked line next (all_of (IsAsked view) line all)))))
  where
    by : (entry : Entry A) → Silent entry.ticket given → IsOrHands view ticket asked entry → IsPending after entry
    by entry silent (inl waits) = steps_pending entry now view (Call ticket asked) old after given new steps silent waits
    by entry silent (inr hands) = steps_sent entry now view ticket asked old after given new steps hands.0 hands.1 silent

-- ---- how many wait for their turn

no_back : (ticket : ℕ) (outcome : Outcome) → is_back (Answer ticket outcome) ≡ false → (call : Asked_call) → goes_back call outcome ≡ false
no_back ticket ConnectionLoss is call = absurd cc
no_back ticket NotConnected is call = absurd cc
no_back ticket TooManyPending is call = absurd cc
no_back ticket (Replied zxid result) is call = refl
no_back ticket SessionExpired is call = refl
no_back ticket SessionClosed is call = refl
no_back ticket TooManyWatches is call = refl
no_back ticket TooLarge is call = refl

neither : (a b : Bool) → (a || b) ≡ false → (a ≡ false) × (b ≡ false)
neither true b e = absurd cc
neither false b e = (refl, e)

is_not : (b : Bool) → not b ≡ true → b ≡ false
is_not false e = refl
is_not true e = absurd cc

module _ {A : Type 0} where
  left_no_more : (ending : Ending) (entries : List (Entry A)) → how_many_wait (left ending entries) ≤ how_many_wait entries
  left_no_more ending entries =
      let both = sum_by-filter_both (is_ended ending) (λ entry. not (is_ended ending entry)) (λ entry. refl)
      (λ entry. cond (waits_turn entry) 1 0) entries in omega (arith, both)

  answered_no_more : (ticket : ℕ) (outcome : Outcome) → is_back (Answer ticket outcome) ≡ false → (entries : List (Entry A))
      → how_many_wait (answered ticket outcome entries) ≤ how_many_wait entries
  answered_no_more ticket outcome is [] = omega arith
  answered_no_more ticket outcome is (entry ∷ entries) = by (answered_no_more ticket outcome is entries) (is_ended (LostOf ticket) entry)
    where
      gone : (back : Bool) → back ≡ false
          → how_many_wait (cond back (record entry { is_sent = false } ∷ []) [] ++ entries) ≤ how_many_wait (entry ∷ entries)
      gone true e = absurd cc
      gone false e = let there = count_cons waits_turn entry entries in omega (arith, there)

      by : how_many_wait (answered ticket outcome entries) ≤ how_many_wait entries → (found : Bool)
          → how_many_wait (cond found (after_answer outcome entry ++ entries) (entry ∷ answered ticket outcome entries))
          ≤ how_many_wait (entry ∷ entries)
      by rest true = gone (goes_back (call_view entry.call) outcome) (no_back ticket outcome is (call_view entry.call))
      by rest false =
          let here = count_cons waits_turn entry (answered ticket outcome entries) in
          let there = count_cons waits_turn entry entries in omega (arith, rest, here, there)

  heard_no_more : (output : Output) → is_back output ≡ false → (entries : List (Entry A))
      → how_many_wait (hears entries output) ≤ how_many_wait entries
  heard_no_more (Answer ticket outcome) is entries =
      let first = answered_no_more ticket outcome is entries in
      let rest = left_no_more (LostOf ticket) (answered ticket outcome entries) in omega (arith, first, rest)
  heard_no_more (Enters state) is entries = left_no_more Lost entries
  heard_no_more (Send bytes) is entries = omega arith
  heard_no_more (Report path side event) is entries = omega arith
  heard_no_more (Drop fault) is entries = omega arith

  all_heard_no_more : (outputs : List Output) → list_any is_back outputs ≡ false → (entries : List (Entry A))
      → how_many_wait (hears_all entries outputs) ≤ how_many_wait entries
  all_heard_no_more [] is entries = omega arith
  all_heard_no_more (output ∷ outputs) is entries =
      let none = neither (is_back output) (list_any is_back outputs) is in
      let first = heard_no_more output none.0 entries in
      let rest = all_heard_no_more outputs none.1 (hears entries output) in omega (arith, first, rest)

  one_less : (pair : ℕ × Asked_call) (entries : List (Entry A))
      → next_call entries ≡ Some pair → how_many_wait (first_handed entries) + 1 ≡ how_many_wait entries
  one_less pair [] is = absurd cc
  one_less pair (entry ∷ entries) is = by (one_less pair entries) (waits_turn entry) refl
    where
      by : (next_call entries ≡ Some pair → how_many_wait (first_handed entries) + 1 ≡ how_many_wait entries) → (waits : Bool)
          → waits_turn entry ≡ waits → how_many_wait (cond waits (record entry { is_sent = true } ∷ entries) (entry ∷ first_handed entries))
          + 1 ≡ how_many_wait (entry ∷ entries)
      by less true w =
          let here = count_cons waits_turn (record entry { is_sent = true }) entries in
          let there : how_many_wait (entry ∷ entries) ≡ 1 + how_many_wait entries =
          count_cons waits_turn entry entries ∙ ap (λ b. cond b 1 0 + how_many_wait entries) w in omega (arith, here, there)
      by less false w =
          let rest = less (sym (ap (λ b. next_by b entry entries) w) ∙ is) in
          let here = count_cons waits_turn entry (first_handed entries) in
          let there = count_cons waits_turn entry entries in omega (arith, rest, here, there)

  pub fewer_wait : (pair : ℕ × Asked_call) (entries new : List (Entry A)) (given : List Output)
      → next_call entries ≡ Some pair → new ≡ hears_all (first_handed entries) given
      → list_any is_back given ≡ false → how_many_wait new < how_many_wait entries
  fewer_wait pair entries new given next is none =
      let as_many : how_many_wait new ≡ how_many_wait (hears_all (first_handed entries) given) = ap how_many_wait is in
      let no_more = all_heard_no_more given none (first_handed entries) in
      let less = one_less pair entries next in omega (arith, as_many, no_more, less)

  -- ---- none waits for its turn

  pub none_handed : (entries : List (Entry A)) → next_call entries ≡ None → first_handed entries ≡ entries
  none_handed [] is = refl
  none_handed (entry ∷ entries) is = by (none_handed entries) (waits_turn entry) refl
    where
      by : (next_call entries ≡ None → first_handed entries ≡ entries) → (waits : Bool) → waits_turn entry ≡ waits
          → cond waits (record entry { is_sent = true } ∷ entries) (entry ∷ first_handed entries) ≡ entry ∷ entries
      by rest true w = absurd (let f : Some (asked_by entry) ≡ None = sym (ap (λ b. next_by b entry entries) w) ∙ is in cc)
      by rest false w = ap (λ es. entry ∷ es) (rest (sym (ap (λ b. next_by b entry entries) w) ∙ is))

  all_sent : (entries : List (Entry A)) → next_call entries ≡ None → AllByRecursion (λ (entry : Entry A). entry.is_sent ≡ true) entries
  all_sent [] is = tt
  all_sent (entry ∷ entries) is = by (all_sent entries) entry.is_sent refl
    where
      by : (next_call entries ≡ None → AllByRecursion (λ (e : Entry A). e.is_sent ≡ true) entries) → (sent : Bool)
          → entry.is_sent ≡ sent → (entry.is_sent ≡ true) × AllByRecursion (λ (e : Entry A). e.is_sent ≡ true) entries
      by rest true w = (w, rest (sym (ap (λ b. next_by (not b) entry entries) w) ∙ is))
      by rest false w = absurd (let f : Some (asked_by entry) ≡ None = sym (ap (λ b. next_by (not b) entry entries) w) ∙ is in cc)

  -- so each call is served
  pub all_served : (view : View) (entries : List (Entry A)) → All (IsAsked view) entries → IsDone view entries → All (IsServed view) entries
  all_served view entries asked (inl none) =
      let sent = of_all (λ (entry : Entry A). entry.is_sent ≡ true) entries (all_sent entries none) in
      λ k d below. inl (asked k d below (sent k d below))
  all_served view entries asked (inr away) = λ k d below. inr away

  -- at an expiry none is left
  pub none_at_expiry : (entries : List (Entry A)) → left Expired entries ≡ []
  none_at_expiry [] = refl
  none_at_expiry (entry ∷ entries) = none_at_expiry entries

  pub all_at_expiry : (entries : List (Entry A)) → ended Expired entries ≡ entries
  all_at_expiry [] = refl
  all_at_expiry (entry ∷ entries) = ap (λ es. entry ∷ es) (all_at_expiry entries)

  -- ---- limits

  module _ (now : ℕ) where
    answered_in_time : (ticket : ℕ) (outcome : Outcome) (entries : List (Entry A))
        → AllByRecursion (IsInTime now) entries → AllByRecursion (IsInTime now) (answered ticket outcome entries)
    answered_in_time ticket outcome [] all = tt
    answered_in_time ticket outcome (entry ∷ entries) all =
        by (answered_in_time ticket outcome entries all.1) (is_ended (LostOf ticket) entry)
      where
        back : (b : Bool) → AllByRecursion (IsInTime now) (cond b (record entry { is_sent = false } ∷ []) [] ++ entries)
        back true = (all.0, all.1)
        back false = all.1

        by : AllByRecursion (IsInTime now) (answered ticket outcome entries) → (found : Bool)
            → AllByRecursion (IsInTime now) (cond found (after_answer outcome entry ++ entries) (entry ∷ answered ticket outcome entries))
        by rest true = back (goes_back (call_view entry.call) outcome)
        by rest false = (all.0, rest)

    left_in_time : (ending : Ending) (entries : List (Entry A))
        → AllByRecursion (IsInTime now) entries → AllByRecursion (IsInTime now) (left ending entries)
    left_in_time ending [] all = tt
    left_in_time ending (entry ∷ entries) all = by (left_in_time ending entries all.1) (not (is_ended ending entry))
      where
        by : AllByRecursion (IsInTime now) (left ending entries) → (stays : Bool)
            → AllByRecursion (IsInTime now) (cond stays (entry ∷ left ending entries) (left ending entries))
        by rest true = (all.0, rest)
        by rest false = rest

    heard_in_time : (output : Output) (entries : List (Entry A))
        → AllByRecursion (IsInTime now) entries → AllByRecursion (IsInTime now) (hears entries output)
    heard_in_time (Answer ticket outcome) entries all =
        left_in_time (LostOf ticket) (answered ticket outcome entries) (answered_in_time ticket outcome entries all)
    heard_in_time (Enters state) entries all = left_in_time Lost entries all
    heard_in_time (Send bytes) entries all = all
    heard_in_time (Report path side event) entries all = all
    heard_in_time (Drop fault) entries all = all

    all_heard_in_time : (outputs : List Output) (entries : List (Entry A))
        → AllByRecursion (IsInTime now) entries → AllByRecursion (IsInTime now) (hears_all entries outputs)
    all_heard_in_time [] entries all = all
    all_heard_in_time (output ∷ outputs) entries all = all_heard_in_time outputs (hears entries output) (heard_in_time output entries all)

    handed_in_time : (entries : List (Entry A))
        → AllByRecursion (IsInTime now) entries → AllByRecursion (IsInTime now) (first_handed entries)
    handed_in_time [] all = tt
    handed_in_time (entry ∷ entries) all = by (handed_in_time entries all.1) (waits_turn entry)
      where
        by : AllByRecursion (IsInTime now) (first_handed entries) → (waits : Bool)
            → AllByRecursion (IsInTime now) (cond waits (record entry { is_sent = true } ∷ entries) (entry ∷ first_handed entries))
        by rest true = (all.0, all.1)
        by rest false = (all.0, rest)

    pub still_in_time : (entries new : List (Entry A)) (given : List Output)
        → new ≡ hears_all (first_handed entries) given → All (IsInTime now) entries → All (IsInTime now) new
    still_in_time entries new given is all =
        subst (All (IsInTime now)) (sym is)
        (of_all (IsInTime now) (hears_all (first_handed entries) given)
        (all_heard_in_time given (first_handed entries) (handed_in_time entries (all_of (IsInTime now) entries all))))

    -- the same without a call that is handed over
    pub heard_still : (entries new : List (Entry A)) (given : List Output)
        → new ≡ hears_all entries given → All (IsInTime now) entries → All (IsInTime now) new
    heard_still entries new given is all =
        subst (All (IsInTime now)) (sym is)
        (of_all (IsInTime now) (hears_all entries given) (all_heard_in_time given entries (all_of (IsInTime now) entries all)))

    -- those are left whose limit has not come
    pub late_left : (entries : List (Entry A)) → All (IsInTime now) (left (Late now) entries)
    late_left entries k d below =
        is_not (is_ended (Late now) (get_or (left (Late now) entries) k d))
        (filter_passes (λ (entry : Entry A). not (is_ended (Late now) entry)) entries k d below)

-- of no calls none is left
pub none_heard : {A : Type 0} (entries : List (Entry A)) (given : List Output) → entries ≡ [] → hears_all entries given ≡ []
none_heard {A} entries given none = ap (λ es. hears_all es given) none ∙ by given
  where
    one : (output : Output) → hears {A = A} [] output ≡ []
    one (Answer ticket outcome) = refl
    one (Enters state) = refl
    one (Send bytes) = refl
    one (Report path side event) = refl
    one (Drop fault) = refl

    by : (outputs : List Output) → hears_all {A = A} [] outputs ≡ []
    by [] = refl
    by (output ∷ outputs) = ap (λ es. hears_all es outputs) (one output) ∙ by outputs
