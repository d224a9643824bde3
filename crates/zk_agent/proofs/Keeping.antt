-- A call that was handed over goes on waiting for its reply, until an answer to it or another state ends its wait: turn by turn of the
-- client, and output by output of what it says.
use Rattle.std.proofs.Common.{◌≡◌, ◌<◌, ◌++◌, ℕ, zero, suc, ℤ, Bool, true, false, cond, ◌&&◌, ◌||◌, not, List, [], ◌∷◌, refl, sym, ap, ◌∙◌}
use Rattle.std.proofs.Common.{eq-eqb, arith}
use Rattle.std.specs.Prelude.{◌==◌, All, bytes_eq, length}
use Rattle.std.specs.List.{list_any, AllByRecursion}
use Rattle.std.proofs.lemmas.Bool.Decides.{Decides-eqb}
use Rattle.std.proofs.lemmas.List.Folds.{list_any-append}
use Rattle.std.proofs.lemmas.Slice.Eq.{bytes_eq-Decides}
use Rattle.zk_conversation.specs.Pending.{Pending, Waiting, Part_waits, Call_waits}
use Rattle.zk_conversation.specs.Questions.{question_of, Question, Exists, GetData, GetChildren, SetData, Create, Delete, Close, Raw}
use Rattle.zk_conversation.specs.Views.{call_view}
use Rattle.zk_turns.specs.Turns.{Outcome, Output, Answer, Enters, Send, Report, Drop, Turn}
use Rattle.zk_turns.specs.View.{View}
use Rattle.zk_turns.specs.Rule.{Rule}
use Rattle.zk_follow.proofs.Waiting.{ends_wait, keeps_turn, Silent, Waits}
use Rattle.zk_calls.specs.declared.entry.Entry.{Entry}
use Rattle.zk_calls.specs.declared.entry.Ending.TheVariants.{Lost, LostOf}
use Rattle.zk_calls.specs.Lines.{after_answer, answered, goes_back, is_ended, left}
use Rattle.zk_agent.specs.Calls.{hears, hears_all, is_call_of, is_question, is_same, IsPending}

-- ---- a call that waits is found, and one that is found waits

same_text : (path : List ℕ) → bytes_eq path path ≡ true
same_text path = (bytes_eq-Decides path path).1 refl

same_watch : (watch : Bool) → is_same watch watch ≡ true
same_watch true = refl
same_watch false = refl

is_watch : (watch other : Bool) → is_same watch other ≡ true → watch ≡ other
is_watch true true e = refl
is_watch false false e = refl
is_watch true false e = absurd cc
is_watch false true e = absurd cc

both : (a b : Bool) → a ≡ true → b ≡ true → (a && b) ≡ true
both true b e f = f
both false b e f = absurd cc

first_of : (a b : Bool) → (a && b) ≡ true → a ≡ true
first_of true b e = refl
first_of false b e = absurd cc

second_of : (a b : Bool) → (a && b) ≡ true → b ≡ true
second_of true b e = e
second_of false b e = absurd cc

pub same_question : (question : Question) → is_question question question ≡ true
same_question (Exists path watch) = both (bytes_eq path path) (is_same watch watch) (same_text path) (same_watch watch)
same_question (GetData path watch) = both (bytes_eq path path) (is_same watch watch) (same_text path) (same_watch watch)
same_question (GetChildren path watch) = both (bytes_eq path path) (is_same watch watch) (same_text path) (same_watch watch)
same_question (SetData path) = same_text path
same_question (Create path) = same_text path
same_question (Delete path) = same_text path
same_question Close = refl
same_question Raw = refl

is_path : (path other : List ℕ) → bytes_eq path other ≡ true → path ≡ other
is_path path other e = (bytes_eq-Decides path other).0 e

is_that : (question other : Question) → is_question question other ≡ true → question ≡ other
is_that (Exists path watch) (Exists other its) e =
    ap (λ p. Exists p watch) (is_path path other (first_of (bytes_eq path other) (is_same watch its) e))
    ∙ ap (Exists other) (is_watch watch its (second_of (bytes_eq path other) (is_same watch its) e))
is_that (GetData path watch) (GetData other its) e =
    ap (λ p. GetData p watch) (is_path path other (first_of (bytes_eq path other) (is_same watch its) e))
    ∙ ap (GetData other) (is_watch watch its (second_of (bytes_eq path other) (is_same watch its) e))
is_that (GetChildren path watch) (GetChildren other its) e =
    ap (λ p. GetChildren p watch) (is_path path other (first_of (bytes_eq path other) (is_same watch its) e))
    ∙ ap (GetChildren other) (is_watch watch its (second_of (bytes_eq path other) (is_same watch its) e))
is_that (SetData path) (SetData other) e = ap SetData (is_path path other e)
is_that (Create path) (Create other) e = ap Create (is_path path other e)
is_that (Delete path) (Delete other) e = ap Delete (is_path path other e)
is_that Close Close e = refl
is_that Raw Raw e = refl
is_that question other e = absurd cc

either : (a b : Bool) → b ≡ true → (a || b) ≡ true
either true b e = refl
either false b e = e

module _ {A : Type 0} (entry : Entry A) where
  abbrev question : Question
  question = question_of (call_view entry.call)

  is_its : (xid : ℤ) → is_call_of entry (record { xid = xid; waiting = Call_waits entry.ticket question }) ≡ true
  is_its xid =
      both (entry.ticket == entry.ticket) (is_question question question) (eq-eqb entry.ticket entry.ticket refl) (same_question question)

  pub is_found : (pending : List Pending) → Waits entry.ticket question pending → list_any (is_call_of entry) pending ≡ true
  is_found pending w =
      let call : Pending = record { xid = w.0; waiting = Call_waits entry.ticket question } in
      ap (list_any (is_call_of entry)) w.3 ∙ list_any-append (is_call_of entry) w.1 (call ∷ w.2)
      ∙ either (list_any (is_call_of entry) w.1) (list_any (is_call_of entry) (call ∷ w.2))
      (ap (λ b. b || list_any (is_call_of entry) w.2) (is_its w.0))

  one_waits : (xid : ℤ) (waiting : Waiting) (after : List Pending) → is_call_of entry (record { xid = xid; waiting = waiting }) ≡ true
      → Waits entry.ticket question (record { xid = xid; waiting = waiting } ∷ after)
  one_waits xid (Part_waits last) after e = absurd cc
  one_waits xid (Call_waits its asked) after e =
      let same : entry.ticket ≡ its = (Decides-eqb entry.ticket its).0 (first_of (entry.ticket == its) (is_question question asked) e) in
      let is : question ≡ asked = is_that question asked (second_of (entry.ticket == its) (is_question question asked) e) in (
        xid,
        [],
        after,
        ap (λ t. record { xid = xid; waiting = Call_waits t asked } ∷ after) (sym same)
            ∙ ap (λ q. record { xid = xid; waiting = Call_waits entry.ticket q } ∷ after) (sym is),
      )

  pub is_there : (pending : List Pending) → list_any (is_call_of entry) pending ≡ true → Waits entry.ticket question pending
  is_there [] e = absurd cc
  is_there (first ∷ after) e = by (is_there after) (is_call_of entry first) refl e
    where
      by : (list_any (is_call_of entry) after ≡ true → Waits entry.ticket question after) → (b : Bool) → is_call_of entry first ≡ b
          → (b || list_any (is_call_of entry) after) ≡ true → Waits entry.ticket question (first ∷ after)
      by further true here all = one_waits first.xid first.waiting after here
      by further false here all =
          let rest = further all in
          (rest.0, first ∷ rest.1, rest.2, ap (λ more. first ∷ more) rest.3)

  -- after a turn, unless that answered it or entered another state
  pub pending_on : (view : View) (turn : Turn) (after : View)
      → Rule view turn after → Silent entry.ticket turn.outputs → IsPending view entry → IsPending after entry
  pending_on view turn after rule silent waits =
      is_found after.pending (keeps_turn entry.ticket question view turn after rule silent (is_there view.pending waits))

-- ---- each of a list, by recursion

module _ {X : Type 0} (P : X → Type 0) where
  pub all_of : (xs : List X) → All P xs → AllByRecursion P xs
  all_of [] all = tt
  all_of (x ∷ xs) all = (
    all 0 x (let l : 0 < length (x ∷ xs) = omega arith in l),
    all_of xs (λ k d below. all (suc k) d (let l : suc k < length (x ∷ xs) = omega (arith, below) in l)),
  )

  pub of_all : (xs : List X) → AllByRecursion P xs → All P xs
  of_all [] each k d below = absurd (omega arith)
  of_all (x ∷ xs) each zero d below = each.0
  of_all (x ∷ xs) each (suc k) d below = of_all xs each.1 k d (omega arith)

-- ---- what an output leaves handed over

-- where a call still counts as handed over, it did before, and the output has not ended its wait
abbrev pub IsLeft : {A : Type 0} → (Entry A → Type 0) → (Entry A → Type 0) → Entry A → Type 0
IsLeft Q R entry = entry.is_sent ≡ true → Q entry × R entry

abbrev pub Held : {A : Type 0} → (Entry A → Type 0) → Entry A → Type 0
Held Q entry = entry.is_sent ≡ true → Q entry

module _ {A : Type 0} (Q : Entry A → Type 0) where
  others : (ticket : ℕ) (entry : Entry A)
      → Held Q entry → not (is_ended (LostOf ticket) entry) ≡ true → IsLeft Q (λ e. (e.ticket == ticket) ≡ false) entry
  others ticket entry q other sent = (q sent, by (entry.ticket == ticket) refl)
    where
      by : (same : Bool) → (entry.ticket == ticket) ≡ same → (entry.ticket == ticket) ≡ false
      by false e = e
      by true e = absurd (let f : not (true && true) ≡ true =
          ap (λ b. not (b && true)) (sym sent) ∙ ap (λ b. not (entry.is_sent && b)) (sym e) ∙ other in cc)

  left_of : (ticket : ℕ) (entries : List (Entry A))
      → AllByRecursion (Held Q) entries → AllByRecursion (IsLeft Q (λ e. (e.ticket == ticket) ≡ false)) (left (LostOf ticket) entries)
  left_of ticket [] all = tt
  left_of ticket (entry ∷ entries) all = by (left_of ticket entries all.1) (not (is_ended (LostOf ticket) entry)) refl
    where
      by : AllByRecursion (IsLeft Q (λ e. (e.ticket == ticket) ≡ false)) (left (LostOf ticket) entries) → (stays : Bool)
          → not (is_ended (LostOf ticket) entry) ≡ stays
          → AllByRecursion (IsLeft Q (λ e. (e.ticket == ticket) ≡ false))
          (cond stays (entry ∷ left (LostOf ticket) entries) (left (LostOf ticket) entries))
      by rest true e = (others ticket entry all.0 e, rest)
      by rest false e = rest

  back_held : (outcome : Outcome) (entry : Entry A) (entries : List (Entry A))
      → AllByRecursion (Held Q) entries → AllByRecursion (Held Q) (after_answer outcome entry ++ entries)
  back_held outcome entry entries all = by (goes_back (call_view entry.call) outcome)
    where
      by : (back : Bool) → AllByRecursion (Held Q) (cond back (record entry { is_sent = false } ∷ []) [] ++ entries)
      by true = ((λ sent. absurd cc), all)
      by false = all

  answered_held : (ticket : ℕ) (outcome : Outcome) (entries : List (Entry A))
      → AllByRecursion (Held Q) entries → AllByRecursion (Held Q) (answered ticket outcome entries)
  answered_held ticket outcome [] all = tt
  answered_held ticket outcome (entry ∷ entries) all = by (answered_held ticket outcome entries all.1) (is_ended (LostOf ticket) entry)
    where
      by : AllByRecursion (Held Q) (answered ticket outcome entries) → (found : Bool)
          → AllByRecursion (Held Q) (cond found (after_answer outcome entry ++ entries) (entry ∷ answered ticket outcome entries))
      by rest true = back_held outcome entry entries all.1
      by rest false = (all.0, rest)

  none_held : (R : Entry A → Type 0) (entries : List (Entry A)) → AllByRecursion (IsLeft Q R) (left Lost entries)
  none_held R [] = tt
  none_held R (entry ∷ entries) = by (none_held R entries) entry.is_sent refl
    where
      by : AllByRecursion (IsLeft Q R) (left Lost entries) → (sent : Bool)
          → entry.is_sent ≡ sent → AllByRecursion (IsLeft Q R) (cond (not sent) (entry ∷ left Lost entries) (left Lost entries))
      by rest true e = rest
      by rest false e = ((λ sent. absurd (let f : false ≡ true = sym e ∙ sent in cc)), rest)

  as_held : (output : Output) (entries : List (Entry A)) → ((entry : Entry A) → ends_wait entry.ticket output ≡ false)
      → AllByRecursion (Held Q) entries
      → AllByRecursion (IsLeft Q (λ e. ends_wait e.ticket output ≡ false)) entries
  as_held output [] quiet all = tt
  as_held output (entry ∷ entries) quiet all = ((λ sent. (all.0 sent, quiet entry)), as_held output entries quiet all.1)

  heard_left : (output : Output) (entries : List (Entry A))
      → AllByRecursion (Held Q) entries → AllByRecursion (IsLeft Q (λ e. ends_wait e.ticket output ≡ false)) (hears entries output)
  heard_left (Answer ticket outcome) entries all =
      left_of ticket (answered ticket outcome entries) (answered_held ticket outcome entries all)
  heard_left (Enters state) entries all = none_held (λ e. ends_wait e.ticket (Enters state) ≡ false) entries
  heard_left (Send bytes) entries all = as_held (Send bytes) entries (λ e. refl) all
  heard_left (Report path side event) entries all = as_held (Report path side event) entries (λ e. refl) all
  heard_left (Drop fault) entries all = as_held (Drop fault) entries (λ e. refl) all

abbrev pub Quiet : {A : Type 0} → (Entry A → Type 0) → List Output → Entry A → Type 0
Quiet Q outputs entry = entry.is_sent ≡ true → Q entry × Silent entry.ticket outputs

module _ {A : Type 0} where
  pub each_held : (P R : Entry A → Type 0) → ((entry : Entry A) → P entry → R entry) → (entries : List (Entry A))
      → AllByRecursion P entries → AllByRecursion R entries
  each_held P R to [] all = tt
  each_held P R to (entry ∷ entries) all = (to entry all.0, each_held P R to entries all.1)

  -- where a call still counts as handed over, it did before, and no output has ended its wait
  pub all_heard_left : (Q : Entry A → Type 0) (outputs : List Output) (entries : List (Entry A))
      → AllByRecursion (Held Q) entries → AllByRecursion (Quiet Q outputs) (hears_all entries outputs)
  all_heard_left Q [] entries all = each_held (Held Q) (Quiet Q []) (λ entry q sent. (q sent, tt)) entries all
  all_heard_left Q (output ∷ outputs) entries all =
      each_held (Quiet (λ e. Q e × (ends_wait e.ticket output ≡ false)) outputs) (Quiet Q (output ∷ outputs))
      (λ entry rest sent. let all = rest sent in (all.0.0, (all.0.1, all.1)))
      (hears_all (hears entries output) outputs)
      (all_heard_left (λ e. Q e × (ends_wait e.ticket output ≡ false)) outputs (hears entries output) (heard_left Q output entries all))
