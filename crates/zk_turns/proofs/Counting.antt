-- Counts by a ticket as sums, and that they are what is counted: by induction on the outputs, the items and what is pending.
use Rattle.std.proofs.Common.{◌≡◌, ℕ, ◌+◌, Bool, true, false, cond, List, [], ◌∷◌, length, refl, ap, ◌∙◌, arith}
use Rattle.std.specs.Prelude.{◌==◌, filter, if◌then◌else◌}
use Rattle.zk_turns.specs.Turns.{Input, Call, Output, Answer, Item, Turned, Forgets, Halts}
use Rattle.zk_turns.specs.Sent.{outputs_of}
use Rattle.zk_turns.specs.Tickets.{answers_to, answers_in, asks_by, calls_in, waits_by, waiting_with}
use Rattle.zk_turns.proofs.Sending.{onto, outputs_onto}
use Rattle.zk_conversation.specs.Pending.{Pending, Waiting, Part_waits, Call_waits}

abbrev pub one_if : ℕ → ℕ → ℕ
one_if ticket other = if ticket == other then 1 else 0

abbrev pub is_answer : ℕ → Output → ℕ
is_answer ticket (Answer other outcome) = one_if ticket other
is_answer ticket _ = 0

-- the answers with the ticket
abbrev pub answers_with : ℕ → List Output → ℕ
answers_with ticket [] = 0
answers_with ticket (output ∷ outputs) = is_answer ticket output + answers_with ticket outputs

abbrev pub answers_over : ℕ → List Item → ℕ
answers_over ticket [] = 0
answers_over ticket (Turned turn ∷ items) = answers_with ticket turn.outputs + answers_over ticket items
answers_over ticket (_ ∷ items) = answers_over ticket items

abbrev pub is_call_with : ℕ → Input → ℕ
is_call_with ticket (Call other question) = one_if ticket other
is_call_with ticket _ = 0

-- the calls with the ticket
abbrev pub calls_over : ℕ → List Item → ℕ
calls_over ticket [] = 0
calls_over ticket (Turned turn ∷ items) = is_call_with ticket turn.input + calls_over ticket items
calls_over ticket (_ ∷ items) = calls_over ticket items

abbrev pub waits_with : ℕ → Waiting → ℕ
waits_with ticket (Part_waits last) = 0
waits_with ticket (Call_waits other question) = one_if ticket other

-- the calls with the ticket that wait for their reply
abbrev pub waiting_over : ℕ → List Pending → ℕ
waiting_over ticket [] = 0
waiting_over ticket (pending ∷ more) = waits_with ticket pending.waiting + waiting_over ticket more

-- ---- what is counted

one_more : {A : Type 0} (b : Bool) (x : A) (xs : List A) → length (cond b (x ∷ xs) xs) ≡ cond b 1 0 + length xs
one_more true x xs = omega arith
one_more false x xs = omega arith

-- one more is counted, as much as it adds
counted_more : {A : Type 0} (test : A → Bool) (x : A) (xs : List A) (n m : ℕ)
    → cond (test x) 1 0 ≡ n → length (filter test xs) ≡ m → length (filter test (x ∷ xs)) ≡ n + m
counted_more test x xs n m e f = one_more (test x) x (filter test xs) ∙ ap (λ k. k + length (filter test xs)) e ∙ ap (λ k. n + k) f

answers_one : (t : ℕ) (output : Output) → cond (answers_to t output) 1 0 ≡ is_answer t output
answers_one t (Answer other outcome) = refl
answers_one t _ = refl

answers_counted : (t : ℕ) (outputs : List Output) → length (filter (answers_to t) outputs) ≡ answers_with t outputs
answers_counted t [] = refl
answers_counted t (output ∷ outputs) = counted_more (answers_to t) output outputs _ _ (answers_one t output) (answers_counted t outputs)

answers_onto : (t : ℕ) (xs ys : List Output) → answers_with t (onto xs ys) ≡ answers_with t xs + answers_with t ys
answers_onto t [] ys = omega arith
answers_onto t (x ∷ xs) ys = let h = answers_onto t xs (x ∷ ys) in omega arith

answers_all : (t : ℕ) (items : List Item) → answers_with t (outputs_of items) ≡ answers_over t items
answers_all t [] = refl
answers_all t (Turned turn ∷ items) =
    let o : answers_with t (outputs_of (Turned turn ∷ items)) ≡ answers_with t (onto turn.outputs (outputs_of items)) =
    ap (answers_with t) (outputs_onto turn items) in
    let h = answers_all t items in
    let a = answers_onto t turn.outputs (outputs_of items) in
    omega arith
answers_all t (Forgets ∷ items) = answers_all t items
answers_all t (Halts ∷ items) = answers_all t items

pub answers_are : (t : ℕ) (items : List Item) → answers_in t items ≡ answers_over t items
answers_are t items = answers_counted t (outputs_of items) ∙ answers_all t items

call_one : (t : ℕ) (input : Input) → cond (elim input [ Call other asked ↦ t == other | _ ↦ false ]) 1 0 ≡ is_call_with t input
call_one t (Call other asked) = refl
call_one t _ = refl

pub calls_are : (t : ℕ) (items : List Item) → calls_in t items ≡ calls_over t items
calls_are t [] = refl
calls_are t (Turned turn ∷ items) = counted_more (asks_by t) (Turned turn) items _ _ (call_one t turn.input) (calls_are t items)
calls_are t (Forgets ∷ items) = calls_are t items
calls_are t (Halts ∷ items) = calls_are t items

waits_one : (t : ℕ) (waiting : Waiting)
    → cond (elim waiting [ Call_waits other question ↦ t == other | _ ↦ false ]) 1 0 ≡ waits_with t waiting
waits_one t (Part_waits last) = refl
waits_one t (Call_waits other question) = refl

pub waiting_are : (t : ℕ) (pending : List Pending) → waiting_with t pending ≡ waiting_over t pending
waiting_are t [] = refl
waiting_are t (pending ∷ more) = counted_more (waits_by t) pending more _ _ (waits_one t pending.waiting) (waiting_are t more)
