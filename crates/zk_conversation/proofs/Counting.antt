-- Counts of what is pending, as requests come and go.
use Rattle.std.proofs.Common.{◌≡◌, ℕ, ◌+◌, ◌-◌, ◌≤◌, ℤ, Bool, true, false, cond, ltb, lt-ltb, ◌||◌, List, [], ◌∷◌, ◌++◌, length, refl, sym}
use Rattle.std.proofs.Common.{ap, ◌∙◌, arith, length-append}
use Rattle.std.specs.List.{filter, list_any}
use Rattle.std.proofs.lemmas.List.Elements.{filter-append}
use Rattle.zk_nodes.specs.declared.side.Side.{Side}
use Rattle.zk_nodes.specs.declared.side.Side.TheVariants.{Data, Child}
use Rattle.zk_conversation.specs.declared.counts.Counts.{Counts}
use Rattle.zk_conversation.specs.Questions.{Question}
use Rattle.zk_conversation.specs.Pending.{Pending, Waiting, Part_waits, Call_waits, is_call, is_close, waits_to_watch, calls_pending}
use Rattle.zk_conversation.specs.Pending.{watches_pending}
use Rattle.zk_conversation.specs.inner.Counted.{one_if, counts_with, counts_without}
use Rattle.zk_conversation.specs.Counted.{counts_of}

-- how many elements give true
abbrev count : {X : Type 0} → (X → Bool) → List X → ℕ
count p xs = length (filter p xs)

one : {X : Type 0} (b : Bool) (x : X) → length (cond b (x ∷ []) []) ≡ one_if b
one true x = refl
one false x = refl

count-push : {X : Type 0} (p : X → Bool) (xs : List X) (y : X) → count p (xs ++ y ∷ []) ≡ count p xs + one_if (p y)
count-push p xs y = ap length (filter-append p xs (y ∷ [])) ∙ length-append (filter p xs) (filter p (y ∷ []))
    ∙ ap (λ n. count p xs + n) (one (p y) y)

less : {X : Type 0} (b : Bool) (x : X) (xs : List X) → length (cond b (x ∷ xs) xs) - one_if b ≡ length xs
less true x xs = omega arith
less false x xs = omega arith

count-pop : {X : Type 0} (p : X → Bool) (x : X) (xs : List X) → count p (x ∷ xs) - one_if (p x) ≡ count p xs
count-pop p x xs = less (p x) x (filter p xs)

counts_ext : (a b c d a' b' c' d' : ℕ) → a ≡ a' → b ≡ b' → c ≡ c' → d ≡ d'
    → let l : Counts = record { calls = a; on_data = b; on_child = c; closes = d } in
    l ≡ record { calls = a'; on_data = b'; on_child = c'; closes = d' }
counts_ext a b c d a' b' c' d' e f g h = cc

pub counts-push_call : (xs : List Pending) (xid : ℤ) (ticket : ℕ) (question : Question)
    → counts_of (xs ++ record { xid = xid; waiting = Call_waits ticket question } ∷ []) ≡ counts_with (counts_of xs) question
counts-push_call xs xid ticket question =
    let call : Pending = record { xid = xid; waiting = Call_waits ticket question } in
    counts_ext _ _ _ _ _ _ _ _ (count-push is_call xs call) (count-push (waits_to_watch Data) xs call)
    (count-push (waits_to_watch Child) xs call) (count-push is_close xs call)

pub counts-push_part : (xs : List Pending) (xid : ℤ) (last : Bool)
    → counts_of (xs ++ record { xid = xid; waiting = Part_waits last } ∷ []) ≡ counts_of xs
counts-push_part xs xid last =
    let part : Pending = record { xid = xid; waiting = Part_waits last } in
    let none : (n : ℕ) → n + 0 ≡ n = λ n. omega arith in
    counts_ext _ _ _ _ _ _ _ _ (count-push is_call xs part ∙ none _) (count-push (waits_to_watch Data) xs part ∙ none _)
    (count-push (waits_to_watch Child) xs part ∙ none _) (count-push is_close xs part ∙ none _)

pub counts-pop : (xid : ℤ) (waiting : Waiting) (xs : List Pending)
    → counts_without (counts_of (record { xid = xid; waiting = waiting } ∷ xs)) waiting ≡ counts_of xs
counts-pop xid (Part_waits last) xs = refl
counts-pop xid (Call_waits ticket question) xs =
    let call : Pending = record { xid = xid; waiting = Call_waits ticket question } in
    counts_ext _ _ _ _ _ _ _ _ (count-pop is_call call xs) (count-pop (waits_to_watch Data) call xs)
    (count-pop (waits_to_watch Child) call xs) (count-pop is_close call xs)

-- what implies another test gives true no more often
grows : {X : Type 0} (a b : Bool) (x y : X) (xs ys : List X) → (a ≡ true → b ≡ true)
    → length xs ≤ length ys → length (cond a (x ∷ xs) xs) ≤ length (cond b (y ∷ ys) ys)
grows true true x y xs ys h le = omega arith
grows true false x y xs ys h le = absurd (let e : false ≡ true = h refl in cc)
grows false true x y xs ys h le = omega arith
grows false false x y xs ys h le = omega arith

count-le : {X : Type 0} (p q : X → Bool) → ((x : X) → p x ≡ true → q x ≡ true) → (xs : List X) → count p xs ≤ count q xs
count-le p q h [] = omega arith
count-le p q h (x ∷ xs) = grows (p x) (q x) x x (filter p xs) (filter q xs) (h x) (count-le p q h xs)

watch_is_call : (side : Side) (xid : ℤ) (waiting : Waiting) → let p : Pending = record { xid = xid; waiting = waiting } in
    waits_to_watch side p ≡ true → is_call p ≡ true
watch_is_call side xid (Part_waits last) e = e
watch_is_call side xid (Call_waits ticket question) e = refl

close_is_call : (xid : ℤ) (waiting : Waiting) → let p : Pending = record { xid = xid; waiting = waiting } in
    is_close p ≡ true → is_call p ≡ true
close_is_call xid (Part_waits last) e = e
close_is_call xid (Call_waits ticket question) e = refl

-- what is counted of the calls is no more than the calls
pub record AreCalls (xs : List Pending) : Type 0 where
  pub on_data : watches_pending Data xs ≤ calls_pending xs
  pub on_child : watches_pending Child xs ≤ calls_pending xs
  pub closes : length (filter is_close xs) ≤ calls_pending xs

pub are_calls : (xs : List Pending) → AreCalls xs
are_calls xs = record {
  on_data = count-le (waits_to_watch Data) is_call (λ p. watch_is_call Data p.xid p.waiting) xs;
  on_child = count-le (waits_to_watch Child) is_call (λ p. watch_is_call Child p.xid p.waiting) xs;
  closes = count-le is_close is_call (λ p. close_is_call p.xid p.waiting) xs;
}

any_of : {X : Type 0} (b : Bool) (x : X) (xs : List X) (rest : Bool) → rest ≡ ltb 0 (length xs)
    → (b || rest) ≡ ltb 0 (length (cond b (x ∷ xs) xs))
any_of true x xs rest e = sym (lt-ltb 0 (length (x ∷ xs)) (omega arith))
any_of false x xs rest e = e

-- some element gives true where the count is above 0
pub any-count : {X : Type 0} (p : X → Bool) (xs : List X) → list_any p xs ≡ ltb 0 (count p xs)
any-count p [] = refl
any-count p (x ∷ xs) = any_of (p x) x (filter p xs) (list_any p xs) (any-count p xs)
