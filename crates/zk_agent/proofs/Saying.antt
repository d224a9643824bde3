-- What outputs say, and what is told of them: output by output, what is gone through so far and what is left are all.
use Rattle.std.proofs.Common.{◌≡◌, ◌<◌, ◌≤◌, ◌+◌, ◌++◌, append-nil, append_assoc, ℕ, zero, suc, Bool, true, false, List, [], ◌∷◌}
use Rattle.std.proofs.Common.{drop, length, get_or, map, take, take_all, fold}
use Rattle.std.proofs.Common.{refl, sym, ap}
use Rattle.std.proofs.Common.{◌∙◌}
use Rattle.std.specs.Prelude.{Result, Ok, Err, OnOk, ◌&&◌, ◌||◌, not}
use Rattle.std.specs.List.{list_any}
use Rattle.std.proofs.lemmas.List.{map-append, take_more}
use Rattle.std.proofs.lemmas.List.Folds.{list_any-append}
use Rattle.std.proofs.lemmas.List.Sums.{fold-append}
use Rattle.zk_turns.specs.Turns.{Output}
use Rattle.zk_client.specs.declared.output.Output.{Output as Made}
use Rattle.zk_client.specs.Views.{output_view, said}
use Rattle.zk_calls.specs.declared.entry.Entry.{Entry}
use Rattle.zk_agent.specs.Calls.{hears, hears_all, tells, tells_all}
use Rattle.zk_agent.specs.Replies.{ends_row, heard_in, is_back, is_lost, is_over, is_reply}
use Rattle.zk_agent.specs.Telling.{Told}
use Rattle.zk_agent.specs.Waits.{none_sent, sent_by}
use Rattle.zk_agent.specs.inner.Replies.{heard_by}

pub on_ok : {X E : Type 0} (P Q : Type 0) (result : Result X E) → (P → Q) → OnOk result P → OnOk result Q
on_ok P Q (Ok x) to h = to h
on_ok P Q (Err e) to h = tt

pub ok_always : {X E P : Type 0} (result : Result X E) → P → OnOk result P
ok_always (Ok x) p = p
ok_always (Err e) p = tt

pub both_ok : {X E : Type 0} {P Q R : Type 0} (result : Result X E) → (P → Q → R) → OnOk result P → OnOk result Q → OnOk result R
both_ok (Ok x) to p q = to p q
both_ok (Err e) to p q = tt

-- one more of a list that is gone through
pub map_more : {X Y : Type 0} (f : X → Y) (xs : List X) (i : ℕ) (x : X)
    → i < length xs → x ≡ get_or xs i x → map f (take (i + 1) xs) ≡ map f (take i xs) ++ f x ∷ []
map_more f xs i x within is =
    ap (map f) (take_more xs i x within) ∙ map-append f (take i xs) (get_or xs i x ∷ []) ∙ ap (λ y. map f (take i xs) ++ f y ∷ []) (sym is)

-- what is left of a list that was mapped
map_twice : {X Y Z : Type 0} (f : Y → Z) (g : X → Y) (xs : List X) → map f (map g xs) ≡ map (λ x. f (g x)) xs
map_twice f g [] = refl
map_twice f g (x ∷ xs) = ap (λ l. f (g x) ∷ l) (map_twice f g xs)

pub map_drop : {X Y Z : Type 0} (f : Y → Z) (g : X → Y) (n : ℕ) (xs : List X) → map f (drop n (map g xs)) ≡ map (λ x. f (g x)) (drop n xs)
map_drop f g zero xs = map_twice f g xs
map_drop f g (suc n) [] = refl
map_drop f g (suc n) (x ∷ xs) = map_drop f g n xs

-- one more of outputs that are used up
module _ {A : Type 0} (line new : List (Entry A)) where
  pub told_more : (before now all : List Told) (output : Output) (rest outputs : List Output)
      → outputs ≡ output ∷ rest → new ≡ hears line output → now ≡ before ++ tells line output
      → before ++ tells_all line outputs ≡ all → now ++ tells_all new rest ≡ all
  told_more before now all output rest outputs is heard told so_far =
      ap (λ l. l ++ tells_all new rest) told ∙ ap (λ es. (before ++ tells line output) ++ tells_all es rest) heard
      ∙ append_assoc before (tells line output) (tells_all (hears line output) rest)
      ∙ ap (λ l. before ++ tells_all line l) (sym is) ∙ so_far

  pub heard_more : (all : List (Entry A)) (output : Output) (rest outputs : List Output) → outputs ≡ output ∷ rest → new ≡ hears line output
      → hears_all line outputs ≡ all → hears_all new rest ≡ all
  heard_more all output rest outputs is heard so_far = ap (λ es. hears_all es rest) heard ∙ ap (hears_all line) (sym is) ∙ so_far

-- two parts of what is told
pub two_parts : {X : Type 0} (before first second now then_now : List X)
    → now ≡ before ++ first → then_now ≡ now ++ second → then_now ≡ before ++ (first ++ second)
two_parts before first second now then_now one two = two ∙ ap (λ l. l ++ second) one ∙ append_assoc before first second

-- outputs that are gone through, and what they say
pub fold_said : {A S : Type 0} (f : S → Output → S) (from : S) (made : List (Made A))
    → fold f from (said made) ≡ fold (λ s output. f s (output_view output)) from made
fold_said f from [] = refl
fold_said f from (output ∷ made) = fold_said f (f from (output_view output)) made

-- ---- what they say of a connection and of calls

no_more : (b : Bool) → (b || false) ≡ b
no_more true = refl
no_more false = refl

-- one output more passes a test
any_with : (test : Output → Bool) (given : List Output) (output : Output)
    → list_any test (given ++ output ∷ []) ≡ (list_any test given || test output)
any_with test given output =
    list_any-append test given (output ∷ []) ∙ ap (λ (b : Bool). list_any test given || b) (no_more (test output))

-- A reply after which the session is lost counts no more.
row_with : (replied lost replies loses : Bool)
    → (((replied && not lost) || replies) && not (lost || loses)) ≡ ((replied || replies) && not (lost || loses))
row_with true true true loses = refl
row_with true true false loses = refl
row_with true false replies loses = refl
row_with false lost replies loses = refl

heard_one : (given : List Output) (output : Output) → heard_in (given ++ output ∷ []) ≡ heard_by (heard_in given) output
heard_one given output =
    let reply = any_with is_reply given output in
    let over = any_with is_over given output in
    let lost = any_with is_lost given output in
    let back = any_with is_back given output in
    let row : ends_row (given ++ output ∷ []) ≡ ((ends_row given || is_reply output) && not (list_any is_lost given || is_lost output)) =
    (λ i. reply i && not (lost i))
    ∙ sym (row_with (list_any is_reply given) (list_any is_lost given) (is_reply output) (is_lost output)) in
    let sent = fold-append sent_by (none_sent false) given (output ∷ []) in
    λ i. record { ends_row = row i; is_over = over i; is_lost = lost i; goes_back = back i; sent = sent i }

heard_after : (given rest : List Output) → fold heard_by (heard_in given) rest ≡ heard_in (given ++ rest)
heard_after given [] = ap heard_in (sym (append-nil given))
heard_after given (output ∷ rest) =
    ap (λ heard. fold heard_by heard rest) (sym (heard_one given output)) ∙ heard_after (given ++ output ∷ []) rest
    ∙ ap heard_in (append_assoc given (output ∷ []) rest)

-- one after the other, to the end
pub all_heard : {A : Type 0} (made : List (Made A)) (index : ℕ) → length made ≤ index
    → fold (λ heard output. heard_by heard (output_view output)) (heard_in []) (take index made) ≡ heard_in (said made)
all_heard made index past =
    ap (λ made. fold (λ heard output. heard_by heard (output_view output)) (heard_in []) made) (take_all index made past)
    ∙ sym (fold_said heard_by (heard_in []) made) ∙ heard_after [] (said made)
