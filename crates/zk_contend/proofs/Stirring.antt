-- Whom to look at: a turn through those that are looked at, in which each that does not sleep goes last.
use Rattle.std.proofs.Common.{ℕ, ◌≡◌, ◌≤◌, ◌<◌, ◌+◌, ◌⊎◌, inl, inr, ◌∙◌, Bool, true, false, ◌||◌, List, [], ◌∷◌, ◌++◌, length, nat_eq}
use Rattle.std.proofs.Common.{arith}
use Rattle.std.proofs.Common.{Option, Some, None, IfSome, is_some, cond, if◌then◌else◌, refl, sym, ap, subst, true≢false}
use Rattle.std.proofs.lemmas.Bool.Decides.{Decides-eqb}
use Rattle.std.proofs.lemmas.List.{append_assoc, append-nil}
use Rattle.std.proofs.lemmas.List.Folds.{list_any-append}
use Rattle.std.specs.List.{filter}
use Rattle.std.specs.Map.{keys_of, lookup}
use Rattle.zk_contend.specs.Collections.{is_in}

-- ---- who is among some

or_left : (b c d : Bool) → b ≡ (c || d) → c ≡ true → b ≡ true
or_left b true d is passes = is
or_left b false d is passes = absurd (true≢false (sym passes))

or_right : (b c d : Bool) → b ≡ (c || d) → d ≡ true → b ≡ true
or_right b true d is passes = is
or_right b false d is passes = is ∙ passes

pub in_left : (ticket : ℕ) (xs ys : List ℕ) → is_in ticket xs ≡ true → is_in ticket (xs ++ ys) ≡ true
in_left ticket xs ys is = or_left _ _ _ (list_any-append (nat_eq ticket) xs ys) is

pub in_right : (ticket : ℕ) (xs ys : List ℕ) → is_in ticket ys ≡ true → is_in ticket (xs ++ ys) ≡ true
in_right ticket xs ys is = or_right _ _ _ (list_any-append (nat_eq ticket) xs ys) is

itself : (ticket : ℕ) → is_in ticket (ticket ∷ []) ≡ true
itself ticket = ap (λ b. b || false) ((Decides-eqb ticket ticket).1 refl)

-- ---- a turn

abbrev tail_of : List ℕ → List ℕ
tail_of [] = []
tail_of (x ∷ xs) = xs

abbrev head_of : List ℕ → ℕ
head_of [] = 0
head_of (x ∷ xs) = x

module _ {X : Type 0} (all : ℕ → Option X) (Rest Asleep : X → Type 0) where
  -- It was not looked at yet, or it rests, and is looked at again unless it sleeps.
  abbrev pub IsPast : (left kept : List ℕ) → (ticket : ℕ) → Type 0
  IsPast left kept ticket =
      (is_in ticket left ≡ true) ⊎ (IfSome (all ticket) Rest × ((is_in ticket kept ≡ true) ⊎ IfSome (all ticket) Asleep))

  -- It goes last, or it sleeps.
  abbrev pub GoesOn : (x : ℕ) → (old new : List ℕ) → Type 0
  GoesOn x old new = (new ≡ old ++ x ∷ []) ⊎ ((new ≡ old) × IfSome (all x) Asleep)

  module _ (old : List ℕ) (count : ℕ) where
    -- Those that are left, and then those that are looked at again.
    pub record Turns (turn : ℕ) (awake : List ℕ) : Type 0 where
      pub left : List ℕ
      pub kept : List ℕ
      pub line : awake ≡ left ++ kept
      pub size : length left + turn ≡ count
      pub past : (ticket : ℕ) → is_in ticket old ≡ true → IsPast left kept ticket

    pub turns_begin : count ≡ length old → Turns 0 old
    turns_begin is = record {
      left = old;
      kept = [];
      line = sym (append-nil old);
      size = omega (arith, is);
      past = λ ticket there. inl there;
    }

    -- the one whose turn it was
    turned : (x y ticket : ℕ) (left kept kept' : List ℕ) → x ≡ y → (is_it : Bool) → nat_eq ticket y ≡ is_it
        → IfSome (all x) Rest → ((is_in x kept' ≡ true) ⊎ IfSome (all x) Asleep)
        → (is_it || is_in ticket left) ≡ true → IsPast left kept' ticket
    turned x y ticket left kept kept' same false e rests goes there = inl there
    turned x y ticket left kept kept' same true e rests goes there =
        let is : x ≡ ticket = same ∙ sym ((Decides-eqb ticket y).0 e) in
        inr (subst (λ t. IfSome (all t) Rest × ((is_in t kept' ≡ true) ⊎ IfSome (all t) Asleep)) is (rests, goes))

    still : (ticket : ℕ) (left kept kept' : List ℕ) → (is_in ticket kept ≡ true → is_in ticket kept' ≡ true)
        → IfSome (all ticket) Rest × ((is_in ticket kept ≡ true) ⊎ IfSome (all ticket) Asleep) → IsPast left kept' ticket
    still ticket left kept kept' more (rests, inl there) = inr (rests, inl (more there))
    still ticket left kept kept' more (rests, inr sleeps) = inr (rests, inr sleeps)

    past_more : (x y ticket : ℕ) (left kept kept' : List ℕ) → x ≡ y → IfSome (all x) Rest
        → ((is_in x kept' ≡ true) ⊎ IfSome (all x) Asleep) → (is_in ticket kept ≡ true → is_in ticket kept' ≡ true)
        → IsPast (y ∷ left) kept ticket → IsPast left kept' ticket
    past_more x y ticket left kept kept' same rests goes more (inl there) =
        turned x y ticket left kept kept' same (nat_eq ticket y) refl rests goes there
    past_more x y ticket left kept kept' same rests goes more (inr so) = still ticket left kept kept' more so

    turn_by : (turn x : ℕ) (awake rest new left kept : List ℕ) → awake ≡ left ++ kept → length left + turn ≡ count
        → ((ticket : ℕ) → is_in ticket old ≡ true → IsPast left kept ticket)
        → turn < count → awake ≡ x ∷ rest → IfSome (all x) Rest → GoesOn x rest new → Turns (turn + 1) new
    turn_by turn x awake rest new [] kept line long past more is rests goes = absurd (omega (arith, long, more))
    turn_by turn x awake rest new (y ∷ left) kept line long past more is rests (inl last) =
        let same : x ≡ y = ap head_of (sym is ∙ line) in
        let tail : rest ≡ left ++ kept = ap tail_of (sym is ∙ line) in
        record {
          left = left;
          kept = kept ++ x ∷ [];
          line = last ∙ ap (λ l. l ++ x ∷ []) tail ∙ append_assoc left kept (x ∷ []);
          size = omega (arith, long);
          past = λ ticket there. past_more x y ticket left kept (kept ++ x ∷ []) same rests
              (inl (in_right x kept (x ∷ []) (itself x))) (in_left ticket kept (x ∷ [])) (past ticket there);
        }
    turn_by turn x awake rest new (y ∷ left) kept line long past more is rests (inr (same_line, sleeps)) =
        let same : x ≡ y = ap head_of (sym is ∙ line) in
        let tail : rest ≡ left ++ kept = ap tail_of (sym is ∙ line) in
        record {
          left = left;
          kept = kept;
          line = same_line ∙ tail;
          size = omega (arith, long);
          past = λ ticket there. past_more x y ticket left kept kept same rests (inr sleeps) (λ so. so) (past ticket there);
        }

    pub turns_more : (turn x : ℕ) (awake rest new : List ℕ) → Turns turn awake → turn < count → awake ≡ x ∷ rest
        → IfSome (all x) Rest → GoesOn x rest new → Turns (turn + 1) new
    turns_more turn x awake rest new t more is rests goes =
        turn_by turn x awake rest new t.left t.kept t.line t.size t.past more is rests goes

    -- ---- the end

    abbrev pub Ends : (awake : List ℕ) → Type 0
    Ends awake = (ticket : ℕ) → is_in ticket old ≡ true
        → IfSome (all ticket) Rest × ((is_in ticket awake ≡ true) ⊎ IfSome (all ticket) Asleep)

    at_end : (awake kept : List ℕ) (ticket : ℕ) → awake ≡ kept → IsPast [] kept ticket
        → IfSome (all ticket) Rest × ((is_in ticket awake ≡ true) ⊎ IfSome (all ticket) Asleep)
    at_end awake kept ticket line (inl none) = absurd (true≢false (sym none))
    at_end awake kept ticket line (inr so) =
        subst (λ l. IfSome (all ticket) Rest × ((is_in ticket l ≡ true) ⊎ IfSome (all ticket) Asleep)) (sym line) so

    end_by : (turn : ℕ) (awake left kept : List ℕ) → awake ≡ left ++ kept → length left + turn ≡ count
        → ((ticket : ℕ) → is_in ticket old ≡ true → IsPast left kept ticket) → count ≤ turn → Ends awake
    end_by turn awake [] kept line long past done = λ ticket there. at_end awake kept ticket line (past ticket there)
    end_by turn awake (y ∷ left) kept line long past done = absurd (omega (arith, long, done))

    pub turns_end : (turn : ℕ) (awake : List ℕ) → Turns turn awake → count ≤ turn → Ends awake
    turns_end turn awake t done = end_by turn awake t.left t.kept t.line t.size t.past done

    none_by : (turn : ℕ) (awake left kept : List ℕ) → awake ≡ left ++ kept → length left + turn ≡ count
        → ((ticket : ℕ) → is_in ticket old ≡ true → IsPast left kept ticket) → turn < count → length awake ≡ 0 → Ends awake
    none_by turn awake [] kept line long past more none = absurd (omega (arith, long, more))
    none_by turn awake (y ∷ left) kept line long past more none =
        absurd (let wrong : length (y ∷ (left ++ kept)) ≡ 0 = ap length (sym line) ∙ none in omega (arith, wrong))

    pub turns_none : (turn : ℕ) (awake : List ℕ) → Turns turn awake → turn < count → length awake ≡ 0 → Ends awake
    turns_none turn awake t more none = none_by turn awake t.left t.kept t.line t.size t.past more none

    -- ---- one is due

    abbrev pub StaysBut : (x : ℕ) → (awake : List ℕ) → Type 0
    StaysBut x awake = (ticket : ℕ) → is_in ticket old ≡ true
        → (is_in ticket awake ≡ true) ⊎ (IfSome (all ticket) Asleep ⊎ (ticket ≡ x))

    stays_if : (x y ticket : ℕ) (rest left kept : List ℕ) → x ≡ y → rest ≡ left ++ kept → (is_it : Bool) → nat_eq ticket y ≡ is_it
        → (is_it || is_in ticket left) ≡ true → (is_in ticket rest ≡ true) ⊎ (IfSome (all ticket) Asleep ⊎ (ticket ≡ x))
    stays_if x y ticket rest left kept same tail true e there = inr (inr ((Decides-eqb ticket y).0 e ∙ sym same))
    stays_if x y ticket rest left kept same tail false e there =
        inl (subst (λ l. is_in ticket l ≡ true) (sym tail) (in_left ticket left kept there))

    stays_one : (x y ticket : ℕ) (rest left kept : List ℕ) → x ≡ y → rest ≡ left ++ kept → IsPast (y ∷ left) kept ticket
        → (is_in ticket rest ≡ true) ⊎ (IfSome (all ticket) Asleep ⊎ (ticket ≡ x))
    stays_one x y ticket rest left kept same tail (inl there) = stays_if x y ticket rest left kept same tail (nat_eq ticket y) refl there
    stays_one x y ticket rest left kept same tail (inr (rests, inl there)) =
        inl (subst (λ l. is_in ticket l ≡ true) (sym tail) (in_right ticket left kept there))
    stays_one x y ticket rest left kept same tail (inr (rests, inr sleeps)) = inr (inl sleeps)

    found_by : (turn x : ℕ) (awake rest left kept : List ℕ) → awake ≡ left ++ kept → length left + turn ≡ count
        → ((ticket : ℕ) → is_in ticket old ≡ true → IsPast left kept ticket) → turn < count → awake ≡ x ∷ rest → StaysBut x rest
    found_by turn x awake rest [] kept line long past more is = absurd (omega (arith, long, more))
    found_by turn x awake rest (y ∷ left) kept line long past more is =
        λ ticket there.
        stays_one x y ticket rest left kept (ap head_of (sym is ∙ line)) (ap tail_of (sym is ∙ line)) (past ticket there)

    pub turns_found : (turn x : ℕ) (awake rest : List ℕ) → Turns turn awake → turn < count → awake ≡ x ∷ rest → StaysBut x rest
    turns_found turn x awake rest t more is = found_by turn x awake rest t.left t.kept t.line t.size t.past more is

-- ---- all, and those that a report is about

keys_by : {X : Type 0} (b : Bool) (v : X) (rest : Option X) (more : Bool) → (is_some rest ≡ true → more ≡ true)
    → is_some (cond b (Some v) rest) ≡ true → (b || more) ≡ true
keys_by true v rest more so there = refl
keys_by false v rest more so there = so there

-- a ticket at which there is one is among the keys
pub keys_in : {X : Type 0} (ticket : ℕ) (es : List (ℕ × X)) → is_some (lookup (nat_eq ticket) es) ≡ true → is_in ticket (keys_of es) ≡ true
keys_in ticket [] there = absurd (true≢false (sym there))
keys_in ticket (e ∷ es) there = keys_by (nat_eq ticket e.0) e.1 _ _ (keys_in ticket es) there

module _ {X : Type 0} (test : X → Bool) (ticket : ℕ) where
  picked_by : (b d : Bool) (e : ℕ × X) (rest : Option X) (more : List (ℕ × X)) → nat_eq ticket e.0 ≡ b → test e.1 ≡ d
      → IfSome rest (λ one. test one ≡ true → is_in ticket (keys_of more) ≡ true)
      → IfSome (cond b (Some e.1) rest) (λ one. test one ≡ true → is_in ticket (keys_of (cond d (e ∷ more) more)) ≡ true)
  picked_by true true e rest more is so h = λ passes. ap (λ b. b || is_in ticket (keys_of more)) is
  picked_by true false e rest more is so h = λ passes. absurd (true≢false (sym passes ∙ so))
  picked_by false d e None more is so h = tt
  picked_by false true e (Some one) more is so h = λ passes. or_right _ (nat_eq ticket e.0) _ refl (h passes)
  picked_by false false e (Some one) more is so h = h

  -- a ticket at which there is one that passes is among the keys of those that pass
  pub picked : (es : List (ℕ × X))
      → IfSome (lookup (nat_eq ticket) es) (λ one. test one ≡ true → is_in ticket (keys_of (filter (λ e. test e.1) es)) ≡ true)
  picked [] = tt
  picked (e ∷ es) = picked_by (nat_eq ticket e.0) (test e.1) e _ _ refl refl (picked es)

-- one more is looked at, if it passes
pub one_more : {X : Type 0} (b : Bool) (e : ℕ × X) (more : List (ℕ × X)) (awake new : List ℕ)
    → new ≡ (if b then awake ++ e.0 ∷ [] else awake) → new ++ keys_of more ≡ awake ++ keys_of (cond b (e ∷ more) more)
one_more true e more awake new is = ap (λ l. l ++ keys_of more) is ∙ append_assoc awake (e.0 ∷ []) (keys_of more)
one_more false e more awake new is = ap (λ l. l ++ keys_of more) is

or_none : (b : Bool) → (b || false) ≡ b
or_none true = refl
or_none false = refl

-- one more is among them
pub in_more : (other ticket : ℕ) (old new : List ℕ) → new ≡ old ++ ticket ∷ [] → is_in other new ≡ (is_in other old || nat_eq other ticket)
in_more other ticket old new is =
    ap (is_in other) is ∙ list_any-append (nat_eq other) old (ticket ∷ []) ∙ ap (λ b. is_in other old || b) (or_none (nat_eq other ticket))

pub then_too : {X : Type 0} (test : X → Bool) (o : Option X) (b c : Bool) → (b ≡ true → c ≡ true)
    → IfSome o (λ one. test one ≡ true → b ≡ true) → IfSome o (λ one. test one ≡ true → c ≡ true)
then_too test None b c more so = tt
then_too test (Some one) b c more so = λ passes. more (so passes)
