-- Lists in order: what adds to one, takes from one, and finds in one. By induction on the list, where the first stands before all others.
use Rattle.std.proofs.Common.{◌≡◌, ◌<◌, ◌++◌, ◌&&◌, nat_lt, ℕ, zero, suc, Bool, true, false, cond, not, List, [], ◌∷◌, Some, None, length}
use Rattle.std.proofs.Common.{get_or, refl, sym, ap, ◌∙◌, arith}
use Rattle.std.specs.List.{filter, list_all, position, position_or_len}
use Rattle.std.proofs.lemmas.Bool.Decides.{nat_tests}
use Rattle.std.proofs.lemmas.Grind.{common_steps}
use Rattle.std.proofs.lemmas.List.Sums.{position_or_len_is}
use Rattle.zk_calls.specs.Lines.{with_first}
use Rattle.zk_calls.specs.Orders.{in_order}

pub both : (a b : Bool) → (a && b) ≡ true → (a ≡ true) × (b ≡ true)
both true b is = (refl, is)
both false b is = (is, cc)

and_of : (a b : Bool) → a ≡ true → b ≡ true → (a && b) ≡ true
and_of true b one other = other
and_of false b one other = one

-- ---- the first that passes

module _ {X : Type 0} (test : X → Bool) where
  pub position_is : (xs : List X) (place : ℕ) (d : X) → place < length xs → ((k : ℕ) → k < place → test (get_or xs k d) ≡ false)
      → test (get_or xs place d) ≡ true → position test xs ≡ Some place
  position_is xs place d below none passes =
      let at : position_or_len test xs ≡ place = position_or_len_is test xs place d (omega arith) none (λ _. passes) in
      let less : nat_lt place (length xs) ≡ true = grind (arith, nat_tests) in
      ap (λ n. cond (nat_lt n (length xs)) (Some n) None) at ∙ ap (λ b. cond b (Some place) None) less

  pub position_none : (xs : List X) → ((k : ℕ) (d : X) → k < length xs → test (get_or xs k d) ≡ false) → position test xs ≡ None
  position_none [] none = refl
  position_none (x ∷ xs) none =
      let at : position_or_len test (x ∷ xs) ≡ length (x ∷ xs) =
      position_or_len_is test (x ∷ xs) (length (x ∷ xs)) x (omega arith) (λ k below. none k x below) (λ below. absurd (omega arith)) in
      let less : nat_lt (length (x ∷ xs)) (length (x ∷ xs)) ≡ false = grind (arith, nat_tests) in
      ap (λ n. cond (nat_lt n (length (x ∷ xs))) (Some n) None) at ∙ ap (λ b. cond b (Some (length (x ∷ xs))) None) less

  -- where none passes, none is taken, and all are left
  taken_none : (is : Bool) (x : X) (xs : List X) → is ≡ false → xs ≡ [] → cond is (x ∷ xs) xs ≡ []
  taken_none is x xs fails_it none = ap (λ b. cond b (x ∷ xs) xs) fails_it ∙ none

  pub none_taken : (xs : List X) → ((k : ℕ) (d : X) → k < length xs → test (get_or xs k d) ≡ false) → filter test xs ≡ []
  none_taken [] none = refl
  none_taken (x ∷ xs) none =
      let other : test x ≡ false = none 0 x (grind (arith, common_steps)) in
      taken_none (test x) x (filter test xs) other
      (none_taken xs (λ k d below. let further : suc k < length (x ∷ xs) = grind (arith, common_steps) in none (suc k) d further))

  left_one : (is : Bool) (x : X) (taken rest xs : List X) → cond is (x ∷ taken) taken ≡ [] → (taken ≡ [] → rest ≡ xs)
      → cond (not is) (x ∷ rest) rest ≡ x ∷ xs
  left_one true x taken rest xs none left = cc
  left_one false x taken rest xs none left = ap (λ es. x ∷ es) (left none)

  pub all_left : (xs : List X) → filter test xs ≡ [] → filter (λ x. not (test x)) xs ≡ xs
  all_left [] none = refl
  all_left (x ∷ xs) none = left_one (test x) x (filter test xs) (filter (λ y. not (test y)) xs) xs none (λ none. all_left xs none)

-- ---- order

module _ {X : Type 0} (before : X → X → Bool) where
  all_at : (z : X) (xs : List X) (k : ℕ) (d : X) → list_all (before z) xs ≡ true → k < length xs → before z (get_or xs k d) ≡ true
  all_at z [] k d all below = absurd (let none : k < 0 = below in omega arith)
  all_at z (x ∷ xs) zero d all below = let parts = both (before z x) (list_all (before z) xs) all in parts.0
  all_at z (x ∷ xs) (suc k) d all below =
      let parts = both (before z x) (list_all (before z) xs) all in
      let within : k < length xs = let long : suc k < length (x ∷ xs) = below in grind (arith, common_steps) in
      all_at z xs k d parts.1 within

  pub before_at : (xs : List X) (i j : ℕ) (d : X)
      → in_order before xs ≡ true → i < j → j < length xs → before (get_or xs i d) (get_or xs j d) ≡ true
  before_at [] i j d ordered less below = absurd (let none : j < 0 = below in omega arith)
  before_at (x ∷ xs) i zero d ordered less below = absurd (let none : i < 0 = less in omega arith)
  before_at (x ∷ xs) zero (suc j) d ordered less below =
      let parts = both (list_all (before x) xs) (in_order before xs) ordered in
      let within : j < length xs = let long : suc j < length (x ∷ xs) = below in grind (arith, common_steps) in
      all_at x xs j d parts.0 within
  before_at (x ∷ xs) (suc i) (suc j) d ordered less below =
      let parts = both (list_all (before x) xs) (in_order before xs) ordered in
      let within : j < length xs = let long : suc j < length (x ∷ xs) = below in grind (arith, common_steps) in
      let sooner : i < j = let far : suc i < suc j = less in omega arith in
      before_at xs i j d parts.1 sooner within

  -- ---- some are left

  all_one_kept : (is : Bool) (z x : X) (xs : List X)
      → before z x ≡ true → list_all (before z) xs ≡ true → list_all (before z) (cond is (x ∷ xs) xs) ≡ true
  all_one_kept true z x xs its all = and_of (before z x) (list_all (before z) xs) its all
  all_one_kept false z x xs its all = all

  all_kept : (kept : X → Bool) (z : X) (xs : List X) → list_all (before z) xs ≡ true → list_all (before z) (filter kept xs) ≡ true
  all_kept kept z [] all = refl
  all_kept kept z (x ∷ xs) all = let parts = both (before z x) (list_all (before z) xs) all in
      all_one_kept (kept x) z x (filter kept xs) parts.0 (all_kept kept z xs parts.1)

  one_kept : (is : Bool) (x : X) (xs : List X)
      → list_all (before x) xs ≡ true → in_order before xs ≡ true → in_order before (cond is (x ∷ xs) xs) ≡ true
  one_kept true x xs all ordered = and_of (list_all (before x) xs) (in_order before xs) all ordered
  one_kept false x xs all ordered = ordered

  pub in_order-filter : (kept : X → Bool) (xs : List X) → in_order before xs ≡ true → in_order before (filter kept xs) ≡ true
  in_order-filter kept [] ordered = refl
  in_order-filter kept (x ∷ xs) ordered =
      let parts = both (list_all (before x) xs) (in_order before xs) ordered in
      one_kept (kept x) x (filter kept xs) (all_kept kept x xs parts.0) (in_order-filter kept xs parts.1)

  -- ---- one comes after all

  module _ (joins : (a b c : X) → before a b ≡ true → before b c ≡ true → before a c ≡ true) where
    all_added : (z : X) (xs : List X) (y : X)
        → list_all (before z) xs ≡ true → before z y ≡ true → list_all (before z) (xs ++ y ∷ []) ≡ true
    all_added z [] y all its = and_of (before z y) true its refl
    all_added z (x ∷ xs) y all its =
        let parts = both (before z x) (list_all (before z) xs) all in
        and_of (before z x) (list_all (before z) (xs ++ y ∷ [])) parts.0 (all_added z xs y parts.1 its)

    pub in_order-added : (xs : List X) (n : ℕ) (last y : X) → in_order before xs ≡ true → suc n ≡ length xs → last ≡ get_or xs n last
        → before last y ≡ true → in_order before (xs ++ y ∷ []) ≡ true
    in_order-added [] n last y ordered long is its = absurd (let none : suc n ≡ 0 = long in omega arith)
    in_order-added (x ∷ []) zero last y ordered long is its =
        let joined : before x y ≡ true = ap (λ e. before e y) (sym is) ∙ its in
        and_of (before x y && true) true (and_of (before x y) true joined refl) refl
    in_order-added (x ∷ []) (suc n) last y ordered long is its = absurd (let one : suc (suc n) ≡ 1 = long in omega arith)
    in_order-added (x ∷ other ∷ xs) zero last y ordered long is its = absurd (let two : 1 ≡ suc (suc (length xs)) = long in omega arith)
    in_order-added (x ∷ other ∷ xs) (suc n) last y ordered long is its =
        let rest = other ∷ xs in
        let parts = both (list_all (before x) (other ∷ xs)) (in_order before (other ∷ xs)) ordered in
        let shorter : suc n ≡ length (other ∷ xs) = let whole : suc (suc n) ≡ suc (length (other ∷ xs)) = long in omega arith in
        let there : before x (get_or (other ∷ xs) n last) ≡ true = all_at x (other ∷ xs) n last parts.0 (omega (arith, shorter)) in
        let first : before x last ≡ true = ap (before x) is ∙ there in
        and_of (list_all (before x) ((other ∷ xs) ++ y ∷ [])) (in_order before ((other ∷ xs) ++ y ∷ []))
        (all_added x (other ∷ xs) y parts.0 (joins x last y first its))
        (in_order-added (other ∷ xs) n last y parts.1 shorter is its)

  -- ---- the first that passes is marked or taken out

  module _ (mark : X → X) (stays test : X → Bool) (is_left : (x : X) → before (mark x) ≡ before x)
      (is_right : (z x : X) → before z (mark x) ≡ before z x) where
    abbrev marked : X → List X
    marked x = cond (stays x) (mark x ∷ []) []

    all_one : (is_first its : Bool) (z x : X) (xs rest : List X)
        → before z x ≡ true → list_all (before z) xs ≡ true → list_all (before z) rest ≡ true
        → list_all (before z) (cond is_first (cond its (mark x ∷ []) [] ++ xs) (x ∷ rest)) ≡ true
    all_one true true z x xs rest one all more = and_of (before z (mark x)) (list_all (before z) xs) (is_right z x ∙ one) all
    all_one true false z x xs rest one all more = all
    all_one false its z x xs rest one all more = and_of (before z x) (list_all (before z) rest) one more

    all_marked : (z : X) (xs : List X) → list_all (before z) xs ≡ true → list_all (before z) (with_first test marked xs) ≡ true
    all_marked z [] all = refl
    all_marked z (x ∷ xs) all =
        let parts = both (before z x) (list_all (before z) xs) all in
        all_one (test x) (stays x) z x xs (with_first test marked xs) parts.0 parts.1 (all_marked z xs parts.1)

    one_marked : (is_first its : Bool) (x : X) (xs rest : List X)
        → list_all (before x) xs ≡ true → in_order before xs ≡ true → list_all (before x) rest ≡ true → in_order before rest ≡ true
        → in_order before (cond is_first (cond its (mark x ∷ []) [] ++ xs) (x ∷ rest)) ≡ true
    one_marked true true x xs rest all ordered alike more =
        and_of (list_all (before (mark x)) xs) (in_order before xs) (ap (λ f. list_all f xs) (is_left x) ∙ all) ordered
    one_marked true false x xs rest all ordered alike more = ordered
    one_marked false its x xs rest all ordered alike more = and_of (list_all (before x) rest) (in_order before rest) alike more

    pub in_order-with_first : (xs : List X) → in_order before xs ≡ true → in_order before (with_first test marked xs) ≡ true
    in_order-with_first [] ordered = refl
    in_order-with_first (x ∷ xs) ordered =
        let parts = both (list_all (before x) xs) (in_order before xs) ordered in
        one_marked (test x) (stays x) x xs (with_first test marked xs) parts.0 parts.1 (all_marked x xs parts.0)
        (in_order-with_first xs parts.1)
