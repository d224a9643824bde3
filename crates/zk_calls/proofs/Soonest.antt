-- How many calls have each limit, and so which limit is the first: it is that of a call, and no call has one before it.
use Rattle.std.proofs.Common.{◌≡◌, ◌<◌, ◌≤◌, ◌+◌, ◌++◌, ◌∷◌, ◌==◌, ◌∙◌, ℕ, Bool, true, false, cond, not, List, [], Option, Some, None}
use Rattle.std.proofs.Common.{length, get_or, take, drop, fold, refl, sym, ap, arith, inl, inr}
use Rattle.std.specs.Prelude.{◌⊎◌, ⊤, is_some, IsSome}
use Rattle.std.specs.BTreeMap.{get, is_at, BTreeMap}
use Rattle.std.specs.List.{count_by}
use Rattle.std.specs.Map.{lookup}
use Rattle.std.specs.Ordering.{nat_cmp}
use Rattle.std.proofs.lemmas.Bool.Decides.{nat_tests}
use Rattle.std.proofs.lemmas.List.{drop_all, take_more}
use Rattle.std.proofs.lemmas.List.Elements.{filter-append}
use Rattle.std.proofs.lemmas.List.Sums.{sum_by-cons, sum_by-append, sum_by-drop_more}
use Rattle.zk_calls.specs.declared.entry.Entry.{Entry}
use Rattle.zk_calls.specs.declared.entry.Ending.{Ending}
use Rattle.zk_calls.specs.Lines.{first_limit, first_of, is_ended, left}
use Rattle.zk_calls.specs.Orders.{calls_of, is_limit}

-- ---- counts

abbrev pub one : (limit : ℕ) → Option ℕ → ℕ
one limit until = cond (is_limit limit until) 1 0

abbrev pub many : {A : Type 0} → (limit : ℕ) → List (Entry A) → ℕ
many limit entries = count_by (λ entry. is_limit limit entry.until) entries

pub many_more : {A : Type 0} (limit : ℕ) (entry : Entry A) (entries : List (Entry A))
    → many limit (entry ∷ entries) ≡ one limit entry.until + many limit entries
many_more limit entry entries = sum_by-cons (λ e. one limit e.until) entry entries

pub one_at : (limit : ℕ) (until : Option ℕ) → until ≡ Some limit → one limit until ≡ 1
one_at limit until is = ap (one limit) is ∙ ap (λ b. cond b 1 0) same
  where
    same : (limit == limit) ≡ true
    same = grind (arith, nat_tests)

-- ---- the first

-- no moment that there is comes before this one
abbrev IsOver : ℕ → Option ℕ → Type 0
IsOver first None = ⊤
IsOver first (Some limit) = first ≤ limit

abbrev AreOver : {A : Type 0} → ℕ → List (Entry A) → Type 0
AreOver first [] = ⊤
AreOver first (entry ∷ entries) = IsOver first entry.until × AreOver first entries

-- a call waits until then
abbrev IsOfOne : {A : Type 0} → ℕ → List (Entry A) → Type 0
IsOfOne first [] = ⊥
IsOfOne first (entry ∷ entries) = (entry.until ≡ Some first) ⊎ IsOfOne first entries

over_both : (first : ℕ) (a b : Option ℕ) → IsOver first a → IsOver first b → IsOver first (first_of a b)
over_both first None b over other = other
over_both first (Some a) None over other = over
over_both first (Some a) (Some b) over other = omega (arith, over, other)

stays : (first : ℕ) (other : Option ℕ) → IsOver first other → first_of (Some first) other ≡ Some first
stays first None over = refl
stays first (Some other) over = ap Some (omega (arith, over))

comes : (first : ℕ) (other : Option ℕ) → IsOver first other → first_of other (Some first) ≡ Some first
comes first None over = refl
comes first (Some other) over = ap Some (omega (arith, over))

first_from : {A : Type 0} (first : ℕ) (so_far : Option ℕ) (entries : List (Entry A)) → IsOver first so_far → AreOver first entries
    → (so_far ≡ Some first) ⊎ IsOfOne first entries → fold (λ f entry. first_of f entry.until) so_far entries ≡ Some first
first_from first so_far [] over all (inl is) = is
first_from first so_far [] over all (inr none) = absurd none
first_from first so_far (entry ∷ entries) over all (inl is) =
    first_from first (first_of so_far entry.until) entries (over_both first so_far entry.until over all.0) all.1
    (inl (ap (λ f. first_of f entry.until) is ∙ stays first entry.until all.0))
first_from first so_far (entry ∷ entries) over all (inr (inl is)) =
    first_from first (first_of so_far entry.until) entries (over_both first so_far entry.until over all.0) all.1
    (inl (ap (first_of so_far) is ∙ comes first so_far over))
first_from first so_far (entry ∷ entries) over all (inr (inr more)) =
    first_from first (first_of so_far entry.until) entries (over_both first so_far entry.until over all.0) all.1 (inr more)

over_one : (first : ℕ) (until : Option ℕ) → ((limit : ℕ) → 0 < one limit until → first ≤ limit) → IsOver first until
over_one first None over = tt
over_one first (Some limit) over =
    over limit (let is : one limit (Some limit) ≡ 1 = one_at limit (Some limit) refl in omega (arith, is))

all_over : {A : Type 0} (first : ℕ) (entries : List (Entry A)) → ((limit : ℕ) → 0 < many limit entries → first ≤ limit)
    → AreOver first entries
all_over first [] over = tt
all_over first (entry ∷ entries) over = (
  over_one first entry.until (λ limit some. over limit (omega (arith, some, many_more limit entry entries))),
  all_over first entries (λ limit some. over limit (omega (arith, some, many_more limit entry entries))),
)

is_its : (limit : ℕ) (until : Option ℕ) (is : Bool) → is_limit limit until ≡ is → (until ≡ Some limit) ⊎ (one limit until ≡ 0)
is_its limit None is e = inr refl
is_its limit (Some other) true e = inl (ap Some (let same : (other == limit) ≡ true = e in grind (arith, nat_tests)))
is_its limit (Some other) false e = inr (ap (λ b. cond b 1 0) e)

of_one : {A : Type 0} (first : ℕ) (entries : List (Entry A)) → 0 < many first entries → IsOfOne first entries
of_one first [] some = absurd (let none : 0 < 0 = some in omega arith)
of_one first (entry ∷ entries) some = by (is_its first entry.until (is_limit first entry.until) refl) (of_one first entries)
  where
    by : (entry.until ≡ Some first) ⊎ (one first entry.until ≡ 0) → (0 < many first entries → IsOfOne first entries)
        → (entry.until ≡ Some first) ⊎ IsOfOne first entries
    by (inl is) rest = inl is
    by (inr none) rest = inr (rest (omega (arith, some, none, many_more first entry entries)))

pub first_some : {A : Type 0} (first : ℕ) (entries : List (Entry A)) → 0 < many first entries
    → ((limit : ℕ) → 0 < many limit entries → first ≤ limit) → Some first ≡ first_limit entries
first_some first entries some over = sym (first_from first None entries tt (all_over first entries over) (inr (of_one first entries some)))

no_limit : (until : Option ℕ) → ((limit : ℕ) → one limit until ≡ 0) → until ≡ None
no_limit None none = refl
no_limit (Some limit) none =
    absurd (let is : one limit (Some limit) ≡ 1 = one_at limit (Some limit) refl in let zero : one limit (Some limit) ≡ 0 = none limit in
    omega (arith, is, zero))

pub first_none : {A : Type 0} (entries : List (Entry A)) → ((limit : ℕ) → many limit entries ≡ 0) → None ≡ first_limit entries
first_none [] none = refl
first_none (entry ∷ entries) none =
    first_none entries (λ limit. omega (arith, none limit, many_more limit entry entries))
    ∙ ap (λ until. fold (λ f e. first_of f e.until) until entries)
    (sym (no_limit entry.until (λ limit. omega (arith, none limit, many_more limit entry entries))))

-- ---- a map of limits

pub is_some_of : (more : Option ℕ) → 0 < calls_of more → IsSome more
is_some_of None some = absurd (let none : 0 < 0 = some in omega arith)
is_some_of (Some more) some = refl

empty : {X : Type 0} (xs : List X) → (0 < length xs → ⊥) → xs ≡ []
empty [] none = refl
empty (x ∷ xs) none = absurd (none (omega arith))

not_some : {X : Type 0} (result : Option X) → result ≡ None → IsSome result → ⊥
not_some result is some = let wrong : false ≡ true = ap is_some (sym is) ∙ some in cc

pub none_of : {X : Type 0} (more : BTreeMap ℕ ℕ) (limit : ℕ) (result : Option X) → (0 < length more.entries → IsSome result)
    → result ≡ None → calls_of (get nat_cmp more limit) ≡ 0
none_of more limit result some is =
    ap (λ es. calls_of (lookup (is_at (nat_cmp limit)) es)) (empty more.entries (λ entries. not_some result is (some entries)))

-- ---- some end

module _ {A : Type 0} (ending : Ending) (limit : ℕ) (entries : List (Entry A)) (place : ℕ) (entry : Entry A)
    (within : place < length entries) (is : entry ≡ get_or entries place entry) where
  pub rest_less : many limit (drop place entries) ≡ one limit entry.until + many limit (drop (place + 1) entries)
  rest_less =
      sum_by-drop_more (λ e. one limit e.until) entries place entry within
      ∙ ap (λ (e : Entry A). one limit e.until + many limit (drop (place + 1) entries)) (sym is)

  pub left_more : many limit (left ending (take (place + 1) entries))
      ≡ many limit (left ending (take place entries)) + cond (is_ended ending entry) 0 (one limit entry.until)
  left_more =
      ap (λ es. many limit (left ending es)) (take_more entries place entry within)
      ∙ ap (λ e. many limit (left ending (take place entries ++ e ∷ []))) (sym is)
      ∙ ap (many limit) (filter-append (λ e. not (is_ended ending e)) (take place entries) (entry ∷ []))
      ∙ sum_by-append (λ e. one limit e.until) (left ending (take place entries)) (left ending (entry ∷ []))
      ∙ ap (λ n. many limit (left ending (take place entries)) + n) (by (is_ended ending entry))
    where
      by : (ends : Bool) → many limit (cond (not ends) (entry ∷ []) []) ≡ cond ends 0 (one limit entry.until)
      by true = refl
      by false = let none : many {A = A} limit [] ≡ 0 = refl in omega (arith, many_more limit entry [], none)

module _ {A : Type 0} (ending : Ending) (limit : ℕ) (entries : List (Entry A)) (place : ℕ) (entry : Entry A)
    (within : place < length entries) (is : entry ≡ get_or entries place entry) where
  pub left_same : is_ended ending entry ≡ true
      → many limit (left ending (take (place + 1) entries)) ≡ many limit (left ending (take place entries))
  left_same ends =
      let more = left_more ending limit entries place entry within is in
      let none : cond (is_ended ending entry) 0 (one limit entry.until) ≡ 0 = ap (λ b. cond b 0 (one limit entry.until)) ends in
      omega (arith, more, none)

  pub left_one : is_ended ending entry ≡ false → many limit (left ending (take (place + 1) entries))
      ≡ many limit (left ending (take place entries)) + one limit entry.until
  left_one stays =
      left_more ending limit entries place entry within is
      ∙ ap (λ b. many limit (left ending (take place entries)) + cond b 0 (one limit entry.until)) stays

pub rest_none : {A : Type 0} (limit : ℕ) (entries : List (Entry A)) (place : ℕ) → length entries ≤ place
    → many limit (drop place entries) ≡ 0
rest_none limit entries place past = ap (many limit) (drop_all place entries past)
