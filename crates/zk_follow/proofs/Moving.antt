-- Places that are moved from a queue to others, one after the other: none is lost.
use Rattle.std.proofs.Common.{◌≡◌, ◌∙◌, ◌∷◌, ◌||◌, ℕ, Bool, true, false, List, [], refl, sym, ap}
use Rattle.std.specs.Prelude.{◌==◌}
use Rattle.zk_follow.specs.Following.{is_among}

-- one more is moved
pub moved_more : (at place : ℕ) (old waiting new more : List ℕ) → waiting ≡ place ∷ more
    → ((is_among at old || at == place) ≡ true → is_among at new ≡ true) → (is_among at old || is_among at waiting) ≡ true
    → (is_among at new || is_among at more) ≡ true
moved_more at place old waiting new more is had e =
    by (is_among at old) (at == place) (is_among at new) (is_among at more) had
    (sym (ap (λ all. is_among at old || is_among at all) is) ∙ e)
  where
    by : (a b n m : Bool) → ((a || b) ≡ true → n ≡ true) → (a || (b || m)) ≡ true → (n || m) ≡ true
    by true b n m had e = ap (λ x. x || m) (had refl)
    by false true n m had e = ap (λ x. x || m) (had refl)
    by false false true m had e = refl
    by false false false m had e = e

-- where none waits any more
pub all_moved : (at : ℕ) (all waiting : List ℕ) → waiting ≡ [] → (is_among at all || is_among at waiting) ≡ true → is_among at all ≡ true
all_moved at all waiting none e =
    by (is_among at all) (sym (ap (λ some. is_among at all || is_among at some) none) ∙ e)
  where
    by : (a : Bool) → (a || false) ≡ true → a ≡ true
    by true e = refl
    by false e = e

-- the same where one that is among others is passed over
pub rest_more : (at place : ℕ) (old waiting new more others : List ℕ) → waiting ≡ place ∷ more
    → ((is_among at old || at == place) ≡ true → (is_among at new || is_among at others) ≡ true)
    → ((is_among at old || is_among at others) || is_among at waiting) ≡ true
    → ((is_among at new || is_among at others) || is_among at more) ≡ true
rest_more at place old waiting new more others is had e =
    by (is_among at old) (is_among at others) (at == place) (is_among at new) (is_among at more) had
    (sym (ap (λ all. (is_among at old || is_among at others) || is_among at all) is) ∙ e)
  where
    by : (a o b n m : Bool) → ((a || b) ≡ true → (n || o) ≡ true) → ((a || o) || (b || m)) ≡ true → ((n || o) || m) ≡ true
    by true o b n m had e = ap (λ x. x || m) (had refl)
    by false true b true m had e = refl
    by false true b false m had e = refl
    by false false true n m had e = ap (λ x. x || m) (had refl)
    by false false false true m had e = refl
    by false false false false m had e = e

pub rest_all : (at : ℕ) (all others waiting : List ℕ) → waiting ≡ []
    → ((is_among at all || is_among at others) || is_among at waiting) ≡ true → (is_among at all || is_among at others) ≡ true
rest_all at all others waiting none e =
    by (is_among at all || is_among at others) (sym (ap (λ some. (is_among at all || is_among at others) || is_among at some) none) ∙ e)
  where
    by : (a : Bool) → (a || false) ≡ true → a ≡ true
    by true e = refl
    by false e = e

-- what waits is none of those yet
pub rest_first : (at : ℕ) (waiting all others : List ℕ) → is_among at waiting ≡ true
    → ((is_among at all || is_among at others) || is_among at waiting) ≡ true
rest_first at waiting all others e = ap (λ b. (is_among at all || is_among at others) || b) e ∙ by (is_among at all || is_among at others)
  where
    by : (a : Bool) → (a || true) ≡ true
    by true = refl
    by false = refl

-- either of two, in another order
pub in_order : (at : ℕ) (old new more : List ℕ) → (is_among at old ≡ true → is_among at new ≡ true)
    → (is_among at old || is_among at more) ≡ true → (is_among at new || is_among at more) ≡ true
in_order at old new more has e = by (is_among at old) (is_among at new) (is_among at more) has e
  where
    by : (a n m : Bool) → (a ≡ true → n ≡ true) → (a || m) ≡ true → (n || m) ≡ true
    by true n m has e = ap (λ x. x || m) (has refl)
    by false true m has e = refl
    by false false m has e = e

pub all_moved_to : (at : ℕ) (all waiting : List ℕ) → is_among at all ≡ true → (is_among at all || is_among at waiting) ≡ true
all_moved_to at all waiting e = ap (λ b. b || is_among at waiting) e

pub all_or : (at place : ℕ) (all : List ℕ) → is_among at all ≡ true → (is_among at all || at == place) ≡ true
all_or at place all e = ap (λ b. b || at == place) e

pub either_more : (at : ℕ) (old waiting new more : List ℕ) → (is_among at old ≡ true → is_among at new ≡ true)
    → (is_among at waiting ≡ true → is_among at more ≡ true) → (is_among at old || is_among at waiting) ≡ true
    → (is_among at new || is_among at more) ≡ true
either_more at old waiting new more had kept e = by (is_among at old) (is_among at waiting) (is_among at new) (is_among at more) had kept e
  where
    by : (a w n m : Bool) → (a ≡ true → n ≡ true) → (w ≡ true → m ≡ true) → (a || w) ≡ true → (n || m) ≡ true
    by true w n m had kept e = ap (λ x. x || m) (had refl)
    by false true true m had kept e = refl
    by false true false m had kept e = kept refl
    by false false n m had kept e = absurd cc
