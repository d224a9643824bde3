-- Who is among places, and what is put into a bucket.
use Rattle.std.proofs.Common.{◌≡◌, ◌≢◌, ◌<◌, ◌+◌, ◌%◌, ◌++◌, ◌∷◌, ◌||◌, ◌∙◌, ℕ, Bool, true, false, List, [], length, get_or, map, set}
use Rattle.std.proofs.Common.{take}
use Rattle.std.proofs.Common.{refl, sym, ap, subst, arith, ◌==◌, zero, suc}
use Rattle.std.specs.List.{Contains}
use Rattle.std.proofs.lemmas.Bool.Decides.{Decides-eqb}
use Rattle.std.proofs.lemmas.List.{get_or-map, get_or-set_same, get_or-set_other, length-set}
use Rattle.std.proofs.lemmas.List.Folds.{list_any_at, list_any-append, list_any_more, Any-from_list_any}
use Rattle.std.specs.Prelude.{Vec}
use Rattle.zk_follow.specs.declared.places.Places.{Places}
use Rattle.zk_follow.specs.Following.{is_among}
use Rattle.zk_follow.specs.Places.{has_place, places_of}

pub among-contains : (place : ℕ) (places : List ℕ) → is_among place places ≡ true → Contains places place
among-contains place places e =
    let any = Any-from_list_any (λ its. place == its) places e in
    let same : place ≡ any.1 = (Decides-eqb place any.1).0 any.4 in
    (any.0, any.2, subst (λ p. get_or places any.0 p ≡ p) (sym same) any.3)

pub contains-among : (place : ℕ) (places : List ℕ) → Contains places place → is_among place places ≡ true
contains-among place places has =
    list_any_at (λ its. place == its) places has.0 place has.1 ((Decides-eqb place (get_or places has.0 place)).1 (sym has.2))

or_true : (b : Bool) → (b || true) ≡ true
or_true true = refl
or_true false = refl

pub or_cases : (a b : Bool) → (a || b) ≡ true → a ≡ false → b ≡ true
or_cases true b e f = absurd cc
or_cases false b e f = e

-- one more is among them, and those that were
pub among_none : (place : ℕ) (places : List ℕ) → length places ≡ 0 → is_among place places ≡ false
among_none place [] e = refl
among_none place (first ∷ places) e = absurd cc

pub among_last : (place : ℕ) (places : List ℕ) → is_among place (places ++ place ∷ []) ≡ true
among_last place places =
    list_any-append (λ its. place == its) places (place ∷ [])
    ∙ ap (λ b. is_among place places || (b || false)) ((Decides-eqb place place).1 refl) ∙ or_true (is_among place places)

pub among_before : (place other : ℕ) (places : List ℕ) → is_among place places ≡ true → is_among place (places ++ other ∷ []) ≡ true
among_before place other places e =
    list_any-append (λ its. place == its) places (other ∷ []) ∙ ap (λ b. b || is_among place (other ∷ [])) e

-- what is added stays, and what was there
pub among_more : (at place : ℕ) (places : List ℕ) → (is_among at places || at == place) ≡ true → is_among at (places ++ place ∷ []) ≡ true
among_more at place places e =
    list_any-append (λ its. at == its) places (place ∷ [])
    ∙ by (is_among at places) (at == place) e
  where
    by : (a b : Bool) → (a || b) ≡ true → (a || (b || false)) ≡ true
    by true b e = refl
    by false true e = refl
    by false false e = absurd cc

-- who is not that one was there
pub not_it : (at place : ℕ) (places : List ℕ) → at < place → (is_among at places || at == place) ≡ true → is_among at places ≡ true
not_it at place places less e = by (is_among at places) (at == place) refl e
  where
    by : (a b : Bool) → (at == place) ≡ b → (a || b) ≡ true → a ≡ true
    by true b f e = refl
    by false true f e = absurd (let is : at ≡ place = (Decides-eqb at place).0 f in omega arith)
    by false false f e = absurd cc

-- who was there, and who is added
pub or_first : (at place : ℕ) (places : List ℕ) → is_among at places ≡ true → (is_among at places || at == place) ≡ true
or_first at place places e = ap (λ b. b || at == place) e

pub or_last : (place : ℕ) (places : List ℕ) → (is_among place places || place == place) ≡ true
or_last place places = ap (λ b. is_among place places || b) ((Decides-eqb place place).1 refl) ∙ or_true (is_among place places)

-- one more of a list is gone over
pub one_more : (at : ℕ) (first all places : List ℕ) (index : ℕ) → index < length places
    → ((is_among at first || is_among at (take index places)) ≡ true → is_among at all ≡ true)
    → (is_among at first || is_among at (take (index + 1) places)) ≡ true → (is_among at all || at == get_or places index 0) ≡ true
one_more at first all places index within had e =
    by (is_among at first) (is_among at (take index places)) (at == get_or places index 0) had
    (sym (ap (λ b. is_among at first || b) more) ∙ e)
  where
    more : is_among at (take (index + 1) places) ≡ (is_among at (take index places) || at == get_or places index 0)
    more = list_any_more (λ its. at == its) places index 0 within

    by : (f b c : Bool) → ((f || b) ≡ true → is_among at all ≡ true) → (f || (b || c)) ≡ true → (is_among at all || c) ≡ true
    by true b c had e = ap (λ a. a || c) (had refl)
    by false true c had e = ap (λ a. a || c) (had refl)
    by false false true had e = or_true (is_among at all)
    by false false false had e = absurd cc

-- ---- buckets

-- who has a place by a key is in the bucket of that key
pub in_bucket : {A : Type 0} (keys : Places A) (key place : ℕ) (bucket : List ℕ)
    → bucket ≡ places_of keys.buckets.items (key % length keys.buckets.items) → has_place keys key place ≡ true
    → is_among place bucket ≡ true
in_bucket keys key place bucket is has = ap (is_among place) is ∙ has

module _ {A : Type 0} (buckets : List (Vec ℕ A)) (slot : ℕ) (old new : Vec ℕ A) (place : ℕ) (fits : slot < length buckets)
    (more : new.items ≡ (get_or buckets slot old).items ++ place ∷ []) where
  here : places_of (set buckets slot new) slot ≡ (get_or buckets slot old).items ++ place ∷ []
  here =
      let size : length (set buckets slot new) ≡ length buckets = length-set buckets slot new in
      get_or-map (λ (bucket : Vec ℕ A). bucket.items) (set buckets slot new) slot new [] (omega (arith, size, fits))
      ∙ ap (λ (bucket : Vec ℕ A). bucket.items) (get_or-set_same buckets slot new new fits) ∙ more

  pub put_here : is_among place (places_of (set buckets slot new) slot) ≡ true
  put_here = ap (is_among place) here ∙ among_last place (get_or buckets slot old).items

  map_set : (all : List (Vec ℕ A)) (i : ℕ)
      → map (λ bucket. bucket.items) (set all i new) ≡ set (map (λ bucket. bucket.items) all) i new.items
  map_set [] i = refl
  map_set (b ∷ all) zero = refl
  map_set (b ∷ all) (suc i) = ap (λ more. b.items ∷ more) (map_set all i)

  pub put_kept : (other at : ℕ) → is_among at (places_of buckets other) ≡ true → is_among at (places_of (set buckets slot new) other) ≡ true
  put_kept other at e = by (other == slot) refl
    where
      by : (same : Bool) → (other == slot) ≡ same → is_among at (places_of (set buckets slot new) other) ≡ true
      by true f =
          let is : other ≡ slot = (Decides-eqb other slot).0 f in
          let was : places_of buckets other ≡ (get_or buckets slot old).items =
          ap (places_of buckets) is ∙ get_or-map (λ (bucket : Vec ℕ A). bucket.items) buckets slot old [] fits in
          ap (λ n. is_among at (places_of (set buckets slot new) n)) is ∙ ap (is_among at) here
          ∙ among_before at place (get_or buckets slot old).items (sym (ap (is_among at) was) ∙ e)
      by false f =
          let differs : other ≢ slot = λ is. let t : (other == slot) ≡ true = (Decides-eqb other slot).1 is in cc in
          ap (λ all. is_among at (get_or all other [])) (map_set buckets slot)
          ∙ ap (is_among at) (get_or-set_other (map (λ (bucket : Vec ℕ A). bucket.items) buckets) slot other new.items [] differs) ∙ e
