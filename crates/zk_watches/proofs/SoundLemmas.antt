-- Each call keeps the lists of a registry sound.
use Rattle.std.proofs.Common.{◌≡◌, ℕ, ◌+◌, ◌<◌, ◌≤◌, Bool, true, false, not, cond, ◌||◌, List, [], ◌∷◌, ◌++◌, length, filter, All, ◌⊎◌, inl}
use Rattle.std.proofs.Common.{inr, bytes_eq, refl, sym, ap, subst, ◌∙◌, if◌then◌else◌, true≢false, arith, length-append, Option, Some, None}
use Rattle.std.proofs.Common.{option_map, is_some}
use Rattle.std.specs.List.{IsDistinct, AllByRecursion}
use Rattle.std.proofs.lemmas.Slice.Eq.{bytes_eq-Decides}
use Rattle.std.proofs.lemmas.Map.Keys.{IsDistinct-head, IsDistinct-tail, IsDistinct-cons, IsDistinct-push}
use Rattle.std.proofs.lemmas.Map.Views.{any-filter_same}
use Rattle.std.proofs.lemmas.List.Folds.{list_any-append}
use Rattle.std.proofs.lemmas.List.Elements.{All-filter, All-push}
use Rattle.std.proofs.lemmas.Cmp.{nat_list_eq_equiv}
use Rattle.zk_nodes.specs.declared.side.Side.TheVariants.{Data, Child}
use Rattle.zk_watches.specs.Lists.{Lists, has, with_path, without, side_has, count_of, registered, IsSound}
use Rattle.zk_watches.proofs.RowLemmas.{without-none}
use Rattle.zk_limits.specs.declared.limits.TheConstants.{LONGEST_PATH, MOST_PATHS}

-- a filter keeps what each element is apart from
apart-filter : (R : List ℕ → Type 0) (test : List ℕ → Bool) (xs : List (List ℕ)) → AllByRecursion R xs → AllByRecursion R (filter test xs)
apart-filter R test [] h = tt
apart-filter R test (x ∷ xs) h = by (test x) (apart-filter R test xs h.1)
  where
    by : (b : Bool) → AllByRecursion R (filter test xs) → AllByRecursion R (cond b (x ∷ filter test xs) (filter test xs))
    by true below = (h.0, below)
    by false below = below

distinct-filter : (test : List ℕ → Bool) (xs : List (List ℕ)) → IsDistinct bytes_eq xs → IsDistinct bytes_eq (filter test xs)
distinct-filter test [] d = d
distinct-filter test (x ∷ xs) d = by (test x) (distinct-filter test xs (IsDistinct-tail bytes_eq x xs d))
  where
    by : (b : Bool) → IsDistinct bytes_eq (filter test xs) → IsDistinct bytes_eq (cond b (x ∷ filter test xs) (filter test xs))
    by true below = IsDistinct-cons bytes_eq x (filter test xs)
        (apart-filter (λ y. bytes_eq x y ≡ false) test xs (IsDistinct-head bytes_eq x xs d)) below
    by false below = below

length-without-le : (paths : List (List ℕ)) (path : List ℕ) → length (without paths path) ≤ length paths
length-without-le [] path = omega arith
length-without-le (x ∷ xs) path = by (bytes_eq path x) (length-without-le xs path)
  where
    by : (b : Bool) → length (without xs path) ≤ length xs → length (cond (not b) (x ∷ without xs path) (without xs path)) ≤ length (x ∷ xs)
    by true h = omega arith
    by false h = omega arith

length-without-less : (paths : List (List ℕ)) (path : List ℕ) → has paths path ≡ true → length (without paths path) < length paths
length-without-less [] path h = absurd (true≢false (sym h))
length-without-less (x ∷ xs) path h = by (bytes_eq path x) h (length-without-less xs path) (length-without-le xs path)
  where
    by : (b : Bool) → (b || has xs path) ≡ true → (has xs path ≡ true → length (without xs path) < length xs)
        → length (without xs path) ≤ length xs
        → length (cond (not b) (x ∷ without xs path) (without xs path)) < length (x ∷ xs)
    by true there below le = omega arith
    by false there below le = let less = below there in omega arith

-- a path that was taken out is gone
pub has-without_same : (paths : List (List ℕ)) (path : List ℕ) → has (without paths path) path ≡ false
has-without_same paths path = any-filter_same (bytes_eq path) (λ other. not (bytes_eq path other)) false (λ k e. ap not e) paths

or_left : (a b : Bool) → (a || b) ≡ false → a ≡ false
or_left true b h = h
or_left false b h = refl

or_right : (a b : Bool) → (a || b) ≡ false → b ≡ false
or_right true b h = absurd (true≢false h)
or_right false b h = h

-- and no other comes in
pub has-without_less : (paths : List (List ℕ)) (path other : List ℕ) → has paths other ≡ false → has (without paths path) other ≡ false
has-without_less [] path other h = h
has-without_less (x ∷ xs) path other h = by (bytes_eq path x) (or_left (bytes_eq other x) (has xs other) h)
    (has-without_less xs path other (or_right (bytes_eq other x) (has xs other) h))
  where
    by : (b : Bool) → bytes_eq other x ≡ false → has (without xs path) other ≡ false
        → has (cond (not b) (x ∷ without xs path) (without xs path)) other ≡ false
    by true e f = f
    by false e f = ap (λ c. c || has (without xs path) other) e ∙ f

-- what is in a list with one more path
pub has-with_path_cases : (paths : List (List ℕ)) (path other : List ℕ)
    → has (with_path paths path) other ≡ true → (has paths other ≡ true) ⊎ (other ≡ path)
has-with_path_cases paths path other = by (has paths path)
  where
    split : (a b : Bool) → (b ≡ true → other ≡ path) → (a || (b || false)) ≡ true → (a ≡ true) ⊎ (other ≡ path)
    split true b same h = inl refl
    split false true same h = inr (same refl)
    split false false same h = absurd (true≢false (sym h))

    by : (b : Bool) → has (if b then paths else paths ++ path ∷ []) other ≡ true → (has paths other ≡ true) ⊎ (other ≡ path)
    by true h = inl h
    by false h = split (has paths other) (bytes_eq other path)
        (bytes_eq-Decides other path).0 (sym (list_any-append (bytes_eq other) paths (path ∷ [])) ∙ h)

module _ (path : List ℕ) where
  distinct-with_path : (paths : List (List ℕ)) → IsDistinct bytes_eq paths → IsDistinct bytes_eq (with_path paths path)
  distinct-with_path paths d = by (has paths path) refl
    where
      by : (b : Bool) → has paths path ≡ b → IsDistinct bytes_eq (if b then paths else paths ++ path ∷ [])
      by true e = d
      by false e = IsDistinct-push nat_list_eq_equiv paths path d e

  short-with_path : (paths : List (List ℕ))
      → length path ≤ LONGEST_PATH → All (λ p. length p ≤ LONGEST_PATH) paths → All (λ p. length p ≤ LONGEST_PATH) (with_path paths path)
  short-with_path paths short all = by (has paths path)
    where
      by : (b : Bool) → All (λ p. length p ≤ LONGEST_PATH) (if b then paths else paths ++ path ∷ [])
      by true = all
      by false = All-push (λ p. length p ≤ LONGEST_PATH) paths path all short

  length-with_path : (paths : List (List ℕ)) → length (with_path paths path) ≡ length paths + (if has paths path then 0 else 1)
  length-with_path paths = by (has paths path)
    where
      by : (b : Bool) → length (if b then paths else paths ++ path ∷ []) ≡ length paths + (if b then 0 else 1)
      by true = omega arith
      by false = omega (arith, length-append paths (path ∷ []))

  room : (xs ys : List (List ℕ))
      → length xs + length ys ≤ MOST_PATHS → ((has xs path || has ys path) ≡ false → length xs + length ys < MOST_PATHS)
      → length (with_path xs path) + length (without ys path) ≤ MOST_PATHS
  room xs ys most some = by (has xs path) (has ys path) refl refl (length-with_path xs)
    where
      by : (a b : Bool) → has xs path ≡ a → has ys path ≡ b → length (with_path xs path) ≡ length xs + (if a then 0 else 1)
          → length (with_path xs path) + length (without ys path) ≤ MOST_PATHS
      by true b p q e = omega (arith, length-without-le ys path)
      by false true p q e = omega (arith, length-without-less ys path q)
      by false false p q e = let less = some (ap (λ a. a || has ys path) p ∙ q) in omega (arith, length-without-le ys path)

-- the two lists of side Data have no path in common after a path comes into the one and leaves the other
apart-moved : (xs ys : List (List ℕ)) (path : List ℕ) → ((p : List ℕ) → has xs p ≡ true → has ys p ≡ false) → (p : List ℕ)
    → has (with_path xs path) p ≡ true → has (without ys path) p ≡ false
apart-moved xs ys path apart p h =
    elim (has-with_path_cases xs path p h) as (λ _. has (without ys path) p ≡ false) [
      | inl e ↦ has-without_less ys path p (apart p e)
      | inr e ↦ subst (λ q. has (without ys path) q ≡ false) (sym e) (has-without_same ys path)
    ]

-- `apart` reads both ways
apart-swap : (xs ys : List (List ℕ)) → ((p : List ℕ) → has xs p ≡ true → has ys p ≡ false) → (p : List ℕ)
    → has ys p ≡ true → has xs p ≡ false
apart-swap xs ys apart p h = by (has xs p) refl
  where
    by : (b : Bool) → has xs p ≡ b → b ≡ false
    by true e = absurd (true≢false (sym h ∙ apart p e))
    by false e = refl

or_swap : (a b : Bool) → (a || b) ≡ (b || a)
or_swap true true = refl
or_swap true false = refl
or_swap false true = refl
or_swap false false = refl

module _ (l : Lists) (path : List ℕ) (s : IsSound l) where
  -- a path that is in the one list of side Data is not in the other
  pub exist-same : has l.data_watches path ≡ true → without l.exist_watches path ≡ l.exist_watches
  exist-same h = without-none l.exist_watches path (s.apart path h)

  pub data-same : has l.exist_watches path ≡ true → without l.data_watches path ≡ l.data_watches
  data-same h = without-none l.data_watches path (apart-swap l.data_watches l.exist_watches s.apart path h)

  -- a path that was found there comes to side Data
  pub sound-there : (side_has l Data path ≡ false → count_of l Data < MOST_PATHS)
      → length path ≤ LONGEST_PATH → IsSound (registered l Data true path)
  sound-there some short = record {
    data_distinct = distinct-with_path path l.data_watches s.data_distinct;
    exist_distinct = distinct-filter (λ other. not (bytes_eq path other)) l.exist_watches s.exist_distinct;
    child_distinct = s.child_distinct;
    apart = apart-moved l.data_watches l.exist_watches path s.apart;
    data_room = room path l.data_watches l.exist_watches s.data_room some;
    child_room = s.child_room;
    data_short = short-with_path path l.data_watches short s.data_short;
    exist_short = All-filter (λ other. not (bytes_eq path other)) (λ p. length p ≤ LONGEST_PATH) l.exist_watches s.exist_short;
    child_short = s.child_short;
  }

  -- one that was found absent
  pub sound-absent : (side_has l Data path ≡ false → count_of l Data < MOST_PATHS)
      → length path ≤ LONGEST_PATH → IsSound (registered l Data false path)
  sound-absent some short = record {
    data_distinct = distinct-filter (λ other. not (bytes_eq path other)) l.data_watches s.data_distinct;
    exist_distinct = distinct-with_path path l.exist_watches s.exist_distinct;
    child_distinct = s.child_distinct;
    apart = apart-swap (with_path l.exist_watches path) (without l.data_watches path)
        (apart-moved l.exist_watches l.data_watches path (apart-swap l.data_watches l.exist_watches s.apart));
    data_room =
        let turned : length (with_path l.exist_watches path) + length (without l.data_watches path) ≤ MOST_PATHS =
        room path l.exist_watches l.data_watches (let h = s.data_room in omega arith)
        (λ e. let less = some (or_swap (has l.data_watches path) (has l.exist_watches path) ∙ e) in omega arith) in
        omega arith;
    child_room = s.child_room;
    data_short = All-filter (λ other. not (bytes_eq path other)) (λ p. length p ≤ LONGEST_PATH) l.data_watches s.data_short;
    exist_short = short-with_path path l.exist_watches short s.exist_short;
    child_short = s.child_short;
  }

  -- one that comes to side Child
  pub sound-child : (has l.child_watches path ≡ false → length l.child_watches < MOST_PATHS) → length path ≤ LONGEST_PATH → (b : Bool)
      → IsSound (registered l Child b path)
  sound-child some short b = record {
    data_distinct = s.data_distinct;
    exist_distinct = s.exist_distinct;
    child_distinct = distinct-with_path path l.child_watches s.child_distinct;
    apart = s.apart;
    data_room = s.data_room;
    child_room =
        let most = room path l.child_watches [] (let h = s.child_room in omega arith)
        (λ e. let less = some (or_left (has l.child_watches path) false e) in omega arith) in
        omega arith;
    data_short = s.data_short;
    exist_short = s.exist_short;
    child_short = short-with_path path l.child_watches short s.child_short;
  }

  -- side Data fires
  pub sound-data_fired : IsSound
      (record { data_watches = without l.data_watches path; exist_watches = without l.exist_watches path; child_watches = l.child_watches })
  sound-data_fired = record {
    data_distinct = distinct-filter (λ other. not (bytes_eq path other)) l.data_watches s.data_distinct;
    exist_distinct = distinct-filter (λ other. not (bytes_eq path other)) l.exist_watches s.exist_distinct;
    child_distinct = s.child_distinct;
    apart = λ p h. has-without_less l.exist_watches path p (s.apart p (stays (has l.data_watches p) p refl h));
    data_room = omega (arith, s.data_room, length-without-le l.data_watches path, length-without-le l.exist_watches path);
    child_room = s.child_room;
    data_short = All-filter (λ other. not (bytes_eq path other)) (λ p. length p ≤ LONGEST_PATH) l.data_watches s.data_short;
    exist_short = All-filter (λ other. not (bytes_eq path other)) (λ p. length p ≤ LONGEST_PATH) l.exist_watches s.exist_short;
    child_short = s.child_short;
  }
    where
      stays : (b : Bool) (p : List ℕ) → has l.data_watches p ≡ b → has (without l.data_watches path) p ≡ true → b ≡ true
      stays true p e h = refl
      stays false p e h = absurd (true≢false (sym h ∙ has-without_less l.data_watches path p e))

  -- side Child fires
  pub sound-child_fired : IsSound
      (record { data_watches = l.data_watches; exist_watches = l.exist_watches; child_watches = without l.child_watches path })
  sound-child_fired = record {
    data_distinct = s.data_distinct;
    exist_distinct = s.exist_distinct;
    child_distinct = distinct-filter (λ other. not (bytes_eq path other)) l.child_watches s.child_distinct;
    apart = s.apart;
    data_room = s.data_room;
    child_room = omega (arith, s.child_room, length-without-le l.child_watches path);
    data_short = s.data_short;
    exist_short = s.exist_short;
    child_short = All-filter (λ other. not (bytes_eq path other)) (λ p. length p ≤ LONGEST_PATH) l.child_watches s.child_short;
  }

-- no lists
pub sound-none : IsSound (record { data_watches = []; exist_watches = []; child_watches = [] })
unfolding IsDistinct
sound-none = record {
  data_distinct = tt;
  exist_distinct = tt;
  child_distinct = tt;
  apart = λ p h. refl;
  data_room = omega arith;
  child_room = omega arith;
  data_short = λ k d h. absurd (omega arith);
  exist_short = λ k d h. absurd (omega arith);
  child_short = λ k d h. absurd (omega arith);
}

-- what is taken out of a list was there
pub was_there : {X : Type 0} (f : X → List ℕ) (taken : Option X) (x : X) (there : Bool) (text : List ℕ)
    → option_map f taken ≡ (if there then Some text else None) → taken ≡ Some x → there ≡ true
was_there f taken x true text told is = refl
was_there f taken x false text told is = absurd (true≢false (ap is_some (sym (ap (option_map f) is) ∙ told)))
