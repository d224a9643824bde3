-- A walk that goes on, from one path to the next: at each step the children of the one at the place come after all others, so each path
-- comes once, behind its parent.
use Rattle.std.proofs.Common.{ℕ, zero, suc, ◌+◌, ◌-◌, ◌≡◌, ◌<◌, ◌≤◌, ◌⊎◌, inl, inr, true, List, [], ◌∷◌, ◌++◌, map, length, take, Option}
use Rattle.std.proofs.Common.{Some, None, refl, ap, sym, ◌∙◌, subst, arith}
use Rattle.std.proofs.lemmas.List.{length-append, length-map, append-nil}
use Rattle.std.proofs.Common.{append_assoc}
use Rattle.std.proofs.lemmas.List.{take-append-le}
use Rattle.std.specs.Prelude.{slice_get}
use Rattle.std.specs.List.{AllByRecursion}
use Rattle.std.specs.FinSet as set
use Rattle.zk_turns.specs.Meaning.{Among}
use Rattle.zk_turns.specs.View.{Cache}
use Rattle.zk_nodes.specs.Path.{Text, Name, NodePath, path_of, text_of, child_text}
use Rattle.zk_nodes.specs.PathFault.{IsPath}
use Rattle.zk_nodes.proofs.Children.{joined_path}
use Rattle.zk_nodes.proofs.PathLemmas.{IsPath-text}
use Rattle.zk_laws.proofs.Basics.{Among-left, Among-right}
use Rattle.zk_laws.proofs.Outputs.{among_split}
use Rattle.zk_cache.specs.Kept.{Names, good, as_good}
use Rattle.zk_conclusions.proofs.Truths.{there_at}
use Rattle.zk_conclusions.specs.Subtrees.{is_full_good, IsFull, IsKeptWhole, HasName, text_below, IsReached, IsWholeBelow, IsOneReached}
use Rattle.zk_conclusions.specs.Subtrees.{AreDistinct, HasMoreNodes}
use Rattle.zk_conclusions.specs.inner.Walks.{IsFine, HasChildren, HasTooMany}
use Rattle.zk_conclusions.specs.Walks.{HasParent, AreBehind, IsWalk}
use Rattle.zk_conclusions.proofs.Reached.{named, is_child}
use Rattle.zk_conclusions.proofs.Keeping.{full_there, fine_last}

-- Lists

pub all_among : {A : Type 0} (P : A → Type 0) (xs : List A) → AllByRecursion P xs → (x : A) → Among x xs → P x
all_among P [] all x there = absurd there
all_among P (y ∷ ys) all x (inl e) = subst P (sym e) all.0
all_among P (y ∷ ys) all x (inr there) = all_among P ys all.1 x there

pub among_map : {A B : Type 0} (f : A → B) (xs : List A) (x : A) → Among x xs → Among (f x) (map f xs)
among_map f [] x there = absurd there
among_map f (y ∷ ys) x (inl e) = inl (ap f e)
among_map f (y ∷ ys) x (inr there) = inr (among_map f ys x there)

pub map_among : {A B : Type 0} (f : A → B) (xs : List A) (y : B) → Among y (map f xs) → (x : A) × Among x xs × (y ≡ f x)
map_among f [] y there = absurd there
map_among f (x ∷ xs) y (inl e) = (x, inl refl, e)
map_among f (x ∷ xs) y (inr there) = let k = map_among f xs y there in (k.0, inr k.1, k.2)

among_some : (xs : List Text) (n : ℕ) (x : Text) → Among x (take n xs) → Among x xs
among_some [] zero x there = there
among_some [] (suc n) x there = there
among_some (y ∷ ys) zero x there = absurd there
among_some (y ∷ ys) (suc n) x (inl e) = inl e
among_some (y ∷ ys) (suc n) x (inr there) = inr (among_some ys n x there)

pub among_all : (xs : List Text) (n : ℕ) (x : Text) → length xs ≤ n → Among x xs → Among x (take n xs)
among_all [] n x le there = absurd there
among_all (y ∷ ys) zero x le there = absurd (omega arith)
among_all (y ∷ ys) (suc n) x le (inl e) = inl e
among_all (y ∷ ys) (suc n) x le (inr there) = inr (among_all ys n x (omega arith) there)

the_one : (x y : Text) → Some x ≡ Some y → x ≡ y
the_one x y e = ap (λ (o : Option Text). elim o [ None ↦ x | Some z ↦ z ]) e

-- of those up to a place, the one there is the last
among_next : (xs : List Text) (n : ℕ) (y x : Text) → slice_get xs n ≡ Some y → Among x (take (suc n) xs) → Among x (take n xs) ⊎ (x ≡ y)
among_next [] n y x e there = absurd cc
among_next (z ∷ zs) zero y x e (inl q) = inr (q ∙ the_one z y e)
among_next (z ∷ zs) zero y x e (inr there) = absurd there
among_next (z ∷ zs) (suc n) y x e (inl q) = inl (inl q)
among_next (z ∷ zs) (suc n) y x e (inr there) = elim (among_next zs n y x e there) [ inl a ↦ inl (inr a) | inr b ↦ inr b ]

among_last : (xs : List Text) (n : ℕ) (y : Text) → slice_get xs n ≡ Some y → Among y (take (suc n) xs)
among_last [] n y e = absurd cc
among_last (z ∷ zs) zero y e = inl (sym (the_one z y e))
among_last (z ∷ zs) (suc n) y e = inr (among_last zs n y e)

among_more : (xs : List Text) (n : ℕ) (x : Text) → Among x (take n xs) → Among x (take (suc n) xs)
among_more [] zero x there = absurd there
among_more [] (suc n) x there = absurd there
among_more (z ∷ zs) zero x there = absurd there
among_more (z ∷ zs) (suc n) x (inl e) = inl e
among_more (z ∷ zs) (suc n) x (inr there) = inr (among_more zs n x there)

-- the one at a place is none of those before it
distinct_at : (xs : List Text) (n : ℕ) (y : Text) → AreDistinct xs → slice_get xs n ≡ Some y → Among y (take n xs) → ⊥
distinct_at [] n y d e there = cc
distinct_at (z ∷ zs) zero y d e there = there
distinct_at (z ∷ zs) (suc n) y d e (inl q) = d.0 (subst (λ (t : Text). Among t zs) q (there_at zs n y e))
distinct_at (z ∷ zs) (suc n) y d e (inr there) = distinct_at zs n y d.1 e there

distinct_append : (xs ys : List Text) → AreDistinct xs → AreDistinct ys → ((x : Text) → Among x xs → Among x ys → ⊥)
    → AreDistinct (xs ++ ys)
distinct_append [] ys d e apart = e
distinct_append (x ∷ xs) ys d e apart = (
  λ there. elim (among_split x xs ys there) [ inl a ↦ d.0 a | inr b ↦ apart x (inl refl) b ],
  distinct_append xs ys d.1 e (λ y a b. apart y (inr a) b),
)

pub distinct_front : (xs ys : List Text) → AreDistinct (xs ++ ys) → AreDistinct xs
distinct_front [] ys d = tt
distinct_front (x ∷ xs) ys d = (λ there. d.0 (Among-left x xs ys there), distinct_front xs ys d.1)

-- Children

same_path : (a b : Text) → IsPath a → IsPath b → path_of a ≡ path_of b → a ≡ b
same_path a b is too e = sym (IsPath-text a is) ∙ (ap text_of e ∙ IsPath-text b too)

first_name : (one other : Name) (above below : NodePath) → one ∷ above ≡ other ∷ below → one ≡ other
first_name one other above below e = ap (λ (p : NodePath). elim p [ [] ↦ one | (n ∷ rest) ↦ n ]) e

rest_names : (one other : Name) (above below : NodePath) → one ∷ above ≡ other ∷ below → above ≡ below
rest_names one other above below e = ap (λ (p : NodePath). elim p [ [] ↦ above | (n ∷ rest) ↦ rest ]) e

distinct_children : (path : Text) (names : List Name)
    → IsPath path → AllByRecursion (IsFine path) names → AreDistinct names → AreDistinct (map (child_text path) names)
distinct_children path [] is fine d = tt
distinct_children path (name ∷ names) is fine d =
    (λ there. twice (map_among (child_text path) names (child_text path name) there), distinct_children path names is fine.1 d.1)
  where
    twice : (other : Name) × Among other names × (child_text path name ≡ child_text path other) → ⊥
    twice k =
        let its = all_among (IsFine path) names fine.1 k.0 k.1 in
        let same : name ≡ k.0 = first_name name k.0 (path_of path) (path_of path)
        (sym (joined_path path name is fine.0) ∙ (ap path_of k.2 ∙ joined_path path k.0 is its)) in
        d.0 (subst (λ (n : Name). Among n names) (sym same) k.1)

-- a path at or below the root
pub record IsUnder (root path : Text) : Type 0 where
  pub is : IsPath path
  pub below : List Name
  pub names : path_of path ≡ below ++ path_of root

-- a list that has its parents still has them where it is longer
wider : (front more : List Text) (path : Text) → HasParent front path → HasParent (front ++ more) path
wider front more path p = record { above = p.above; among = Among-left p.above front more p.among; name = p.name; names = p.names }

behind_all : (front ys : List Text) → ((y : Text) → Among y ys → HasParent front y) → AreBehind front ys
behind_all front [] f = tt
behind_all front (y ∷ ys) f = (f y (inl refl), behind_all (front ++ y ∷ []) ys (λ z there. wider front (y ∷ []) z (f z (inr there))))

behind_append : (front xs ys : List Text) → AreBehind front xs → ((y : Text) → Among y ys → HasParent (front ++ xs) y)
    → AreBehind front (xs ++ ys)
behind_append front [] ys behind f =
    behind_all front ys (λ y there. subst (λ (l : List Text). HasParent l y) (append-nil front) (f y there))
behind_append front (x ∷ xs) ys behind f = (
  behind.0,
  behind_append (front ++ x ∷ []) xs ys behind.1
      (λ y there. subst (λ (l : List Text). HasParent l y) (sym (append_assoc front (x ∷ []) xs)) (f y there)),
)

-- kept whole, with all its children among these
pub record IsVisited (cache : Cache) (paths : List Text) (path : Text) : Type 0 where
  pub whole : IsKeptWhole cache path
  pub there : (name : Name) → set.contains whole.names.names name ≡ true → Among (child_text path name) paths

-- a child of one that is reached is reached
child_reached : (cache : Cache) (root path : Text) (name : Name) (names : Names)
    → IsOneReached cache root path → cache.children path ≡ good names → set.contains names.names name ≡ true
    → IsOneReached cache root (child_text path name)
child_reached cache root path name names one kept has = record {
  below = name ∷ one.below;
  reached = (one.reached, subst (λ (p : Text). HasName cache p name) one.is (record { kept = as_good names; there = kept; has = has }));
  is = ap (λ (p : Text). child_text p name) one.is;
}

-- A walk that has come to this place of its paths: what each of them is, and what is so of those before the place.
pub record Steps (One : Text → Type 0) (Done : List Text → Text → Type 0) (root : Text) (paths : List Text) (place : ℕ) : Type 0 where
  pub first : Among root paths
  pub under : (path : Text) → Among path paths → IsUnder root path
  pub each : (path : Text) → Among path paths → One path
  pub visited : (path : Text) → Among path (take place paths) → Done paths path
  pub once : AreDistinct paths
  pub placed : (path : Text) → Among path paths → (path ≡ root) ⊎ HasParent (take place paths) path
  pub rest : List Text
  pub begins : paths ≡ root ∷ rest
  pub order : AreBehind (root ∷ []) rest

-- it goes through what is kept whole
abbrev pub Walked : Cache → Text → List Text → ℕ → Type 0
Walked cache root paths place = Steps (IsOneReached cache root) (IsVisited cache) root paths place

child_under : (root path : Text) (name : Name) → IsUnder root path → IsFine path name → IsUnder root (child_text path name)
child_under root path name under fine = record {
  is = is_child path name fine;
  below = name ∷ under.below;
  names = joined_path path name under.is fine ∙ ap (λ (p : NodePath). name ∷ p) under.names;
}

-- no path is longer than itself
no_longer : (path : NodePath) (name : Name) (below : List Name) → path ≡ name ∷ (below ++ path) → ⊥
no_longer path name below e = let k : length path ≡ suc (length (below ++ path)) = ap length e in omega (arith, k, length-append below path)

module _ (One : Text → Type 0) (Done : List Text → Text → Type 0) (root : Text) where
  -- it begins at the root
  pub steps_new : IsPath root → One root → Steps One Done root (root ∷ []) 0
  steps_new is one = record {
    first = inl refl;
    under =
        λ path there. elim there [ inl e ↦ subst (IsUnder root) (sym e) (record { is = is; below = []; names = refl }) | inr z ↦ absurd z ];
    each = λ path there. elim there [ inl e ↦ subst One (sym e) one | inr z ↦ absurd z ];
    visited = λ path there. absurd there;
    once = (λ z. z, tt);
    placed = λ path there. elim there [ inl e ↦ inl e | inr z ↦ absurd z ];
    rest = [];
    begins = refl;
    order = tt;
  }

  -- a child of the one at the place is not there yet
  new_child : (paths : List Text) (place : ℕ) (path : Text) (name : Name)
      → Steps One Done root paths place → slice_get paths place ≡ Some path
      → IsFine path name → Among (child_text path name) paths → ⊥
  new_child paths place path name w at fine there = go (w.placed (child_text path name) there)
    where
      here : Among path paths
      here = there_at paths place path at

      names : path_of (child_text path name) ≡ name ∷ path_of path
      names = joined_path path name (w.under path here).is fine

      go : (child_text path name ≡ root) ⊎ HasParent (take place paths) (child_text path name) → ⊥
      go (inl e) =
          no_longer (path_of root) name
          (w.under path here).below (sym (ap path_of e) ∙ (names ∙ ap (λ (p : NodePath). name ∷ p) (w.under path here).names))
      go (inr p) =
          let above : path_of path ≡ path_of p.above = rest_names name p.name (path_of path) (path_of p.above) (sym names ∙ p.names) in
          let same : path ≡ p.above =
          same_path path p.above (w.under path here).is (w.under p.above (among_some paths place p.above p.among)).is above in
          distinct_at paths place path w.once at (subst (λ (t : Text). Among t (take place paths)) (sym same) p.among)

  -- the paths with some new children of the one at the place are distinct
  pub with_children : (paths : List Text) (place : ℕ) (path : Text) (names : List Name)
      → Steps One Done root paths place → slice_get paths place ≡ Some path
      → AllByRecursion (IsFine path) names → AreDistinct names → AreDistinct (paths ++ map (child_text path) names)
  with_children paths place path names w at fine d =
      distinct_append paths (map (child_text path) names) w.once
      (distinct_children path names (w.under path (there_at paths place path at)).is fine d)
      (λ x there here. (let k = map_among (child_text path) names x here in
      new_child paths place path k.0 w at (all_among (IsFine path) names fine k.0 k.1) (subst (λ (t : Text). Among t paths) k.2 there)))

  -- The next step: the children of the one at the place come after all others.
  pub steps_next : (paths : List Text) (place : ℕ) (path : Text) (names : List Name)
      → Steps One Done root paths place → slice_get paths place ≡ Some path → place < length paths
      → AllByRecursion (IsFine path) names → AreDistinct names → ((name : Name) → Among name names → One (child_text path name))
      → ((x : Text) → Done paths x → Done (paths ++ map (child_text path) names) x) → Done (paths ++ map (child_text path) names) path
      → Steps One Done root (paths ++ map (child_text path) names) (suc place)
  steps_next paths place path names w at lt fine distinct one grown visited = record {
    first = Among-left root paths children w.first;
    under = λ x there. elim (among_split x paths children there) [
      | inl old ↦ w.under x old
      | inr new ↦
          (let k = child x new in subst (IsUnder root) (sym k.2) (child_under root path k.0 (w.under path here) (fine_of k.0 k.1)))
    ];
    each = λ x there. elim (among_split x paths children there) [
      | inl old ↦ w.each x old
      | inr new ↦
          (let k = child x new in subst One (sym k.2) (one k.0 k.1))
    ];
    visited = λ x there. elim (among_next paths place path x at (subst (Among x) front there)) [
      | inl old ↦
          grown x (w.visited x old)
      | inr now ↦ subst (Done (paths ++ children)) (sym now) visited
    ];
    once = with_children paths place path names w at fine distinct;
    placed = λ x there. elim (among_split x paths children there) [
      | inl old ↦ elim (w.placed x old) [
        | inl e ↦ inl e
        | inr p ↦ inr (record {
          above = p.above;
          among = subst (Among p.above) (sym front) (among_more paths place p.above p.among);
          name = p.name;
          names = p.names;
        })
      ]
      | inr new ↦
          (let k = child x new in inr (record {
            above = path;
            among = subst (Among path) (sym front) (among_last paths place path at);
            name = k.0;
            names = ap path_of k.2 ∙ joined_path path k.0 (w.under path here).is (fine_of k.0 k.1);
          }))
    ];
    rest = w.rest ++ children;
    begins = ap (λ (xs : List Text). xs ++ children) w.begins;
    order = behind_append (root ∷ []) w.rest children w.order (λ y there. (let k = child y there in record {
      above = path;
      among = subst
          (Among path) w.begins here;
      name = k.0;
      names = ap path_of k.2 ∙ joined_path path k.0 (w.under path here).is (fine_of k.0 k.1);
    }));
  }
    where
      children : List Text
      children = map (child_text path) names

      here : Among path paths
      here = there_at paths place path at

      front : take (suc place) (paths ++ children) ≡ take (suc place) paths
      front = take-append-le (suc place) paths children (omega arith)

      child : (x : Text) → Among x children → (name : Name) × Among name names × (x ≡ child_text path name)
      child x new = map_among (child_text path) names x new

      fine_of : (name : Name) → Among name names → IsFine path name
      fine_of name there = all_among (IsFine path) names fine name there

  -- more than fit
  pub steps_many : (cache : Cache) (paths : List Text) (place : ℕ) (path : Text) (most : ℕ)
      → Steps One Done root paths place → slice_get paths place ≡ Some path
      → HasTooMany cache path (most - length paths) → length paths ≤ most → ((x : Text) → One x → IsOneReached cache root x)
      → HasMoreNodes cache root most
  steps_many cache paths place path most w at has le reached = record {
    paths = paths ++ map (child_text path) new;
    once = with_children paths place path new w at fine distinct;
    each = λ x there. elim (among_split x paths (map (child_text path) new) there) [
      | inl old ↦ reached x (w.each x old)
      | inr n ↦ (let k = map_among (child_text path) new x n in subst (IsOneReached cache root) (sym k.2) (child_reached cache root path k.0
          has.names (reached path (w.each path (there_at paths place path at))) has.good ((has.listing.among k.0).1 (within k.0 k.1))))
    ];
    more =
        let k : length (paths ++ map (child_text path) new) ≡ length paths + length (map (child_text path) new) =
        length-append paths (map (child_text path) new) in
        let l : length (map (child_text path) new) ≡ length new = length-map new (child_text path) in
        let m : length new ≡ length has.more.added.done + 1 = length-append has.more.added.done (has.more.name ∷ []) in
        let n : length has.more.children ≡ length has.more.added.done =
        ap length has.more.added.made ∙ length-map has.more.added.done (child_text path) in
        let o : most - length paths ≤ length has.more.children = has.more.more in
        omega (arith, k, l, m, n, o);
  }
    where
      new : List Name
      new = has.more.added.done ++ has.more.name ∷ []

      parts : has.listed ≡ new ++ has.more.rest
      parts = has.more.added.whole ∙ sym (append_assoc has.more.added.done (has.more.name ∷ []) has.more.rest)

      distinct : AreDistinct new
      distinct = distinct_front new has.more.rest (subst AreDistinct parts has.listing.once)

      within : (name : Name) → Among name new → Among name has.listed
      within name there = subst (Among name) (sym parts) (Among-left name new has.more.rest there)

      fine : AllByRecursion (IsFine path) new
      fine = fine_last path has.more.name has.more.added.done has.more.added.fine has.more.fine

-- The walk through what is kept whole

pub walked_new : (cache : Cache) (root : Text) → IsPath root → Walked cache root (root ∷ []) 0
walked_new cache root is = steps_new (IsOneReached cache root) (IsVisited cache) root is (record { below = []; reached = tt; is = refl })

pub walked_next : (cache : Cache) (root : Text) (paths : List Text) (place : ℕ) (path : Text) (children : List Text)
    → Walked cache root paths place → slice_get paths place ≡ Some path
    → is_full_good (cache.nodes path) ≡ true → HasChildren cache path children → place < length paths
    → Walked cache root (paths ++ children) (suc place)
walked_next cache root paths place path children w at full has lt =
    subst (λ (c : List Text). Walked cache root (paths ++ c) (suc place)) (sym has.added.made)
    (steps_next (IsOneReached cache root) (IsVisited cache) root paths place path has.added.done w at lt has.added.fine
    (subst AreDistinct all_done has.listing.once)
    (λ name there. child_reached cache root path name has.names (w.each path (there_at paths place path at)) has.good
    ((has.listing.among name).1 (subst (Among name) (sym all_done) there)))
    (λ x v. record { whole = v.whole; there = λ name k. Among-left (child_text x name) paths new (v.there name k) })
    (record {
      whole = record {
        names = has.names;
        full = kept_full;
        paths = λ name k. all_among (IsFine path) has.added.done has.added.fine name (done name k);
      };
      there = λ name k. Among-right (child_text path name) paths new (among_map (child_text path) has.added.done name (done name k));
    }))
  where
    new : List Text
    new = map (child_text path) has.added.done

    all_done : has.listed ≡ has.added.done
    all_done = has.added.whole ∙ append-nil has.added.done

    done : (name : Name) → set.contains has.names.names name ≡ true → Among name has.added.done
    done name k = subst (Among name) all_done ((has.listing.among name).0 k)

    kept_full : IsFull cache path has.names
    kept_full = let k = full_there (cache.nodes path) full in record { bytes = k.0; stat = k.1; node = k.2; children = has.good }

-- The end: no path is left.
pub walked_all : (cache : Cache) (root : Text) (paths : List Text) (place : ℕ)
    → Walked cache root paths place → length paths ≤ place → IsWalk cache root paths
walked_all cache root paths place w le = record {
  whole = λ below reached. (visited (text_below root below) (all below reached)).whole;
  reached = record { each = w.each; all = all };
  once = w.once;
  rest = w.rest;
  begins = w.begins;
  order = w.order;
}
  where
    visited : (path : Text) → Among path paths → IsVisited cache paths path
    visited path there = w.visited path (among_all paths place path le there)

    all : (below : List Name) → IsReached cache root below → Among (text_below root below) paths
    all [] reached = w.first
    all (name ∷ below) reached =
        let v = visited (text_below root below) (all below reached.0) in
        v.there name (named cache (text_below root below) name v.whole reached.1)

-- one that is not kept whole
pub walked_lacking : (cache : Cache) (root : Text) (paths : List Text) (place : ℕ) (path : Text)
    → Walked cache root paths place → slice_get paths place ≡ Some path
    → (IsKeptWhole cache path → ⊥) → IsWholeBelow cache root → ⊥
walked_lacking cache root paths place path w at lacking whole =
    let one = w.each path (there_at paths place path at) in
    lacking (subst (IsKeptWhole cache) (sym one.is) (whole one.below one.reached))

-- more than fit
pub walked_many : (cache : Cache) (root : Text) (paths : List Text) (place : ℕ) (path : Text) (most : ℕ)
    → Walked cache root paths place → slice_get paths place ≡ Some path
    → HasTooMany cache path (most - length paths) → length paths ≤ most → HasMoreNodes cache root most
walked_many cache root paths place path most w at has le =
    steps_many (IsOneReached cache root) (IsVisited cache) root cache paths place path most w at has le (λ x one. one)

-- more than none
pub walked_none : (cache : Cache) (root : Text) → HasMoreNodes cache root 0
walked_none cache root = record {
  paths = root ∷ [];
  once = (λ z. z, tt);
  each = λ path there. elim there [ inl e ↦ record { below = []; reached = tt; is = e } | inr z ↦ absurd z ];
  more = omega arith;
}
