-- A walk through good names, and what is lacking on it: step by step as a walk through what is kept whole, and nothing is lacking exactly
-- where it is one.
use Rattle.std.proofs.Common.{ℕ, suc, ◌-◌, ◌≡◌, ◌↔◌, ◌<◌, ◌≤◌, inl, inr, Bool, true, false, not, cond, List, [], ◌∷◌, ◌++◌, map, length}
use Rattle.std.proofs.Common.{Some, refl, ap, sym, ◌∙◌, subst, append_assoc}
use Rattle.std.proofs.lemmas.List.{append-nil}
use Rattle.std.specs.Prelude.{slice_get}
use Rattle.std.specs.List.{filter}
use Rattle.std.specs.FinSet as set
use Rattle.zk_turns.specs.Meaning.{Among}
use Rattle.zk_turns.specs.View.{Cache}
use Rattle.zk_nodes.specs.Path.{Text, Name, child_text}
use Rattle.zk_nodes.specs.PathFault.{IsPath}
use Rattle.zk_cache.specs.Kept.{Names, good, as_good, is_marked_good}
use Rattle.zk_laws.proofs.Basics.{Among-left, Among-right}
use Rattle.zk_conclusions.specs.Subtrees.{is_full_good, IsKeptWhole, IsReached, IsOneReached, text_below, AreDistinct, HasMoreNodes}
use Rattle.zk_conclusions.specs.inner.Walks.{IsFine, HasTooMany}
use Rattle.zk_conclusions.specs.Walks.{IsWalk}
use Rattle.zk_conclusions.specs.Lacks.{HasGoodName, IsShown, IsOneShown, lacks_data, lacks_names, AreLacking, HasFaultAt, HasNoPath}
use Rattle.zk_conclusions.specs.Lacks.{HasWalk, AreShown}
use Rattle.zk_conclusions.specs.inner.Lacks.{FindsChildren}
use Rattle.zk_conclusions.proofs.Truths.{good_there, there_at}
use Rattle.zk_conclusions.proofs.Reached.{same_kept, named}
use Rattle.zk_conclusions.proofs.Keeping.{full_there}
use Rattle.zk_conclusions.proofs.Walking.{Steps, steps_new, steps_next, steps_many, all_among, among_map, among_all}

-- Every name that is good below the path makes a path, which is among these.
pub record IsSought (cache : Cache) (paths : List Text) (path : Text) : Type 0 where
  pub fine : (name : Name) → HasGoodName cache path name → IsFine path name
  pub there : (name : Name) → HasGoodName cache path name → Among (child_text path name) paths

abbrev pub Sought : Cache → Text → List Text → ℕ → Type 0
Sought cache root paths place = Steps (IsOneShown cache root) (IsSought cache) root paths place

pub sought_new : (cache : Cache) (root : Text) → IsPath root → Sought cache root (root ∷ []) 0
sought_new cache root is = steps_new (IsOneShown cache root) (IsSought cache) root is (record { below = []; shown = tt; is = refl })

child_shown : (cache : Cache) (root path : Text) (name : Name)
    → IsOneShown cache root path → HasGoodName cache path name → IsOneShown cache root (child_text path name)
child_shown cache root path name one has = record {
  below = name ∷ one.below;
  shown = (one.shown, subst (λ (p : Text). HasGoodName cache p name) one.is has);
  is = ap (λ (p : Text). child_text p name) one.is;
}

-- good names are one set
same_names : (cache : Cache) (path : Text) (one other : Names)
    → cache.children path ≡ good one → cache.children path ≡ good other → one ≡ other
same_names cache path one other e f = same_kept (as_good one) other (cache.children path) e f

no_good_name : (cache : Cache) (path : Text) (name : Name) → is_marked_good (cache.children path) ≡ false → HasGoodName cache path name → ⊥
no_good_name cache path name e has = let k : is_marked_good (cache.children path) ≡ true = ap is_marked_good has.there in absurd cc

-- The next step, through good names or past names that are not good.
pub sought_next : (cache : Cache) (root : Text) (paths : List Text) (place : ℕ) (path : Text) (children : List Text)
    → Sought cache root paths place → slice_get paths place ≡ Some path
    → FindsChildren cache path children → place < length paths → Sought cache root (paths ++ children) (suc place)
sought_next cache root paths place path children w at (inl has) lt =
    subst (λ (c : List Text). Sought cache root (paths ++ c) (suc place)) (sym has.added.made)
    (steps_next (IsOneShown cache root) (IsSought cache) root paths place path has.added.done w at lt has.added.fine
    (subst AreDistinct all_done has.listing.once)
    (λ name there. child_shown cache root path name (w.each path (there_at paths place path at))
    (record { names = has.names; there = has.good; has = (has.listing.among name).1 (subst (Among name) (sym all_done) there) }))
    (λ x v. record { fine = v.fine; there = λ name k. Among-left (child_text x name) paths new (v.there name k) })
    (record {
      fine = λ name k. all_among (IsFine path) has.added.done has.added.fine name (done name k);
      there = λ name k. Among-right (child_text path name) paths new (among_map (child_text path) has.added.done name (done name k));
    }))
  where
    new : List Text
    new = map (child_text path) has.added.done

    all_done : has.listed ≡ has.added.done
    all_done = has.added.whole ∙ append-nil has.added.done

    done : (name : Name) → HasGoodName cache path name → Among name has.added.done
    done name k =
        let here : set.contains has.names.names name ≡ true =
        subst (λ (n : Names). set.contains n.names name ≡ true) (same_names cache path k.names has.names k.there has.good) k.has in
        subst (Among name) all_done ((has.listing.among name).0 here)
sought_next cache root paths place path children w at (inr none) lt =
    subst (λ (c : List Text). Sought cache root (paths ++ c) (suc place)) (sym none.1)
    (steps_next (IsOneShown cache root) (IsSought cache) root paths place path [] w at lt tt tt
    (λ name there. absurd there)
    (λ x v. record { fine = v.fine; there = λ name k. Among-left (child_text x name) paths [] (v.there name k) })
    (record {
      fine = λ name k. absurd (no_good_name cache path name none.0 k);
      there = λ name k. absurd (no_good_name cache path name none.0 k);
    }))

-- a name without a path
pub sought_fault : (cache : Cache) (root : Text) (paths : List Text) (place : ℕ) (path : Text)
    → Sought cache root paths place → slice_get paths place ≡ Some path → HasFaultAt cache path → HasNoPath cache root
sought_fault cache root paths place path w at fault =
    let one = w.each path (there_at paths place path at) in
    record { below = one.below; shown = one.shown; fault = subst (HasFaultAt cache) one.is fault }

-- what good names lead to is reached
reached : (cache : Cache) (root : Text) (below : List Name) → IsShown cache root below → IsReached cache root below
reached cache root [] shown = tt
reached cache root (name ∷ below) shown =
    (reached cache root below shown.0, record { kept = as_good shown.1.names; there = shown.1.there; has = shown.1.has })

one_reached : (cache : Cache) (root path : Text) → IsOneShown cache root path → IsOneReached cache root path
one_reached cache root path one = record { below = one.below; reached = reached cache root one.below one.shown; is = one.is }

pub sought_many : (cache : Cache) (root : Text) (paths : List Text) (place : ℕ) (path : Text) (most : ℕ)
    → Sought cache root paths place → slice_get paths place ≡ Some path
    → HasTooMany cache path (most - length paths) → length paths ≤ most → HasMoreNodes cache root most
sought_many cache root paths place path most w at has le =
    steps_many (IsOneShown cache root) (IsSought cache) root cache paths place path most w at has le (one_reached cache root)

-- The end: no path is left.
pub sought_all : (cache : Cache) (root : Text) (paths : List Text) (place : ℕ)
    → Sought cache root paths place → length paths ≤ place → AreShown cache root paths
sought_all cache root paths place w le = record {
  each = w.each;
  all = all;
  fine = λ path name there has. (sought path there).fine name has;
  once = w.once;
  rest = w.rest;
  begins = w.begins;
  order = w.order;
}
  where
    sought : (path : Text) → Among path paths → IsSought cache paths path
    sought path there = w.visited path (among_all paths place path le there)

    all : (below : List Name) → IsShown cache root below → Among (text_below root below) paths
    all [] shown = w.first
    all (name ∷ below) shown = (sought (text_below root below) (all below shown.0)).there name shown.1

-- What a test leaves of a list

passed : (test : Text → Bool) (xs : List Text) (x : Text) → Among x (filter test xs) → Among x xs × (test x ≡ true)
passed test [] x there = absurd there
passed test (y ∷ ys) x there = go (λ more. passed test ys x more) (test y) refl there
  where
    go : (Among x (filter test ys) → Among x ys × (test x ≡ true)) → (b : Bool)
        → test y ≡ b → Among x (cond b (y ∷ filter test ys) (filter test ys)) → Among x (y ∷ ys) × (test x ≡ true)
    go rest true e (inl same) = (inl same, subst (λ (t : Text). test t ≡ true) (sym same) e)
    go rest true e (inr more) = let k = rest more in (inr k.0, k.1)
    go rest false e more = let k = rest more in (inr k.0, k.1)

passes : (test : Text → Bool) (xs : List Text) (x : Text) → Among x xs → test x ≡ true → Among x (filter test xs)
passes test [] x there e = absurd there
passes test (y ∷ ys) x there e = go (λ more. passes test ys x more e) (test y) refl there
  where
    go : (Among x ys → Among x (filter test ys)) → (b : Bool) → test y ≡ b → Among x (y ∷ ys)
        → Among x (cond b (y ∷ filter test ys) (filter test ys))
    go rest true f (inl same) = inl same
    go rest true f (inr more) = inr (rest more)
    go rest false f (inl same) = let k : test y ≡ true = subst (λ (t : Text). test t ≡ true) same e in absurd cc
    go rest false f (inr more) = rest more

once_more : (test : Text → Bool) (y : Text) (ys : List Text) → ¬ (Among y ys) → AreDistinct (filter test ys) → (b : Bool)
    → AreDistinct (cond b (y ∷ filter test ys) (filter test ys))
once_more test y ys new once true = (λ there. new (passed test ys y there).0, once)
once_more test y ys new once false = once

pass_once : (test : Text → Bool) (xs : List Text) → AreDistinct xs → AreDistinct (filter test xs)
pass_once test [] d = tt
pass_once test (y ∷ ys) d = once_more test y ys d.0 (pass_once test ys d.1) (test y)

-- those of all that are shown that lack something
pub lacking_of : (cache : Cache) (root : Text) (lacks : Text → Bool) (paths found : List Text)
    → AreShown cache root paths → found ≡ filter lacks paths → AreLacking cache root lacks found
lacking_of cache root lacks paths found shown e = subst (AreLacking cache root lacks) (sym e) (record {
  once = pass_once lacks paths shown.once;
  each = λ path there. (let k = passed lacks paths path there in (shown.each path k.0, k.1));
  all = λ below is lack. passes lacks paths (text_below root below) (shown.all below is) lack;
})

-- Nothing is lacking exactly where there is a walk

no_more_lack : (b : Bool) → (not b ≡ true → ⊥) → b ≡ true
no_more_lack true f = refl
no_more_lack false f = absurd (f refl)

nothing_lacks : (cache : Cache) (root : Text) (test : Text → Bool) (found : List Text)
    → AreLacking cache root (λ path. not (test path)) found → found ≡ []
    → (below : List Name) → IsShown cache root below → test (text_below root below) ≡ true
nothing_lacks cache root test found are none below shown =
    no_more_lack (test (text_below root below))
    (λ lack. subst (λ (l : List Text). Among (text_below root below) l) none (are.all below shown lack))

module _ (cache : Cache) (root : Text) (paths bare names : List Text) (most : ℕ) (all : AreShown cache root paths)
    (fits : length paths ≤ most)
    (are_data : AreLacking cache root (lacks_data cache) bare) (are_names : AreLacking cache root (lacks_names cache) names) where
  whole_at : (bare ≡ []) × (names ≡ []) → (below : List Name) → IsShown cache root below → IsKeptWhole cache (text_below root below)
  whole_at none below shown =
      let path = text_below root below in
      let full =
      full_there (cache.nodes path) (nothing_lacks cache root (λ p. is_full_good (cache.nodes p)) bare are_data none.0 below shown) in
      let listed = good_there (cache.children path)
      (nothing_lacks cache root (λ p. is_marked_good (cache.children p)) names are_names none.1 below shown) in
      record {
        names = listed.0;
        full = record { bytes = full.0; stat = full.1; node = full.2; children = listed.1 };
        paths = λ name has. all.fine path name (all.all below shown) (record { names = listed.0; there = listed.1; has = has });
      }

  -- then what is reached is shown
  shown_of : (bare ≡ []) × (names ≡ []) → (below : List Name) → IsReached cache root below → IsShown cache root below
  shown_of none [] is = tt
  shown_of none (name ∷ below) is =
      let above = shown_of none below is.0 in
      let whole = whole_at none below above in
      (above, record { names = whole.names; there = whole.full.children; has = named cache (text_below root below) name whole is.1 })

  walk_of : (bare ≡ []) × (names ≡ []) → IsWalk cache root paths
  walk_of none = record {
    whole = λ below is. whole_at none below (shown_of none below is);
    reached = record {
      each = λ path there. one_reached cache root path (all.each path there);
      all = λ below is. all.all below (shown_of none below is);
    };
    once = all.once;
    rest = all.rest;
    begins = all.begins;
    order = all.order;
  }

  none_lacks : (test : Text → Bool) (found : List Text) → AreLacking cache root (λ path. not (test path)) found
      → ((below : List Name) → IsShown cache root below → test (text_below root below) ≡ true) → found ≡ []
  none_lacks test [] are f = refl
  none_lacks test (path ∷ more) are f =
      let k = are.each path (inl refl) in
      let l : test path ≡ true = subst (λ (t : Text). test t ≡ true) (sym k.0.is) (f k.0.below k.0.shown) in
      let m : not (test path) ≡ true = k.1 in
      absurd cc

  pub empty_is_walk : ((bare ≡ []) × (names ≡ [])) ↔ HasWalk cache root most
  empty_is_walk = (
    λ none. record { paths = paths; walk = walk_of none; fits = fits },
    λ has. (
      none_lacks (λ p. is_full_good (cache.nodes p)) bare are_data
          (λ below shown. ap is_full_good (has.walk.whole below (reached cache root below shown)).full.node),
      none_lacks (λ p. is_marked_good (cache.children p)) names are_names
          (λ below shown. ap is_marked_good (has.walk.whole below (reached cache root below shown)).full.children),
    ),
  )

-- What a test has left of a list's beginning

pub filter_one : (test : Text → Bool) (found rest all : List Text) (path : Text)
    → found ++ filter test (path ∷ rest) ≡ filter test all → test path ≡ true → (found ++ path ∷ []) ++ filter test rest ≡ filter test all
filter_one test found rest all path e t =
    append_assoc found (path ∷ []) (filter test rest) ∙ (ap (λ (l : List Text). found ++ l) (sym (kept t)) ∙ e)
  where
    kept : test path ≡ true → filter test (path ∷ rest) ≡ path ∷ filter test rest
    kept t = rw t refl

pub filter_none : (test : Text → Bool) (found rest all : List Text) (path : Text)
    → found ++ filter test (path ∷ rest) ≡ filter test all → test path ≡ false → found ++ filter test rest ≡ filter test all
filter_none test found rest all path e t = ap (λ (l : List Text). found ++ l) (sym (left t)) ∙ e
  where
    left : test path ≡ false → filter test (path ∷ rest) ≡ filter test rest
    left t = rw t refl
