-- What is lent of a walk's paths: each of them is kept whole, so what is found of it is good.
use Rattle.std.proofs.Common.{◌≡◌, ℕ, Bool, true, false, ◌&&◌, List, [], ◌∷◌, Option, Some, None, refl, ap, sym, ◌∙◌, subst, inl, inr}
use Rattle.std.proofs.lemmas.Bool.{and_parts}
use Rattle.std.proofs.lemmas.Option.{get_or_from_slice_get}
use Rattle.std.proofs.Math.ListN.{get_or}
use Rattle.std.specs.Prelude.{slice_get}
use Rattle.zk_turns.specs.Meaning.{Among}
use Rattle.zk_turns.specs.View.{Cache}
use Rattle.zk_nodes.specs.Path.{Text}
use Rattle.zk_cache.specs.declared.held.Kept.{Kept}
use Rattle.zk_cache.specs.Kept.{Answer, Full, Names, good, as_good, is_marked_good}
use Rattle.zk_conclusions.proofs.Truths.{good_there, there_at}
use Rattle.zk_conclusions.specs.Subtrees.{IsKeptWhole, is_full_good}
use Rattle.zk_conclusions.specs.Walks.{IsWalk, all_full}
use Rattle.zk_conclusions.proofs.Keeping.{full_there}

both_true : (a b : Bool) → a ≡ true → b ≡ true → (a && b) ≡ true
both_true a b e f = rw e f

each_full : (cache : Cache) (paths : List Text) → ((path : Text) → Among path paths → IsKeptWhole cache path) → all_full cache paths ≡ true
each_full cache [] each = refl
each_full cache (path ∷ paths) each =
    let one = each path (inl refl) in
    both_true (is_full_good (cache.nodes path) && is_marked_good (cache.children path)) (all_full cache paths)
    (both_true (is_full_good (cache.nodes path)) (is_marked_good (cache.children path)) (ap is_full_good one.full.node)
    (ap is_marked_good one.full.children))
    (each_full cache paths (λ p there. each p (inr there)))

-- each path of a walk is kept whole
pub walk_full : (cache : Cache) (root : Text) (paths : List Text) → IsWalk cache root paths → all_full cache paths ≡ true
walk_full cache root paths walk = each_full cache paths
    (λ path there. (let one = walk.reached.each path there in subst (IsKeptWhole cache) (sym one.is) (walk.whole one.below one.reached)))

full_among : (cache : Cache) (paths : List Text) → all_full cache paths ≡ true → (path : Text)
    → Among path paths → (is_full_good (cache.nodes path) ≡ true) × (is_marked_good (cache.children path) ≡ true)
full_among cache [] e path there = absurd there
full_among cache (one ∷ more) e path (inl same) =
    let k = (and_parts (is_full_good (cache.nodes one) && is_marked_good (cache.children one)) (all_full cache more) e).0 in
    subst (λ (p : Text). (is_full_good (cache.nodes p) ≡ true) × (is_marked_good (cache.children p) ≡ true)) (sym same)
    (and_parts (is_full_good (cache.nodes one)) (is_marked_good (cache.children one)) k)
full_among cache (one ∷ more) e path (inr there) = full_among cache more
    (and_parts (is_full_good (cache.nodes one) && is_marked_good (cache.children one)) (all_full cache more) e).1 path there

the_one : {X : Type 0} (x y : X) → Some x ≡ Some y → x ≡ y
the_one {X} x y e = ap (λ (o : Option X). elim o [ None ↦ x | Some z ↦ z ]) e

-- what is found of the path at a place is good
found_good : {A : Type 0} (kept : Text → Option (Kept A)) (here path : Text) (found : Kept A) (answer : A)
    → kept path ≡ good answer → Some found ≡ kept here → here ≡ path → kept path ≡ good found.answer
found_good {A} kept here path found answer e is same =
    let l : found ≡ as_good answer = the_one found (as_good answer) (is ∙ (ap kept same ∙ e)) in
    e ∙ ap (λ (a : Kept A). good a.answer) (sym l)

pub data_at : (cache : Cache) (paths : List Text) (place : ℕ) (here path : Text) (found : Kept Answer)
    → all_full cache paths ≡ true → here ≡ get_or paths place here → Some found ≡ cache.nodes here → slice_get paths place ≡ Some path
    → cache.nodes path ≡ good found.answer
data_at cache paths place here path found e index is at =
    let k = full_there (cache.nodes path) (full_among cache paths e path (there_at paths place path at)).0 in
    found_good cache.nodes here path found (Full k.0 k.1) k.2 is (index ∙ get_or_from_slice_get paths place path here at)

pub names_at : (cache : Cache) (paths : List Text) (place : ℕ) (here path : Text) (found : Kept Names)
    → all_full cache paths ≡ true → here ≡ get_or paths place here → Some found ≡ cache.children here → slice_get paths place ≡ Some path
    → cache.children path ≡ good found.answer
names_at cache paths place here path found e index is at =
    let k = good_there (cache.children path) (full_among cache paths e path (there_at paths place path at)).1 in
    found_good cache.children here path found k.0 k.1 is (index ∙ get_or_from_slice_get paths place path here at)

-- what is kept with its data, and found, is good
pub found_full : (kept : Option (Kept Answer)) (found : Kept Answer)
    → is_full_good kept ≡ true → Some found ≡ kept → kept ≡ good found.answer
found_full kept found e is =
    let k = full_there kept e in
    let l : found ≡ as_good (Full k.0 k.1) = the_one found (as_good (Full k.0 k.1)) (is ∙ k.2) in
    k.2 ∙ ap (λ (a : Kept Answer). good a.answer) (sym l)

-- what is not kept so is none of the paths
pub not_among : (cache : Cache) (paths : List Text) (path : Text)
    → all_full cache paths ≡ true → is_full_good (cache.nodes path) ≡ false → Among path paths → ⊥
not_among cache paths path full none there = let k = (full_among cache paths full path there).0 in absurd cc

pub never_none : (kept : Option (Kept Answer)) → is_full_good kept ≡ true → None ≡ kept → ⊥
never_none kept e is = let k : is_full_good None ≡ true =
    subst (λ (o : Option (Kept Answer)). is_full_good o ≡ true) (sym is) e in absurd cc
