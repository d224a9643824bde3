-- What is kept of one node, and its children: the texts of its set of names are the children's, each once, and a name that makes no path is
-- found.
use Rattle.std.proofs.Common.{ℕ, ◌≡◌, ◌≢◌, inl, inr, true, false, List, [], ◌∷◌, ◌++◌, Option, Some, None, refl, ap, sym, ◌∙◌, subst}
use Rattle.std.proofs.Common.{append_assoc}
use Rattle.std.proofs.lemmas.List.{map-append}
use Rattle.std.proofs.lemmas.Cmp.{nat_list_cmp_total}
use Rattle.std.specs.Prelude.{Result as Outcome, Ok, Err, IfErr}
use Rattle.std.specs.Result.{IsErrAnd, OnOk}
use Rattle.std.specs.List.{AllByRecursion}
use Rattle.std.specs.List.Sorted.{IsStrictlySortedBy}
use Rattle.std.specs.Ordering.{ordering_reverse}
use Rattle.std.specs.declared.cmp.Ordering.TheVariants.{Less}
use Rattle.std.specs.FinSet as set
use Rattle.zk_turns.specs.Meaning.{Among}
use Rattle.zk_turns.specs.View.{Cache}
use Rattle.zk_nodes.specs.Path.{Text, Name, child_text}
use Rattle.zk_nodes.specs.PathFault.{child_fault}
use Rattle.zk_nodes.specs.Names.{name_cmp}
use Rattle.zk_cache.specs.declared.children.Children.{Children}
use Rattle.zk_cache.specs.Contents.{names_in}
use Rattle.zk_cache.specs.declared.held.Kept.{Kept}
use Rattle.zk_cache.specs.declared.held.Mark.{Mark}
use Rattle.zk_cache.specs.declared.held.Mark.TheVariants.{Good, Stale}
use Rattle.zk_cache.specs.Kept.{Answer, Absent, Known, Full, Names, good, as_good, is_marked_good}
use Rattle.zk_conclusions.specs.declared.no_subtree.NoSubtree.{NoSubtree}
use Rattle.zk_conclusions.specs.declared.no_subtree.NoSubtree.TheVariants.{NotWhole, TooMany, Memory}
use Rattle.zk_conclusions.specs.Subtrees.{IsFull, IsKeptWhole, AreDistinct, Says, is_full_good}
use Rattle.zk_conclusions.specs.inner.Walks.{IsFine, Added, IsListed, HasFault, HasMore, HasChildren, HasTooMany}
use Rattle.zk_conclusions.specs.Lacks.{HasFaultAt}
use Rattle.zk_conclusions.proofs.Reached.{same_kept}
use Rattle.zk_conclusions.proofs.Sets.{set_among, among_set}

-- what holds anyway holds where there is a value
pub on_ok : {T : Type 0} (r : Outcome T NoSubtree) (P : Type 0) → P → OnOk r P
on_ok (Ok x) P p = p
on_ok (Err e) P p = tt

-- a refusal that says more
pub says_more : (why : NoSubtree) (a b c d : Type 0) → (a → c) → (b → d) → Says why a b → Says why c d
says_more NotWhole a b c d f g s = f s
says_more TooMany a b c d f g s = g s
says_more Memory a b c d f g s = tt

-- a refusal that is handed on
pub handed_on : {T : Type 0} (r : Outcome T NoSubtree) (why : NoSubtree) (a b c d : Type 0) → IsErrAnd r (λ e. e ≡ why)
    → Says why a b → (a → c) → (b → d) → IfErr r (λ e. Says e c d)
handed_on (Ok x) why a b c d is says f g = tt
handed_on (Err e) why a b c d is says f g = subst (λ (w : NoSubtree). Says w c d) (sym is) (says_more why a b c d f g says)

-- The node

pub full_there : (kept : Option (Kept Answer))
    → is_full_good kept ≡ true → (bytes : Option (List ℕ)) × (stat : _) × (kept ≡ good (Full bytes stat))
full_there None e = absurd cc
full_there (Some kept) e = go kept.answer kept.mark e
  where
    go : (answer : Answer) (mark : Mark) → is_full_good (Some (record { answer = answer; mark = mark })) ≡ true
        → (bytes : Option (List ℕ)) × (stat : _) × (Some (record { answer = answer; mark = mark }) ≡ good (Full bytes stat))
    go Absent mark e = absurd cc
    go (Known stat) mark e = absurd cc
    go (Full bytes stat) Good e = (bytes, stat, refl)
    go (Full bytes stat) Stale e = absurd cc

pub is_full : (cache : Cache) (path : Text) (names : Names) (mark : Mark) → is_full_good (cache.nodes path) ≡ true → mark ≡ Good
    → Some (record { answer = names; mark = mark }) ≡ cache.children path → IsFull cache path names
is_full cache path names mark e m f =
    let k = full_there (cache.nodes path) e in
    record { bytes = k.0; stat = k.1; node = k.2; children = sym f ∙ ap (λ (n : Mark). Some (record { answer = names; mark = n })) m }

pub no_data : (cache : Cache) (path : Text) (names : Names) → is_full_good (cache.nodes path) ≡ false → IsFull cache path names → ⊥
no_data cache path names e full = let k : is_full_good (cache.nodes path) ≡ true = ap is_full_good full.node in absurd cc

pub no_names : (cache : Cache) (path : Text) (names : Names) → is_marked_good (cache.children path) ≡ false → IsFull cache path names → ⊥
no_names cache path names e full = let k : is_marked_good (cache.children path) ≡ true = ap is_marked_good full.children in absurd cc

-- The names, and children of them

pub added_none : (path : Text) (names : List Name) → Added path names names []
added_none path names = record { done = []; whole = refl; fine = tt; made = refl }

pub fine_last : (path : Text) (name : Name) (done : List Name)
    → AllByRecursion (IsFine path) done → IsFine path name → AllByRecursion (IsFine path) (done ++ name ∷ [])
fine_last path name [] all fine = (fine, tt)
fine_last path name (one ∷ more) all fine = (all.0, fine_last path name more all.1 fine)

pub added_one : (path : Text) (names : List Name) (name : Name) (rest : List Name) (children : List Text)
    → Added path names (name ∷ rest) children → IsFine path name
    → Added path names rest (children ++ child_text path name ∷ [])
added_one path names name rest children a fine = record {
  done = a.done ++ name ∷ [];
  whole = a.whole ∙ sym (append_assoc a.done (name ∷ []) rest);
  fine = fine_last path name a.done a.fine fine;
  made = ap (λ (c : List Text). c ++ child_text path name ∷ []) a.made ∙ sym (map-append (child_text path) a.done (name ∷ []));
}

among_right : (x : Text) (xs ys : List Text) → Among x ys → Among x (xs ++ ys)
among_right x [] ys h = h
among_right x (z ∷ xs) ys h = inr (among_right x xs ys h)

pub at_fault : (path : Text) (names : List Name) (name : Name) (rest : List Name) (children : List Text)
    → Added path names (name ∷ rest) children → child_fault path name ≢ None → HasFault path names
at_fault path names name rest children a fault =
    record { name = name; among = subst (Among name) (sym a.whole) (among_right name a.done (name ∷ rest) (inl refl)); fault = fault }

-- Names in order, as a set

less_once : (name : Name) (names : List Name) → AllByRecursion (λ y. name_cmp name y ≡ Less) names → Among name names → ⊥
less_once name [] all there = there
less_once name (one ∷ more) all (inl e) =
    let k : name_cmp name name ≡ Less = subst (λ (n : Name). name_cmp name n ≡ Less) (sym e) all.0 in
    let l : name_cmp name name ≡ ordering_reverse (name_cmp name name) = nat_list_cmp_total.antisymm name name in
    let m : Less ≡ ordering_reverse Less = sym k ∙ (l ∙ ap ordering_reverse k) in
    absurd cc
less_once name (one ∷ more) all (inr there) = less_once name more all.1 there

distinct_texts : (names : List Name) → IsStrictlySortedBy name_cmp names → AreDistinct names
unfolding IsStrictlySortedBy
distinct_texts [] sorted = tt
distinct_texts (name ∷ names) sorted = (less_once name names sorted.0, distinct_texts names sorted.1)

module _ {A : Type 0} where
  listed : (kept : Children A) → IsStrictlySortedBy name_cmp kept.names → IsListed (names_in kept).names kept.names
  listed kept sorted = record {
    among = λ name. (set_among kept.names name, among_set kept.names name);
    once = distinct_texts kept.names sorted;
  }

  pub has_children : (cache : Cache) (path : Text) (kept : Children A) (children : List Text)
      → IsStrictlySortedBy name_cmp kept.names → cache.children path ≡ good (names_in kept)
      → Added path kept.names [] children → HasChildren cache path children
  has_children cache path kept children sorted is added =
      record { names = names_in kept; good = is; listed = kept.names; listing = listed kept sorted; added = added }

  pub too_many : (cache : Cache) (path : Text) (kept : Children A) (room : ℕ)
      → IsStrictlySortedBy name_cmp kept.names → cache.children path ≡ good (names_in kept)
      → HasMore path kept.names room → HasTooMany cache path room
  too_many cache path kept room sorted is more =
      record { names = names_in kept; good = is; listed = kept.names; listing = listed kept sorted; more = more }

  pub not_whole : (cache : Cache) (path : Text) (kept : Children A)
      → IsStrictlySortedBy name_cmp kept.names → IsFull cache path (names_in kept)
      → HasFault path kept.names → IsKeptWhole cache path → ⊥
  not_whole cache path kept sorted full fault whole =
      let same : names_in kept ≡ whole.names =
      same_kept (as_good (names_in kept)) whole.names (cache.children path) full.children whole.full.children in
      let has : set.contains (names_in kept).names fault.name ≡ true = ((listed kept sorted).among fault.name).1 fault.among in
      fault.fault (whole.paths fault.name (subst (λ (n : Names). set.contains n.names fault.name ≡ true) same has))

  -- one of the good names makes no path
  pub no_path : (cache : Cache) (path : Text) (kept : Children A)
      → IsStrictlySortedBy name_cmp kept.names → cache.children path ≡ good (names_in kept)
      → HasFault path kept.names → HasFaultAt cache path
  no_path cache path kept sorted is fault = record {
    name = fault.name;
    has = record { names = names_in kept; there = is; has = ((listed kept sorted).among fault.name).1 fault.among };
    fault = fault.fault;
  }
