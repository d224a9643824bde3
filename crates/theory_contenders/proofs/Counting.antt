-- Numbers rise with creation where sequential creates made the names: by induction on the changes. Each new name of the kind has a number
-- above all that are there, and no czxid above its own. Where the directory is made, nothing is below it yet.
use Rattle.std.specs.Option.{option_map}
use Rattle.std.proofs.Common.{ℕ, ℤ, ◌≡◌, ◌<◌, ◌≤◌, ◌+◌, inl, inr, Bool, true, false, if◌then◌else◌, List, [], ◌∷◌}
use Rattle.std.proofs.Common.{refl, sym, ap, ◌∙◌, subst}
use Rattle.std.proofs.Common.{arith, nat_le, Option, Some, None}
use Rattle.std.specs.Prelude.{is_some}
use Rattle.std.proofs.lemmas.Bool.Decides.{nat_tests}
use Rattle.zk_nodes.specs.Path.{Name, NodePath, path_eq}
use Rattle.zk_nodes.specs.History.{Node, Tree, Change, Creates, Sets, Deletes, Transaction, written, regrouped, apply, apply_all, after}
use Rattle.zk_nodes.specs.History.{IsLegal, AreLegal, AllLegal, AreRising, History, IsHistory, up_to, tree_at}
use Rattle.zk_nodes.proofs.PathTexts.{path_eq-true, path_eq-refl}
use Rattle.zk_conclusions.specs.Numbers.{Kind, is_one}
use Rattle.theory_contenders.specs.Sequences.{counter_after, counter_after_all, IsInSequence, AreInSequence, AllInSequence}
use Rattle.theory_contenders.specs.Sequences.{SequencesRise, MadeInSequence, NamesInSequenceRise, alone}
use Rattle.zk_conclusions.proofs.Numbered.{own_is_one}
use Rattle.theory_contenders.proofs.Digits.{value, numbered_so, no_greater, no_greater_by_prefix}
use Rattle.theory_contenders.proofs.Coming.{Makes, Comes, comes}

-- ---- a directory stays while something is below it

abbrev HasParent : NodePath → Tree → Type 0
HasParent dir tree = (name : Name) (node : Node) → tree (name ∷ dir) ≡ Some node → is_some (tree dir) ≡ true

pub some_mapped : (f : Node → Node) (o : Option Node) → is_some (option_map f o) ≡ is_some o
some_mapped f None = refl
some_mapped f (Some node) = refl

remains : (z : ℕ) (t : ℤ) (c : Change) (tree : Tree) (path : NodePath) → is_some (tree path) ≡ true → (c ≡ Deletes path → ⊥)
    → is_some (apply z t c tree path) ≡ true
remains z t (Creates [] content owner) tree path there kept = there
remains z t (Creates (name ∷ above) content owner) tree path there kept =
    go (path_eq path (name ∷ above)) refl (path_eq path above) refl
  where
    go : (b : Bool) → path_eq path (name ∷ above) ≡ b → (d : Bool) → path_eq path above ≡ d
        → is_some (apply z t (Creates (name ∷ above) content owner) tree path) ≡ true
    go true f d g = rw f refl
    go false f true g = rw (f, g) (some_mapped (regrouped z) (tree path) ∙ there)
    go false f false g = rw (f, g) there
remains z t (Sets at content) tree path there kept = go (path_eq path at) refl
  where
    go : (b : Bool) → path_eq path at ≡ b → is_some (apply z t (Sets at content) tree path) ≡ true
    go true f = rw f (some_mapped (written z t content) (tree path) ∙ there)
    go false f = rw f there
remains z t (Deletes []) tree path there kept = there
remains z t (Deletes (name ∷ above)) tree path there kept = go (path_eq path (name ∷ above)) refl (path_eq path above) refl
  where
    go : (b : Bool) → path_eq path (name ∷ above) ≡ b → (d : Bool) → path_eq path above ≡ d
        → is_some (apply z t (Deletes (name ∷ above)) tree path) ≡ true
    go true f d g = absurd (kept (ap (λ (p : NodePath). Deletes p) (sym (path_eq-true path (name ∷ above) f))))
    go false f true g = rw (f, g) (some_mapped (regrouped z) (tree path) ∙ there)
    go false f false g = rw (f, g) there

-- nothing is below a node that may be deleted
bare : (dir : NodePath) (tree : Tree) (name : Name) (node : Node) → IsLegal (Deletes dir) tree → tree (name ∷ dir) ≡ Some node → ⊥
bare [] tree name node legal e = legal
bare (last ∷ above) tree name node legal e = let k : None ≡ Some node = sym (legal.1 name) ∙ e in absurd cc

parent_stays : (dir : NodePath) (z : ℕ) (t : ℤ) (c : Change) (tree : Tree) → IsLegal c tree → HasParent dir tree
    → HasParent dir (apply z t c tree)
parent_stays dir z t c tree legal has name node e = go (comes z t c tree (name ∷ dir) node e)
  where
    go : Comes tree (name ∷ dir) c z node → is_some (apply z t c tree dir) ≡ true
    go (inl old) = remains z t c tree dir (has name old.0 old.1)
        (λ gone. bare dir tree name old.0 (subst (λ (d : Change). IsLegal d tree) gone legal) old.1)
    go (inr new) =
        let own : IsLegal (Creates (name ∷ dir) new.0.0 new.0.1) tree = subst (λ (d : Change). IsLegal d tree) new.0.2 legal in
        remains z t c tree dir own.1 (λ gone. let k : Creates (name ∷ dir) new.0.0 new.0.1 ≡ Deletes dir = sym new.0.2 ∙ gone in absurd cc)

-- ---- one change

-- Each number of the kind is below the counter, and numbers rise with creation; all was made by this zxid, below a directory.
record Good (dir : NodePath) (kind : Kind) (tree : Tree) (counter z : ℕ) : Type 0 where
  below : (name : Name) (node : Node) → tree (name ∷ dir) ≡ Some node → is_one kind name ≡ true → value name < counter
  ordered : (one other : Name) (node its : Node) → tree (one ∷ dir) ≡ Some node → tree (other ∷ dir) ≡ Some its
      → is_one kind one ≡ true → is_one kind other ≡ true → value one ≤ value other → node.czxid ≤ its.czxid
  by : (name : Name) (node : Node) → tree (name ∷ dir) ≡ Some node → node.czxid ≤ z
  parent : HasParent dir tree

module _ (dir : NodePath) (kind : Kind) where
  -- a name of the kind that a change makes has the counter as its number
  new_value : (c : Change) (n : ℕ) (name : Name) → Makes (name ∷ dir) c → IsInSequence dir kind n c → is_one kind name ≡ true
      → value name ≡ n
  new_value c n name makes is one =
      let has : IsInSequence dir kind n (Creates (name ∷ dir) makes.0 makes.1) =
      subst (λ (d : Change). IsInSequence dir kind n d) makes.2 is in
      numbered_so n name (has (path_eq-refl dir) one)

  new_counter : (c : Change) (n : ℕ) (name : Name) → Makes (name ∷ dir) c → counter_after dir c n ≡ n + 1
  new_counter c n name makes = ap (λ (d : Change). counter_after dir d n) makes.2 ∙ rw (path_eq-refl dir) refl

  -- what was there stays below the counter
  still_below : (c : Change) (n m : ℕ) (tree : Tree) (name : Name) (old : Node) → IsLegal c tree → HasParent dir tree
      → tree (name ∷ dir) ≡ Some old → m < n → m < counter_after dir c n
  still_below (Creates [] content owner) n m tree name old legal has e lt = lt
  still_below (Creates (last ∷ above) content owner) n m tree name old legal has e lt =
      go (path_eq above dir) (path_eq (last ∷ above) dir) refl
    where
      go : (b d : Bool) → path_eq (last ∷ above) dir ≡ d → m < (if b then n + 1 else (if d then 0 else n))
      go true d g = omega (arith, lt)
      go false true g =
          let there : is_some (tree dir) ≡ true = has name old e in
          let none : tree dir ≡ None = subst (λ (p : NodePath). tree p ≡ None) (path_eq-true (last ∷ above) dir g) legal.0 in
          let k : false ≡ true = sym (ap is_some none) ∙ there in
          absurd cc
      go false false g = lt
  still_below (Sets at content) n m tree name old legal has e lt = lt
  still_below (Deletes at) n m tree name old legal has e lt = lt

  one_more : (z : ℕ) (t : ℤ) (c : Change) (tree : Tree) (n : ℕ) → IsLegal c tree → IsInSequence dir kind n c → Good dir kind tree n z
      → Good dir kind (apply z t c tree) (counter_after dir c n) z
  one_more z t c tree n legal is good = record {
    below = λ name node e one. below name node one (comes z t c tree (name ∷ dir) node e);
    ordered = λ one other node its e f p q le.
        ordered one other node its p q le (comes z t c tree (one ∷ dir) node e) (comes z t c tree (other ∷ dir) its f);
    by = λ name node e. by name node (comes z t c tree (name ∷ dir) node e);
    parent = parent_stays dir z t c tree legal good.parent;
  }
    where
      below : (name : Name) (node : Node) → is_one kind name ≡ true → Comes tree (name ∷ dir) c z node → value name < counter_after dir c n
      below name node one (inl old) =
          still_below c n (value name) tree name old.0 legal good.parent old.1 (good.below name old.0 old.1 one)
      below name node one (inr new) =
          let a : value name ≡ n = new_value c n name new.0 is one in
          let b : counter_after dir c n ≡ n + 1 = new_counter c n name new.0 in
          omega (arith, a, b)

      by : (name : Name) (node : Node) → Comes tree (name ∷ dir) c z node → node.czxid ≤ z
      by name node (inl old) = let a = good.by name old.0 old.1 in let b = old.2 in omega (arith, a, b)
      by name node (inr new) = let b = new.1 in omega (arith, b)

      ordered : (one other : Name) (node its : Node) → is_one kind one ≡ true → is_one kind other ≡ true → value one ≤ value other
          → Comes tree (one ∷ dir) c z node → Comes tree (other ∷ dir) c z its → node.czxid ≤ its.czxid
      ordered one other node its p q le (inl old) (inl its_old) =
          let a = good.ordered one other old.0 its_old.0 old.1 its_old.1 p q le in
          let b = old.2 in let d = its_old.2 in omega (arith, a, b, d)
      ordered one other node its p q le (inl old) (inr new) =
          let a = good.by one old.0 old.1 in let b = old.2 in let d = new.1 in omega (arith, a, b, d)
      ordered one other node its p q le (inr new) (inl old) =
          let a : value one ≡ n = new_value c n one new.0 is p in
          let b : value other < n = good.below other old.0 old.1 q in
          absurd (omega (arith, a, b, le))
      ordered one other node its p q le (inr new) (inr its_new) = let b = new.1 in let d = its_new.1 in omega (arith, b, d)

  -- ---- all changes

  later : (tree : Tree) (n low z : ℕ) → low ≤ z → Good dir kind tree n low → Good dir kind tree n z
  later tree n low z le good = record {
    below = good.below;
    ordered = good.ordered;
    by = λ name node e. let k = good.by name node e in omega (arith, k, le);
    parent = good.parent;
  }

  through : (z : ℕ) (t : ℤ) (cs : List Change) (tree : Tree) (n : ℕ) → AreLegal z t cs tree → AreInSequence dir kind n cs
      → Good dir kind tree n z → Good dir kind (apply_all z t cs tree) (counter_after_all dir cs n) z
  through z t [] tree n legal are good = good
  through z t (c ∷ cs) tree n legal are good =
      through z t cs (apply z t c tree) (counter_after dir c n) legal.1 are.1 (one_more z t c tree n legal.0 are.0 good)

  none_later : (z low : ℕ) (txs : List Transaction) → z ≤ low → AreRising low txs → up_to z txs ≡ []
  none_later z low [] le rising = refl
  none_later z low (x ∷ xs) le rising =
      let above = rising.0 in
      let out : nat_le x.zxid z ≡ false = grind (arith, nat_tests) in
      rw out (none_later z x.zxid xs (omega arith) rising.2)

  abbrev GoodThere : Tree → Type 0
  GoodThere tree = (n : ℕ) × (z : ℕ) × Good dir kind tree n z

  good_up_to : (z low : ℕ) (txs : List Transaction) (tree : Tree) (n : ℕ) → AreRising low txs → AllLegal txs tree
      → AllInSequence dir kind n txs → Good dir kind tree n low → GoodThere (after (up_to z txs) tree)
  good_up_to z low [] tree n rising legal all good = (n, low, good)
  good_up_to z low (x ∷ xs) tree n rising legal all good =
      go (λ (u : Unit {0}). good_up_to z x.zxid xs (apply_all x.zxid x.time x.changes tree) (counter_after_all dir x.changes n)
      rising.2 legal.1 all.1 (through x.zxid x.time x.changes tree n legal.0 all.0
      (later tree n low x.zxid (let above = rising.0 in omega (arith, above)) good))) (nat_le x.zxid z) refl
    where
      go : (Unit {0} → GoodThere (after (up_to z xs) (apply_all x.zxid x.time x.changes tree))) → (b : Bool)
          → nat_le x.zxid z ≡ b → GoodThere (after (up_to z (x ∷ xs)) tree)
      go more true e = rw e (more tt)
      go more false e =
          let high : z ≤ x.zxid = grind (arith, nat_tests) in
          rw (e, none_later z x.zxid xs high rising.2) (n, low, good)

is_there : (o : Option Node) (node : Node) → o ≡ Some node → is_some o ≡ true
is_there o node e = ap is_some e

-- of two nodes of the kind that are there at once, the one whose number is not greater was not made later
pub in_order_of_numbers : (h : History) (dir : NodePath) (kind : Kind) → IsHistory h → MadeInSequence h dir kind
    → (zxid : ℕ) (one other : Name) (node its : Node) → tree_at h zxid (one ∷ dir) ≡ Some node → tree_at h zxid (other ∷ dir) ≡ Some its
    → is_one kind one ≡ true → is_one kind other ≡ true → value one ≤ value other → node.czxid ≤ its.czxid
in_order_of_numbers h dir kind is made zxid one other node its e f p q le =
    let good = good_up_to dir kind zxid 0 h.transactions h.first made.counter is.rising is.legal made.made first in
    good.2.ordered one other node its e f p q le
  where
    zero_at : (name : Name) (old : Node) → h.first (name ∷ dir) ≡ Some old → old.czxid ≡ 0
    zero_at name old k = (is.zeros (name ∷ dir) old k).0

    first : Good dir kind h.first made.counter 0
    first = record {
      below = λ name old k one.
          let has = made.first name (is_there (h.first (name ∷ dir)) old k) one in
          let same : value name ≡ has.0 = numbered_so has.0 name has.2 in
          let lt : has.0 < made.counter = has.1 in
          omega (arith, same, lt);
      ordered = λ one other old other_old k l p q le.
          let a = zero_at one old k in let b = zero_at other other_old l in omega (arith, a, b);
      by = λ name old k. let a = zero_at name old k in omega (arith, a);
      parent = λ name old k. is.parents name dir (is_there (h.first (name ∷ dir)) old k);
    }

pub sequences_rise : SequencesRise
sequences_rise h dir kind is made zxid one other node its e f p q before =
    in_order_of_numbers h dir kind is made zxid one other node its e f p q (no_greater kind one other p q before)

pub names_in_sequence_rise : NamesInSequenceRise
names_in_sequence_rise h dir prefix is made only zxid one other node its e f p q before =
    let mine = only zxid one (is_there (tree_at h zxid (one ∷ dir)) node e) p in
    let theirs = only zxid other (is_there (tree_at h zxid (other ∷ dir)) its f) q in
    let a : is_one (alone prefix) one ≡ true = own_is_one (alone prefix) one mine.1 in
    let b : is_one (alone prefix) other ≡ true = own_is_one (alone prefix) other theirs.1 in
    in_order_of_numbers h dir (alone prefix) is made zxid one other node its e f a b
    (no_greater_by_prefix (alone prefix) prefix one other a b p q mine.0 theirs.0 before)
