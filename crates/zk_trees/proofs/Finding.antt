-- The first tree of a ticket, looked for from the front: while all before a place have another one (`Missed`), it is the first of the rest.
use Rattle.std.proofs.Common.{◌≡◌, ◌<◌, ◌+◌, ◌++◌, ◌∙◌, ℕ, Bool, true, false, List, [], ◌∷◌, length, get_or, drop, take, sym, ap}
use Rattle.std.proofs.Common.{append_assoc, append-nil}
use Rattle.std.specs.Prelude.{◌==◌, Some, None, if◌then◌else◌}
use Rattle.std.proofs.lemmas.List.{drop_more, get_or_default, take_more}
use Rattle.zk_trees.specs.Tending.{found, left}
use Rattle.zk_trees.specs.declared.tree.Tree.{Tree}

-- none of those before a place has the ticket
pub record Missed {A : Type 0} (ticket : ℕ) (all : List (Tree A)) (index : ℕ) : Type 0 where
  pub finds : found ticket (drop index all) ≡ found ticket all
  pub leaves : take index all ++ left ticket (drop index all) ≡ left ticket all

found_first : {A : Type 0} (ticket : ℕ) (one : Tree A) (rest : List (Tree A)) (is : Bool)
    → (one.ticket == ticket) ≡ is → found ticket (one ∷ rest) ≡ (if is then Some one else found ticket rest)
found_first ticket one rest is e = ap (λ (b : Bool). if b then Some one else found ticket rest) e

left_first : {A : Type 0} (ticket : ℕ) (one : Tree A) (rest : List (Tree A)) (is : Bool)
    → (one.ticket == ticket) ≡ is → left ticket (one ∷ rest) ≡ (if is then rest else one ∷ left ticket rest)
left_first ticket one rest is e = ap (λ (b : Bool). if b then rest else one ∷ left ticket rest) e

module _ {A : Type 0} (ticket : ℕ) (all : List (Tree A)) (index : ℕ) (one : Tree A) (within : index < length all)
    (at : one ≡ get_or all index one)
    (missed : Missed ticket all index) where
  split : drop index all ≡ one ∷ drop (index + 1) all
  split = drop_more all index one within ∙ ap (λ w. w ∷ drop (index + 1) all) (sym at)

  begins : take (index + 1) all ≡ take index all ++ one ∷ []
  begins = take_more all index one within ∙ ap (λ w. take index all ++ w ∷ []) (sym at)

  -- this one has it
  pub is_found : (one.ticket == ticket) ≡ true → Some one ≡ found ticket all
  is_found is = sym (found_first ticket one (drop (index + 1) all) true is) ∙ ap (found ticket) (sym split) ∙ missed.finds

  pub is_left : (one.ticket == ticket) ≡ true → take index all ++ drop (index + 1) all ≡ left ticket all
  is_left is = ap (λ l. take index all ++ l) (sym (left_first ticket one (drop (index + 1) all) true is) ∙ ap (left ticket) (sym split))
      ∙ missed.leaves

  -- this one has another one
  pub missed_more : (one.ticket == ticket) ≡ false → Missed ticket all (index + 1)
  missed_more not = record {
    finds = sym (found_first ticket one (drop (index + 1) all) false not) ∙ ap (found ticket) (sym split) ∙ missed.finds;
    leaves = ap (λ l. l ++ left ticket (drop (index + 1) all)) begins
        ∙ append_assoc (take index all) (one ∷ []) (left ticket (drop (index + 1) all))
        ∙ ap (λ l. take index all ++ l) (sym (left_first ticket one (drop (index + 1) all) false not) ∙ ap (left ticket) (sym split))
        ∙ missed.leaves;
  }

pub none_found : {A : Type 0} (ticket : ℕ) (all : List (Tree A)) (index : ℕ)
    → drop index all ≡ [] → take index all ≡ all → Missed ticket all index → (None ≡ found ticket all) × (all ≡ left ticket all)
none_found ticket all index none whole missed = (
  ap (found ticket) (sym none) ∙ missed.finds,
  sym (append-nil all) ∙ ap (λ l. l ++ left ticket []) (sym whole) ∙ ap (λ l. take index all ++ left ticket l) (sym none) ∙ missed.leaves,
)

-- what is read of a place is one tree
pub same_read : {A : Type 0} (all : List (Tree A)) (index : ℕ) (one other : Tree A)
    → index < length all → one ≡ get_or all index one → other ≡ get_or all index other → one ≡ other
same_read all index one other within is its = is ∙ get_or_default all index one other within ∙ sym its
