-- What a sound history keeps is a history: the first tree has a root, is closed under parents and has zxids 0, zxids rise, and each change
-- is legal.
use Rattle.std.specs.Option.{option_map}
use Rattle.std.proofs.Common.{◌≡◌, ℕ, ℤ, pos, Bool, true, false, cond, eqb, List, [], ◌∷◌, Option, Some, None, is_some, refl, sym, ap}
use Rattle.std.proofs.Common.{subst, ◌∙◌, arith}
use Rattle.std.proofs.lemmas.Bool.{eqb-true, false≢true}
use Rattle.std.specs.List.{list_all}
use Rattle.zk_nodes.specs.Path.{Name, NodePath, path_eq}
use Rattle.zk_nodes.specs.History.{Node, Tree, Change, Creates, Sets, Deletes, Transaction, IsHistory, made, regrouped, apply, apply_all}
use Rattle.zk_nodes.specs.History.{after, IsLegal, AreLegal, AllLegal}
use Rattle.zk_history.specs.HistoryView.{HistoryView, history_of, first_tree, AreAccepted, AllAccepted, root_tree, is_first, is_creation}
use Rattle.zk_history.specs.HistoryView.{IsSound}
use Rattle.zk_nodes.proofs.PathTexts.{path_eq-true}

-- a tree with a root, closed under parents, with zxids 0
record IsFirst (tree : Tree) : Type 0 where
  root : is_some (tree []) ≡ true
  parents : (name : Name) (path : NodePath) → is_some (tree (name ∷ path)) ≡ true → is_some (tree path) ≡ true
  zeros : (path : NodePath) (node : Node) → tree path ≡ Some node → (node.czxid ≡ 0) × (node.mzxid ≡ 0) × (node.pzxid ≡ 0)

there_after : (a b : Bool) (n : Node) (f : Node → Node) (held : Option Node)
    → is_some (cond a (Some n) (cond b (option_map f held) held)) ≡ cond a true (is_some held)
there_after true b n f held = refl
there_after false true n f None = refl
there_after false true n f (Some held) = refl
there_after false false n f held = refl

zeros_after : (a b : Bool) (t : ℤ) (content : Option (List ℕ)) (owner : ℤ) (held : Option Node)
    → ((n : Node) → held ≡ Some n → (n.czxid ≡ 0) × (n.mzxid ≡ 0) × (n.pzxid ≡ 0))
    → (n : Node) → cond a (Some (made 0 t content owner)) (cond b (option_map (regrouped 0) held) held) ≡ Some n
    → (n.czxid ≡ 0) × (n.mzxid ≡ 0) × (n.pzxid ≡ 0)
zeros_after true b t content owner held h n e =
    let P : Node → Type 0 = λ m. (m.czxid ≡ 0) × (m.mzxid ≡ 0) × (m.pzxid ≡ 0) in
    let is : made 0 t content owner ≡ n = cc in
    subst P is (refl, refl, refl)
zeros_after false true t content owner None h n e = cc
zeros_after false true t content owner (Some m) h n e =
    let P : Node → Type 0 = λ m. (m.czxid ≡ 0) × (m.mzxid ≡ 0) × (m.pzxid ≡ 0) in
    let is : regrouped 0 m ≡ n = cc in
    let z = h m refl in
    subst P is (z.0, z.1, refl)
zeros_after false false t content owner held h n e = h n e

first_one : (t : ℤ) (path : NodePath) (content : Option (List ℕ)) (owner : ℤ) (tree : Tree)
    → IsLegal (Creates path content owner) tree → IsFirst tree → IsFirst (apply 0 t (Creates path content owner) tree)
first_one t [] content owner tree l h = absurd l
first_one t (name ∷ path) content owner tree l h =
    let at : (x : NodePath) → is_some (apply 0 t (Creates (name ∷ path) content owner) tree x)
    ≡ cond (path_eq x (name ∷ path)) true (is_some (tree x)) =
    λ x. there_after (path_eq x (name ∷ path)) (path_eq x path) (made 0 t content owner) (regrouped 0) (tree x) in
    let stays : (x : NodePath) → is_some (tree x) ≡ true → is_some (apply 0 t (Creates (name ∷ path) content owner) tree x) ≡ true =
    λ x e. at x ∙ ap (cond (path_eq x (name ∷ path)) true) e
    ∙ elim (path_eq x (name ∷ path)) as (λ b. cond b true true ≡ true) [ true ↦ refl | false ↦ refl ] in
    record {
      root = stays [] h.root;
      parents = λ n p e. stays p (
          elim (path_eq (n ∷ p) (name ∷ path)) as
          (λ b. path_eq (n ∷ p) (name ∷ path) ≡ b → cond b true (is_some (tree (n ∷ p))) ≡ true → is_some (tree p) ≡ true) [
            | true ↦ λ same _. let is : n ∷ p ≡ name ∷ path = path_eq-true (n ∷ p) (name ∷ path) same in let below : path ≡ p = cc in
                subst (λ q. is_some (tree q) ≡ true) below l.1
            | false ↦ λ _ there. h.parents n p there
          ] refl (sym (at (n ∷ p)) ∙ e));
      zeros = λ p n e. zeros_after (path_eq p (name ∷ path)) (path_eq p path) t content owner (tree p) (h.zeros p) n e;
    }

created : (cs : List Change) (z : ℕ) (t : ℤ) (tree : Tree)
    → is_creation cs ≡ true → AreAccepted z t cs tree → IsFirst tree → IsFirst (apply_all 0 t cs tree)
created [] z t tree e a h = absurd (false≢true e)
created (Creates path content owner ∷ []) z t tree e a h = first_one t path content owner tree a.0.0 h
created (Creates path content owner ∷ c ∷ cs) z t tree e a h = absurd (false≢true e)
created (Sets path content ∷ cs) z t tree e a h = absurd (false≢true e)
created (Deletes path ∷ cs) z t tree e a h = absurd (false≢true e)

firsts : (ts : List Transaction) (tree : Tree) → list_all is_first ts ≡ true → AllAccepted ts tree → IsFirst tree → IsFirst (after ts tree)
firsts [] tree e a h = h
firsts (one ∷ more) tree e a h =
    let zero_zxid : eqb one.zxid 0 ≡ true = grind (arith, e) in
    let creation : is_creation one.changes ≡ true = grind (arith, e) in
    let others : list_all is_first more ≡ true = grind (arith, e) in
    firsts more (apply_all one.zxid one.time one.changes tree) others a.1
    (subst (λ z. IsFirst (apply_all z one.time one.changes tree)) (sym (eqb-true one.zxid 0 zero_zxid))
    (created one.changes one.zxid one.time tree creation a.0 h))

root_first : IsFirst root_tree
root_first = record {
  root = refl;
  parents = λ n p e. absurd (false≢true e);
  zeros = λ p n e. zeros_after (path_eq p []) false (pos 0) (Some []) (pos 0) None (λ m f. cc) n e;
}

legal_all : (z : ℕ) (t : ℤ) (cs : List Change) (tree : Tree) → AreAccepted z t cs tree → AreLegal z t cs tree
legal_all z t [] tree a = tt
legal_all z t (c ∷ cs) tree a = (a.0.0, legal_all z t cs (apply z t c tree) a.1)

legal : (ts : List Transaction) (tree : Tree) → AllAccepted ts tree → AllLegal ts tree
legal [] tree a = tt
legal (one ∷ more) tree a =
    (legal_all one.zxid one.time one.changes tree a.0, legal more (apply_all one.zxid one.time one.changes tree) a.1)

pub IsHistory-sound : (kept : HistoryView) → IsSound kept → IsHistory (history_of kept)
IsHistory-sound kept s =
    let first = firsts kept.nodes root_tree s.first s.nodes root_first in
    record {
      root = first.root;
      parents = first.parents;
      zeros = first.zeros;
      rising = s.rising;
      legal = legal kept.transactions (first_tree kept) s.changes;
    }
