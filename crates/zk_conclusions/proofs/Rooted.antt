-- Each node of a history's tree has its parents: by induction on the changes, as a node is made only where its parent is, and deleted only
-- where it has no children. This is a law of histories alone: it is here, and not beside their definitions in zk_nodes, as no other crate
-- needs it.
use Rattle.std.specs.Option.{option_map}
use Rattle.std.proofs.Common.{ℕ, ℤ, ◌≡◌, Bool, true, false, List, [], ◌∷◌, refl, sym, ap, ◌∙◌, subst, Option, Some, None, nat_le, ◌≤◌}
use Rattle.std.proofs.Common.{arith, if◌then◌else◌}
use Rattle.std.specs.Prelude.{is_some, drop}
use Rattle.zk_nodes.specs.Path.{Name, NodePath, path_eq}
use Rattle.zk_nodes.specs.History.{Node, Tree, Change, Creates, Sets, Deletes, Transaction, IsLegal, AreLegal, AllLegal, apply, apply_all}
use Rattle.zk_nodes.specs.History.{after, History, IsHistory, up_to, tree_at, written, regrouped, AreRising}
use Rattle.std.proofs.lemmas.Bool.Decides.{nat_tests}
use Rattle.zk_nodes.proofs.PathTexts.{path_eq-true}

abbrev pub Rooted : Tree → Type 0
Rooted tree = (name : Name) (path : NodePath) → is_some (tree (name ∷ path)) ≡ true → is_some (tree path) ≡ true

some_regrouped : (z : ℕ) (o : Option Node) → is_some (option_map (regrouped z) o) ≡ is_some o
some_regrouped z None = refl
some_regrouped z (Some node) = refl

some_written : (z : ℕ) (t : ℤ) (content : Option (List ℕ)) (o : Option Node) → is_some (option_map (written z t content) o) ≡ is_some o
some_written z t content None = refl
some_written z t content (Some node) = refl

-- whether a node is there after a creation or a deletion at a path
abbrev is_there : Bool → NodePath → Tree → NodePath → Bool
is_there b at tree path = if path_eq path at then b else is_some (tree path)

there_created : (z : ℕ) (t : ℤ) (name : Name) (above : NodePath) (content : Option (List ℕ)) (owner : ℤ) (tree : Tree) (path : NodePath)
    → is_some (apply z t (Creates (name ∷ above) content owner) tree path) ≡ is_there true (name ∷ above) tree path
there_created z t name above content owner tree path = go (path_eq path (name ∷ above)) refl (path_eq path above) refl
  where
    go : (b : Bool) → path_eq path (name ∷ above) ≡ b → (d : Bool) → path_eq path above ≡ d
        → is_some (apply z t (Creates (name ∷ above) content owner) tree path) ≡ is_there true (name ∷ above) tree path
    go true e d f = rw e refl
    go false e true f = rw (e, f) (some_regrouped z (tree path))
    go false e false f = rw (e, f) refl

there_deleted : (z : ℕ) (t : ℤ) (name : Name) (above : NodePath) (tree : Tree) (path : NodePath)
    → is_some (apply z t (Deletes (name ∷ above)) tree path) ≡ is_there false (name ∷ above) tree path
there_deleted z t name above tree path = go (path_eq path (name ∷ above)) refl (path_eq path above) refl
  where
    go : (b : Bool) → path_eq path (name ∷ above) ≡ b → (d : Bool)
        → path_eq path above ≡ d → is_some (apply z t (Deletes (name ∷ above)) tree path) ≡ is_there false (name ∷ above) tree path
    go true e d f = rw e refl
    go false e true f = rw (e, f) (some_regrouped z (tree path))
    go false e false f = rw (e, f) refl

there_set : (z : ℕ) (t : ℤ) (at : NodePath) (content : Option (List ℕ)) (tree : Tree) (path : NodePath)
    → is_some (apply z t (Sets at content) tree path) ≡ is_some (tree path)
there_set z t at content tree path = go (path_eq path at) refl
  where
    go : (b : Bool) → path_eq path at ≡ b → is_some (apply z t (Sets at content) tree path) ≡ is_some (tree path)
    go true e = rw e (some_written z t content (tree path))
    go false e = rw e refl

tail_is : (m name : Name) (path above : NodePath) → path_eq (m ∷ path) (name ∷ above) ≡ true → path ≡ above
tail_is m name path above e = ap (λ (p : NodePath). drop 1 p) (path_eq-true (m ∷ path) (name ∷ above) e)

rooted_created : (name : Name) (above : NodePath) (tree : Tree) → is_some (tree above) ≡ true → Rooted tree
    → (m : Name) (path : NodePath) → is_there true (name ∷ above) tree (m ∷ path) ≡ true → is_there true (name ∷ above) tree path ≡ true
rooted_created name above tree parent rooted m path there = go (path_eq path (name ∷ above)) refl (path_eq (m ∷ path) (name ∷ above)) refl
  where
    go : (b : Bool) → path_eq path (name ∷ above) ≡ b → (d : Bool)
        → path_eq (m ∷ path) (name ∷ above) ≡ d → is_there true (name ∷ above) tree path ≡ true
    go true e d f = rw e refl
    go false e true f = rw e (subst (λ (p : NodePath). is_some (tree p) ≡ true) (sym (tail_is m name path above f)) parent)
    go false e false f = rw e (rooted m path (rw f at there))

rooted_deleted : (name : Name) (above : NodePath) (tree : Tree) → ((child : Name) → tree (child ∷ name ∷ above) ≡ None) → Rooted tree
    → (m : Name) (path : NodePath) → is_there false (name ∷ above) tree (m ∷ path) ≡ true → is_there false (name ∷ above) tree path ≡ true
rooted_deleted name above tree bare rooted m path there = go (path_eq path (name ∷ above)) refl (path_eq (m ∷ path) (name ∷ above)) refl
  where
    go : (b : Bool) → path_eq path (name ∷ above) ≡ b → (d : Bool)
        → path_eq (m ∷ path) (name ∷ above) ≡ d → is_there false (name ∷ above) tree path ≡ true
    go b e true f = let k : false ≡ true = rw f at there in absurd cc
    go true e false f =
        let k : is_some (tree (m ∷ path)) ≡ true = rw f at there in
        let l : is_some (tree (m ∷ path)) ≡ false =
        ap is_some (subst (λ (p : NodePath). tree (m ∷ p) ≡ None) (sym (path_eq-true path (name ∷ above) e)) (bare m)) in
        absurd cc
    go false e false f = rw e (rooted m path (rw f at there))

rooted_one : (z : ℕ) (t : ℤ) (c : Change) (tree : Tree) → IsLegal c tree → Rooted tree → Rooted (apply z t c tree)
rooted_one z t (Creates [] content owner) tree legal rooted m path there = absurd legal
rooted_one z t (Creates (name ∷ above) content owner) tree legal rooted m path there =
    there_created z t name above content owner tree path
    ∙ rooted_created name above tree legal.1 rooted m path (sym (there_created z t name above content owner tree (m ∷ path)) ∙ there)
rooted_one z t (Sets at content) tree legal rooted m path there =
    there_set z t at content tree path ∙ rooted m path (sym (there_set z t at content tree (m ∷ path)) ∙ there)
rooted_one z t (Deletes []) tree legal rooted m path there = absurd legal
rooted_one z t (Deletes (name ∷ above)) tree legal rooted m path there =
    there_deleted z t name above tree path
    ∙ rooted_deleted name above tree legal.1 rooted m path (sym (there_deleted z t name above tree (m ∷ path)) ∙ there)

rooted_all : (z : ℕ) (t : ℤ) (cs : List Change) (tree : Tree) → AreLegal z t cs tree → Rooted tree → Rooted (apply_all z t cs tree)
rooted_all z t [] tree legal rooted = rooted
rooted_all z t (c ∷ cs) tree legal rooted = rooted_all z t cs (apply z t c tree) legal.1 (rooted_one z t c tree legal.0 rooted)

-- what is at most z is a beginning, since zxids rise
none_later : (z low : ℕ) (txs : List Transaction) → z ≤ low → AreRising low txs → up_to z txs ≡ []
none_later z low [] le rising = refl
none_later z low (x ∷ xs) le rising =
    let above = rising.0 in
    let out : nat_le x.zxid z ≡ false = grind (arith, nat_tests) in
    rw out (none_later z x.zxid xs (omega arith) rising.2)

rooted_up_to : (z low : ℕ) (txs : List Transaction) (tree : Tree)
    → AreRising low txs → AllLegal txs tree → Rooted tree → Rooted (after (up_to z txs) tree)
rooted_up_to z low [] tree rising legal rooted = rooted
rooted_up_to z low (x ∷ xs) tree rising legal rooted =
    go (λ (u : Unit {0}). rooted_up_to z x.zxid xs (apply_all x.zxid x.time x.changes tree) rising.2 legal.1
    (rooted_all x.zxid x.time x.changes tree legal.0 rooted)) (nat_le x.zxid z) refl
  where
    go : (Unit {0} → Rooted (after (up_to z xs) (apply_all x.zxid x.time x.changes tree))) → (b : Bool)
        → nat_le x.zxid z ≡ b → Rooted (after (up_to z (x ∷ xs)) tree)
    go more true e = rw e (more tt)
    go more false e =
        let high : z ≤ x.zxid = grind (arith, nat_tests) in
        rw (e, none_later z x.zxid xs high rising.2) rooted

pub rooted_at : (h : History) (zxid : ℕ) → IsHistory h → Rooted (tree_at h zxid)
rooted_at h zxid is = rooted_up_to zxid 0 h.transactions h.first is.rising is.legal is.parents
