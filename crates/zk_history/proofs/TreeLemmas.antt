-- The tree of a history at one path is what a replay of that path gives.
use Rattle.std.proofs.Common.{◌≡◌, ℕ, ◌+◌, ◌-◌, ◌<◌, ◌≤◌, ℤ, Bool, true, false, ◌&&◌, ◌||◌, not, cond, leb, List, [], ◌∷◌, Option, Some}
use Rattle.std.proofs.Common.{None, is_some, refl, sym, ap, subst, ◌∙◌, arith}
use Rattle.std.specs.Bool.{⊤}
use Rattle.std.proofs.lemmas.Bool.{cond-true, cond-false, leb-true}
use Rattle.std.proofs.lemmas.Bool.Decides.{nat_tests}
use Rattle.std.specs.List.{list_all}
use Rattle.std.specs.FinSet as set
use Rattle.std.specs.Ordering.{nat_cmp, eq_by_cmp}
use Rattle.std.specs.Cmp.Lexicographic.{slice_cmp}
use Rattle.std.proofs.lemmas.Cmp.{nat_list_cmp_total}
use Rattle.zk_nodes.specs.Path.{Name, NodePath, path_eq}
use Rattle.zk_nodes.specs.History.{Node, Tree, Change, Creates, Sets, Deletes, Transaction, made, written, regrouped, apply, apply_all}
use Rattle.zk_nodes.specs.History.{after, up_to, AreRising}
use Rattle.zk_nodes.specs.Names.{Names, name_cmp}
use Rattle.zk_history.specs.inner.Replay.{node_after, node_after_all, node_at, CanRise, CanRiseAll, CanRiseAt}
use Rattle.zk_history.specs.Replay.{children_after, children_after_all}
use Rattle.zk_history.specs.Replay.{children_at, count_after, count_after_all, count_at}
use Rattle.zk_history.specs.inner.Replay.{IsCounted, IsCountedAt}
use Rattle.zk_history.specs.HistoryView.{HasChildren, IsAccepted, AreAccepted, AllAccepted, root_tree}
use Rattle.zk_nodes.proofs.PathTexts.{path_eq-true}
use Rattle.std.specs.Prelude.{bytes_eq, option_map}
use Rattle.zk_nodes.proofs.NamesLemmas.{tested}

-- one path

pub apply-node : (z : ℕ) (t : ℤ) (c : Change) (tree : Tree) (p : NodePath) → apply z t c tree p ≡ node_after z t p c (tree p)
apply-node z t (Creates [] content owner) tree p = refl
apply-node z t (Creates (name ∷ path) content owner) tree p = refl
apply-node z t (Sets path content) tree p = refl
apply-node z t (Deletes []) tree p = refl
apply-node z t (Deletes (name ∷ path)) tree p = refl

pub apply_all-node : (z : ℕ) (t : ℤ) (cs : List Change) (tree : Tree) (p : NodePath)
    → apply_all z t cs tree p ≡ node_after_all z t p cs (tree p)
apply_all-node z t [] tree p = refl
apply_all-node z t (c ∷ cs) tree p = apply_all-node z t cs (apply z t c tree) p ∙ ap (node_after_all z t p cs) (apply-node z t c tree p)

-- the tree after a transaction, where it is taken
abbrev pub taken : ℕ → Transaction → Tree → Tree
taken z one tree = cond (leb one.zxid z) (apply_all one.zxid one.time one.changes tree) tree

taken-node : (b : Bool) (one : Transaction) (tree : Tree) (p : NodePath) → cond b (apply_all one.zxid one.time one.changes tree) tree p
    ≡ cond b (node_after_all one.zxid one.time p one.changes (tree p)) (tree p)
taken-node true one tree p = apply_all-node one.zxid one.time one.changes tree p
taken-node false one tree p = refl

pub after-taken : (z : ℕ) (one : Transaction) (more : List Transaction) (tree : Tree)
    → after (up_to z (one ∷ more)) tree ≡ after (up_to z more) (taken z one tree)
after-taken z one more tree =
    elim (leb one.zxid z) as (λ b. after (cond b (one ∷ up_to z more) (up_to z more)) tree
    ≡ after (up_to z more) (cond b (apply_all one.zxid one.time one.changes tree) tree)) [ true ↦ refl | false ↦ refl ]

pub after-node : (z : ℕ) (ts : List Transaction) (tree : Tree) (p : NodePath) → after (up_to z ts) tree p ≡ node_at z p ts (tree p)
after-node z [] tree p = refl
after-node z (one ∷ more) tree p =
    ap (λ t. t p) (after-taken z one more tree) ∙ after-node z more (taken z one tree) p
    ∙ ap (node_at z p more) (taken-node (leb one.zxid z) one tree p)

-- transactions that are all taken
pub up_to-all : (z : ℕ) (ts : List Transaction) → list_all (λ one. leb one.zxid z) ts ≡ true → up_to z ts ≡ ts
up_to-all z [] e = refl
up_to-all z (one ∷ more) e =
    let a : leb one.zxid z ≡ true = grind (arith, e) in
    let b : list_all (λ one. leb one.zxid z) more ≡ true = grind (arith, e) in
    cond-true (leb one.zxid z) (one ∷ up_to z more) (up_to z more) a ∙ ap (λ ts. one ∷ ts) (up_to-all z more b)

-- the changes of the transactions that are taken are accepted
abbrev pub TakenAccepted : ℕ → List Transaction → Tree → Type 0
TakenAccepted z [] tree = ⊤
TakenAccepted z (one ∷ more) tree =
    (leb one.zxid z ≡ true → AreAccepted one.zxid one.time one.changes tree) × TakenAccepted z more (taken z one tree)

pub TakenAccepted-all : (z : ℕ) (ts : List Transaction) (tree : Tree)
    → list_all (λ one. leb one.zxid z) ts ≡ true → AllAccepted ts tree → TakenAccepted z ts tree
TakenAccepted-all z [] tree e h = tt
TakenAccepted-all z (one ∷ more) tree e h =
    let a : leb one.zxid z ≡ true = grind (arith, e) in
    let b : list_all (λ one. leb one.zxid z) more ≡ true = grind (arith, e) in (
      λ _. h.0,
      TakenAccepted-all z more (taken z one tree) b
          (subst (AllAccepted more) (sym (cond-true (leb one.zxid z) (apply_all one.zxid one.time one.changes tree) tree a)) h.1),
    )

-- past a zxid nothing is taken
TakenAccepted-none : (z low : ℕ) (ts : List Transaction) (tree : Tree) → z < low → AreRising low ts → TakenAccepted z ts tree
TakenAccepted-none z low [] tree l r = tt
TakenAccepted-none z low (one ∷ more) tree l r =
    let n : z < one.zxid = omega (arith, r.0) in
    (λ e. absurd (omega (arith, leb-true one.zxid z e, n)), TakenAccepted-none z one.zxid more (taken z one tree) n r.2)

pub TakenAccepted-rising : (z low : ℕ) (ts : List Transaction) (tree : Tree)
    → AreRising low ts → AllAccepted ts tree → TakenAccepted z ts tree
TakenAccepted-rising z low [] tree r h = tt
TakenAccepted-rising z low (one ∷ more) tree r h = (
  λ _. h.0,
  elim (leb one.zxid z) as (λ b. leb one.zxid z ≡ b → TakenAccepted z more (cond b (apply_all one.zxid one.time one.changes tree) tree)) [
    | true ↦ λ e. TakenAccepted-rising z one.zxid more (apply_all one.zxid one.time one.changes tree) r.2 h.1
    | false ↦ λ e. let n : z < one.zxid = grind (arith, nat_tests, e) in TakenAccepted-none z one.zxid more tree n r.2
  ] refl,
)

-- versions can rise

rises_one : (c : Change) (tree : Tree) (p : NodePath) → IsAccepted c tree → CanRise p c (tree p)
rises_one (Creates [] content owner) tree p h = absurd h.0
rises_one (Creates (name ∷ path) content owner) tree p h = h.1.0
rises_one (Sets path content) tree p h = (
  h.1,
  λ e n held.
      let same : Some (h.0.0) ≡ Some n = sym h.0.1 ∙ ap tree (sym (path_eq-true p path e)) ∙ held in
      let is : h.0.0 ≡ n = cc in
      let P : Node → Type 0 = λ m. m.version < 2147483647 in
      subst P is h.0.2,
)
rises_one (Deletes path) tree p h = tt

rises_all : (z : ℕ) (t : ℤ) (cs : List Change) (tree : Tree) (p : NodePath) → AreAccepted z t cs tree → CanRiseAll z t p cs (tree p)
rises_all z t [] tree p h = tt
rises_all z t (c ∷ cs) tree p h =
    (rises_one c tree p h.0, subst (CanRiseAll z t p cs) (apply-node z t c tree p) (rises_all z t cs (apply z t c tree) p h.1))

pub rises_at : (z : ℕ) (ts : List Transaction) (tree : Tree) (p : NodePath) → TakenAccepted z ts tree → CanRiseAt z p ts (tree p)
rises_at z [] tree p h = tt
rises_at z (one ∷ more) tree p h = (
  λ e. rises_all one.zxid one.time one.changes tree p (h.0 e),
  subst (CanRiseAt z p more) (taken-node (leb one.zxid z) one tree p) (rises_at z more (taken z one tree) p h.1),
)

-- the names of children

is_some-on_option : (f : Node → Node) (held : Option Node) → is_some (option_map f held) ≡ is_some held
is_some-on_option f None = refl
is_some-on_option f (Some held) = refl

maybe_regrouped : (b : Bool) (f : Node → Node) (held : Option Node) → is_some (cond b (option_map f held) held) ≡ is_some held
maybe_regrouped true f held = is_some-on_option f held
maybe_regrouped false f held = refl

-- whether a child is there after a creation, and after a deletion
created : (same below : Bool) (b : Bool) (n : Node) (f : Node → Node) (held : Option Node) (old : Bool) → old ≡ is_some held
    → cond below (same || old) old ≡ is_some (cond (same && below) (Some n) (cond b (option_map f held) held))
created true true b n f held old e = refl
created true false b n f held old e = e ∙ sym (maybe_regrouped b f held)
created false true b n f held old e = e ∙ sym (maybe_regrouped b f held)
created false false b n f held old e = e ∙ sym (maybe_regrouped b f held)

deleted : (same below : Bool) (b : Bool) (f : Node → Node) (held : Option Node) (old : Bool) → old ≡ is_some held
    → cond below (not same && old) old ≡ is_some (cond (same && below) None (cond b (option_map f held) held))
deleted true true b f held old e = refl
deleted true false b f held old e = e ∙ sym (maybe_regrouped b f held)
deleted false true b f held old e = e ∙ sym (maybe_regrouped b f held)
deleted false false b f held old e = e ∙ sym (maybe_regrouped b f held)

-- a test of a set that may have changed
picked : (b : Bool) (s t : Names) (q : Name) → set.contains (cond b s t) q ≡ cond b (set.contains s q) (set.contains t q)
picked true s t q = refl
picked false s t q = refl

named : (q k : Name) → eq_by_cmp (slice_cmp nat_cmp) q k ≡ bytes_eq q k
named q k = tested q k

pub children_one : (z : ℕ) (t : ℤ) (c : Change) (tree : Tree) (p : NodePath) (names : Names)
    → HasChildren tree p names → HasChildren (apply z t c tree) p (children_after p c names)
children_one z t (Creates [] content owner) tree p names h q = h q
children_one z t (Creates (name ∷ path) content owner) tree p names h q =
    picked (path_eq p path) (set.insert names name) names q
    ∙ ap (λ b. cond (path_eq p path) b (set.contains names q))
    (set.contains-insert nat_list_cmp_total names name q ∙ ap (λ b. b || set.contains names q) (named q name))
    ∙ created (bytes_eq q name) (path_eq p path) (path_eq (q ∷ p) path) (made z t content owner) (regrouped z) (tree (q ∷ p))
    (set.contains names q) (h q)
children_one z t (Sets path content) tree p names h q =
    h q ∙ sym (maybe_regrouped (path_eq (q ∷ p) path) (written z t content) (tree (q ∷ p)))
children_one z t (Deletes []) tree p names h q = h q
children_one z t (Deletes (name ∷ path)) tree p names h q =
    picked (path_eq p path) (set.remove names name) names q
    ∙ ap (λ b. cond (path_eq p path) b (set.contains names q))
    (set.contains-remove nat_list_cmp_total names name q ∙ ap (λ b. not b && set.contains names q) (named q name))
    ∙ deleted (bytes_eq q name) (path_eq p path) (path_eq (q ∷ p) path) (regrouped z) (tree (q ∷ p)) (set.contains names q) (h q)

pub children_all : (z : ℕ) (t : ℤ) (cs : List Change) (tree : Tree) (p : NodePath) (names : Names)
    → HasChildren tree p names → HasChildren (apply_all z t cs tree) p (children_after_all p cs names)
children_all z t [] tree p names h = h
children_all z t (c ∷ cs) tree p names h =
    children_all z t cs (apply z t c tree) p (children_after p c names) (children_one z t c tree p names h)

taken_children : (b : Bool) (one : Transaction) (tree : Tree) (p : NodePath) (names : Names) → HasChildren tree p names
    → HasChildren (cond b (apply_all one.zxid one.time one.changes tree) tree) p (cond b (children_after_all p one.changes names) names)
taken_children true one tree p names h = children_all one.zxid one.time one.changes tree p names h
taken_children false one tree p names h = h

pub children_up_to : (z : ℕ) (ts : List Transaction) (tree : Tree) (p : NodePath) (names : Names)
    → HasChildren tree p names → HasChildren (after (up_to z ts) tree) p (children_at z p ts names)
children_up_to z [] tree p names h = h
children_up_to z (one ∷ more) tree p names h =
    subst (λ t. HasChildren t p (children_at z p (one ∷ more) names)) (sym (after-taken z one more tree))
    (children_up_to z more (taken z one tree) p (cond (leb one.zxid z) (children_after_all p one.changes names) names)
    (taken_children (leb one.zxid z) one tree p names h))

pub no_children : (p : NodePath) → HasChildren root_tree p set.empty
no_children p q = set.contains-empty name_cmp q

-- the number of children

counted_one : (c : Change) (tree : Tree) (p : NodePath) (names : Names)
    → IsAccepted c tree → HasChildren tree p names → set.len names ≤ 2147483647
    → (count_after p c (set.len names) ≡ set.len (children_after p c names)) × (set.len (children_after p c names) ≤ 2147483647)
counted_one (Creates [] content owner) tree p names a h l = absurd a.0
counted_one (Creates (name ∷ path) content owner) tree p names a h l =
    elim (path_eq p path) as
    (λ b. path_eq p path ≡ b → (cond b (set.len names + 1) (set.len names) ≡ set.len (cond b (set.insert names name) names))
    × (set.len (cond b (set.insert names name) names) ≤ 2147483647)) [
      | true ↦ λ e.
          let same : p ≡ path = path_eq-true p path e in
          let room : set.len names < 2147483647 = a.1.1 names (subst (λ x. HasChildren tree x names) same h) in
          let new : set.contains names name ≡ false = h name ∙ ap (λ x. is_some (tree (name ∷ x))) same ∙ ap is_some a.0.0 in
          let more : set.len (set.insert names name) ≡ set.len names + 1 =
          set.len-insert nat_list_cmp_total names name ∙ cond-false (set.contains names name) (set.len names) (set.len names + 1) new in
          (sym more, omega (arith, more, room))
      | false ↦ λ e. (refl, l)
    ] refl
counted_one (Sets path content) tree p names a h l = (refl, l)
counted_one (Deletes []) tree p names a h l = absurd a.0
counted_one (Deletes (name ∷ path)) tree p names a h l =
    elim (path_eq p path) as
    (λ b. path_eq p path ≡ b → (cond b (set.len names - 1) (set.len names) ≡ set.len (cond b (set.remove names name) names))
    × (set.len (cond b (set.remove names name) names) ≤ 2147483647)) [
      | true ↦ λ e.
          let same : p ≡ path = path_eq-true p path e in
          let there : set.contains names name ≡ true = h name ∙ ap (λ x. is_some (tree (name ∷ x))) same ∙ a.0.0 in
          let fewer : set.len (set.remove names name) ≡ set.len names - 1 = set.len-remove nat_list_cmp_total names name
          ∙ cond-true (set.contains names name) (set.len names - 1) (set.len names) there in
          (sym fewer, omega (arith, fewer, l))
      | false ↦ λ e. (refl, l)
    ] refl

counted_all : (z : ℕ) (t : ℤ) (cs : List Change) (tree : Tree) (p : NodePath) (names : Names)
    → AreAccepted z t cs tree → HasChildren tree p names → set.len names ≤ 2147483647
    → IsCounted p cs (set.len names) × (count_after_all p cs (set.len names) ≡ set.len (children_after_all p cs names))
    × (set.len (children_after_all p cs names) ≤ 2147483647)
counted_all z t [] tree p names a h l = (l, refl, l)
counted_all z t (c ∷ cs) tree p names a h l =
    let one = counted_one c tree p names a.0 h l in
    let rest = counted_all z t cs (apply z t c tree) p (children_after p c names) a.1 (children_one z t c tree p names h) one.1 in
    ((l, subst (IsCounted p cs) (sym one.0) rest.0), ap (count_after_all p cs) one.0 ∙ rest.1, rest.2)

pub counted_at : (z : ℕ) (ts : List Transaction) (tree : Tree) (p : NodePath) (names : Names)
    → TakenAccepted z ts tree → HasChildren tree p names → set.len names ≤ 2147483647
    → IsCountedAt z p ts (set.len names) × (count_at z p ts (set.len names) ≡ set.len (children_at z p ts names))
    × (set.len (children_at z p ts names) ≤ 2147483647)
counted_at z [] tree p names a h l = (l, refl, l)
counted_at z (one ∷ more) tree p names a h l =
    let here : leb one.zxid z ≡ true → IsCounted p one.changes (set.len names) =
    λ e. (counted_all one.zxid one.time one.changes tree p names (a.0 e) h l).0 in
    elim (leb one.zxid z) as (λ b. leb one.zxid z ≡ b → TakenAccepted z more (cond b (apply_all one.zxid one.time one.changes tree) tree)
    → ((leb one.zxid z ≡ true → IsCounted p one.changes (set.len names))
    × IsCountedAt z p more (cond b (count_after_all p one.changes (set.len names)) (set.len names)))
    × (count_at z p more (cond b (count_after_all p one.changes (set.len names)) (set.len names))
    ≡ set.len (children_at z p more (cond b (children_after_all p one.changes names) names)))
    × (set.len (children_at z p more (cond b (children_after_all p one.changes names) names)) ≤ 2147483647)) [
      | true ↦ λ e after_one.
          let now = counted_all one.zxid one.time one.changes tree p names (a.0 e) h l in
          let rest = counted_at z more (apply_all one.zxid one.time one.changes tree) p (children_after_all p one.changes names) after_one
          (children_all one.zxid one.time one.changes tree p names h) now.2 in
          ((here, subst (IsCountedAt z p more) (sym now.1) rest.0), ap (count_at z p more) now.1 ∙ rest.1, rest.2)
      | false ↦ λ e after_one.
          let rest = counted_at z more tree p names after_one h l in
          ((here, rest.0), rest.1, rest.2)
    ] refl a.1
