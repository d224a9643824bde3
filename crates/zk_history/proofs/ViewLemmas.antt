-- What a sound history gives at each path, and that what is added keeps it sound.
use Rattle.std.specs.Prelude.{slice_get}
use Rattle.std.proofs.Common.{◌≡◌, ℕ, zero, suc, ◌+◌, ◌<◌, ◌≤◌, ◌==◌, ◌^◌, ℤ, pos, negsuc, ◌<ℤ◌, Result, Ok, Err, OnOk, OnErr, Bool, true}
use Rattle.std.proofs.Common.{false, ◌&&◌, not, eqb, leb, ltb, List, [], ◌∷◌, ◌++◌, length, get_or, take, map, option_map, Option, Some}
use Rattle.std.proofs.Common.{None, is_some, refl, sym, ap, subst, ◌∙◌, arith, Decides}
use Rattle.std.proofs.lemmas.Bool.{leb-true, ltb-true, eqb-true, false≢true}
use Rattle.std.proofs.lemmas.Bool.Decides.{nat_tests}
use Rattle.std.proofs.lemmas.Int.{ints}
use Rattle.std.proofs.lemmas.List.Folds.{list_all-append}
use Rattle.std.proofs.Math.ListN.{set as set_at}
use Rattle.std.proofs.lemmas.List.{take-append-drop, drop_more, drop_all, map-append}
use Rattle.zk_nodes.proofs.NamesLemmas.{same_names}
use Rattle.std.specs.List.{list_all}
use Rattle.std.specs.FinSet as set
use Rattle.zk_nodes.specs.Path.{Name, NodePath}
use Rattle.zk_nodes.specs.History.{Node, Tree, Change, Creates, Sets, Deletes, Transaction, apply, apply_all, after, tree_at, size_of}
use Rattle.zk_nodes.specs.History.{AreRising, newest}
use Rattle.zk_nodes.specs.Names.{Names, name_cmp}
use Rattle.zk_history.specs.inner.Replay.{node_at, CanRiseAt, IsCountedAt}
use Rattle.zk_history.specs.Replay.{children_at, count_at}
use Rattle.zk_history.specs.HistoryView.{HistoryView, history_of, first_tree, newest_tree, HasChildren, HasRoom, IsAccepted}
use Rattle.zk_history.specs.inner.HistoryView.{newest_count}
use Rattle.zk_history.specs.HistoryView.{AreAccepted, AllAccepted, root_tree, is_first, IsSound, natural, last_with, with_one, with_change}
use Rattle.zk_history.specs.HistoryView.{with_transaction, with_node}
use Rattle.zk_history.specs.inner.Accepting.{accepts, can_rise}
use Rattle.zk_history.proofs.TreeLemmas.{after-node, up_to-all, TakenAccepted-all, TakenAccepted-rising, rises_at, children_up_to}
use Rattle.zk_history.proofs.TreeLemmas.{no_children, counted_at}

-- the nodes of the first tree are all taken
firsts_taken : (z : ℕ) (ts : List Transaction) → list_all is_first ts ≡ true → list_all (λ one. leb one.zxid z) ts ≡ true
firsts_taken z [] e = refl
firsts_taken z (one ∷ more) e =
    let a : eqb one.zxid 0 ≡ true = grind (arith, e) in
    let b : list_all is_first more ≡ true = grind (arith, e) in
    let l : leb one.zxid z ≡ true = grind (arith, nat_tests, a) in
    grind (arith, l, firsts_taken z more b)

pub first_rises : (kept : HistoryView) (p : NodePath) → IsSound kept → CanRiseAt 0 p kept.nodes (root_tree p)
first_rises kept p s =
    rises_at 0 kept.nodes root_tree p (TakenAccepted-all 0 kept.nodes root_tree (firsts_taken 0 kept.nodes s.first) s.nodes)

pub first_node : (kept : HistoryView) (p : NodePath) → IsSound kept → node_at 0 p kept.nodes (root_tree p) ≡ first_tree kept p
first_node kept p s = sym (after-node 0 kept.nodes root_tree p)
    ∙ ap (λ ts. after ts root_tree p) (up_to-all 0 kept.nodes (firsts_taken 0 kept.nodes s.first))

pub later_rises : (kept : HistoryView) (z : ℕ) (p : NodePath) → IsSound kept → CanRiseAt z p kept.transactions (first_tree kept p)
later_rises kept z p s =
    rises_at z kept.transactions (first_tree kept) p (TakenAccepted-rising z 0 kept.transactions (first_tree kept) s.rising s.changes)

pub later_node : (kept : HistoryView) (z : ℕ) (p : NodePath)
    → node_at z p kept.transactions (first_tree kept p) ≡ tree_at (history_of kept) z p
later_node kept z p = sym (after-node z kept.transactions (first_tree kept) p)

-- the names of children
abbrev pub names_first : HistoryView → NodePath → Names
names_first kept p = children_at 0 p kept.nodes set.empty

pub names_first-children : (kept : HistoryView) (p : NodePath) → IsSound kept → HasChildren (first_tree kept) p (names_first kept p)
names_first-children kept p s =
    subst (λ ts. HasChildren (after ts root_tree) p (names_first kept p)) (up_to-all 0 kept.nodes (firsts_taken 0 kept.nodes s.first))
    (children_up_to 0 kept.nodes root_tree p set.empty (no_children p))

pub names_later-children : (kept : HistoryView) (z : ℕ) (p : NodePath)
    → IsSound kept → HasChildren (tree_at (history_of kept) z) p (children_at z p kept.transactions (names_first kept p))
names_later-children kept z p s =
    children_up_to z kept.transactions (first_tree kept) p (names_first kept p) (names_first-children kept p s)

-- the number of children
pub count_first : (kept : HistoryView) (p : NodePath) → IsSound kept → IsCountedAt 0 p kept.nodes 0
    × (count_at 0 p kept.nodes 0 ≡ set.len (names_first kept p)) × (set.len (names_first kept p) ≤ 2147483647)
count_first kept p s =
    let P : ℕ → Type 0 = λ n. IsCountedAt 0 p kept.nodes n × (count_at 0 p kept.nodes n ≡ set.len (names_first kept p))
    × (set.len (names_first kept p) ≤ 2147483647) in
    let none : set.len (set.empty {R = name_cmp}) ≡ 0 = set.len-empty name_cmp in
    subst P none (counted_at 0 kept.nodes root_tree p set.empty
    (TakenAccepted-all 0 kept.nodes root_tree (firsts_taken 0 kept.nodes s.first) s.nodes) (no_children p) (omega (arith, none)))

pub count_later : (kept : HistoryView) (z : ℕ) (p : NodePath) → IsSound kept
    → IsCountedAt z p kept.transactions (set.len (names_first kept p))
    × (count_at z p kept.transactions (set.len (names_first kept p)) ≡ set.len (children_at z p kept.transactions (names_first kept p)))
    × (set.len (children_at z p kept.transactions (names_first kept p)) ≤ 2147483647)
count_later kept z p s =
    counted_at z kept.transactions (first_tree kept) p (names_first kept p)
    (TakenAccepted-rising z 0 kept.transactions (first_tree kept) s.rising s.changes) (names_first-children kept p s)
    (count_first kept p s).2

-- above every zxid
all_below : (low : ℕ) (ts : List Transaction) → AreRising low ts → list_all (λ one. leb one.zxid 9223372036854775808) ts ≡ true
all_below low [] r = refl
all_below low (one ∷ more) r =
    let b : one.zxid < 9223372036854775808 = r.1 in
    let l : leb one.zxid 9223372036854775808 ≡ true = grind (arith, nat_tests, b) in
    grind (arith, l, all_below one.zxid more r.2)

pub newest-tree_at : (kept : HistoryView) → IsSound kept → tree_at (history_of kept) 9223372036854775808 ≡ newest_tree kept
newest-tree_at kept s =
    ap (λ ts. after ts (first_tree kept)) (up_to-all 9223372036854775808 kept.transactions (all_below 0 kept.transactions s.rising))

pub newest_children : (kept : HistoryView) (p : NodePath)
    → IsSound kept → HasChildren (newest_tree kept) p (children_at 9223372036854775808 p kept.transactions (names_first kept p))
newest_children kept p s = subst (λ t. HasChildren t p (children_at 9223372036854775808 p kept.transactions (names_first kept p)))
    (newest-tree_at kept s) (names_later-children kept 9223372036854775808 p s)

-- the last of a list
pub at_last : {X : Type 0} (xs : List X) (n : ℕ) (x : X) → n + 1 ≡ length xs → x ≡ get_or xs n x → xs ≡ take n xs ++ x ∷ []
at_last xs n x l e =
    sym (take-append-drop n xs)
    ∙ ap (λ ys. take n xs ++ ys) (drop_more xs n x (omega (arith, l))
    ∙ ap (λ ys. get_or xs n x ∷ ys) (drop_all (n + 1) xs (omega (arith, l))) ∙ ap (λ y. y ∷ []) (sym e))

pub newest-push : (low : ℕ) (ts : List Transaction) (one : Transaction) → newest low (ts ++ one ∷ []) ≡ one.zxid
newest-push low [] one = refl
newest-push low (a ∷ ts) one = newest-push a.zxid ts one

-- the newest zxid, of transactions that stand for values
pub newest-mapped : {X : Type 0} (f : X → Transaction) (xs : List X) (n : ℕ) (x : X)
    → n + 1 ≡ length xs → x ≡ get_or xs n x → newest 0 (map f xs) ≡ (f x).zxid
newest-mapped f xs n x l e =
    ap (λ ys. newest 0 (map f ys)) (at_last xs n x l e) ∙ ap (newest 0) (map-append f (take n xs) (x ∷ []))
    ∙ newest-push 0 (map f (take n xs)) (f x)

-- two sets of the same children have one size
pub same_count : (tree : Tree) (p : NodePath) (a b : Names) → HasChildren tree p a → HasChildren tree p b → set.len a ≡ set.len b
same_count tree p a b h k = ap set.len (same_names a b (λ q. h q ∙ sym (k q)))

pub no_names : {X : Type 0} (f : X → Name) (xs : List X) → xs ≡ [] → set.from_list {R = name_cmp} (map f xs) ≡ set.empty
no_names f xs e = ap (λ ys. set.from_list (map f ys)) e

-- the test of a change decides

Decides-HasRoom : (kept : HistoryView) (p : NodePath)
    → IsSound kept → Decides (ltb (newest_count kept p) 2147483647) (HasRoom (newest_tree kept) p)
Decides-HasRoom kept p s = (
  λ e names h.
      let same : newest_count kept p ≡ set.len names = same_count (newest_tree kept) p _ names (newest_children kept p s) h in
      let lt : newest_count kept p < 2147483647 = grind (arith, nat_tests, e) in
      omega (arith, same, lt),
  λ room. let lt : newest_count kept p < 2147483647 = room _ (newest_children kept p s) in grind (arith, nat_tests, lt),
)

both : (a b : Bool) → (a && b) ≡ true → (a ≡ true) × (b ≡ true)
both true b e = (refl, e)
both false b e = absurd (false≢true e)

and_true : (a b : Bool) → a ≡ true → b ≡ true → (a && b) ≡ true
and_true a b e f = ap (λ x. x && b) e ∙ f

none_from : (o : Option Node) → is_some o ≡ false → o ≡ None
none_from None e = refl
none_from (Some n) e = absurd (false≢true (sym e))

none_from_not : (o : Option Node) → not (is_some o) ≡ true → o ≡ None
none_from_not None e = refl
none_from_not (Some n) e = absurd (false≢true e)

rises_from : (o : Option Node) → can_rise o ≡ true → (n : Node) × (o ≡ Some n) × (n.version < 2147483647)
rises_from None e = absurd (false≢true e)
rises_from (Some n) e = (n, refl, ltb-true n.version 2147483647 e)

leb-le : (a b : ℕ) → a ≤ b → leb a b ≡ true
leb-le a b h = grind (arith, nat_tests, h)

ltb-lt : (a b : ℕ) → a < b → ltb a b ≡ true
ltb-lt a b h = grind (arith, nat_tests, h)

childless : (kept : HistoryView) (p : NodePath) → IsSound kept → newest_count kept p ≡ 0 → (child : Name)
    → newest_tree kept (child ∷ p) ≡ None
childless kept p s e child =
    let names = children_at 9223372036854775808 p kept.transactions (names_first kept p) in
    let is : names ≡ set.empty = set.empty_of_len names e in
    none_from (newest_tree kept (child ∷ p))
    (sym (newest_children kept p s child) ∙ ap (λ (x : Names). set.contains x child) is ∙ set.contains-empty name_cmp child)

no_count : (kept : HistoryView) (p : NodePath) → IsSound kept → ((child : Name) → newest_tree kept (child ∷ p) ≡ None)
    → newest_count kept p ≡ 0
no_count kept p s h =
    let names = children_at 9223372036854775808 p kept.transactions (names_first kept p) in
    let is : names ≡ set.empty = same_names names set.empty
    (λ child. newest_children kept p s child ∙ ap is_some (h child) ∙ sym (set.contains-empty name_cmp child)) in
    ap set.len is ∙ set.len-empty name_cmp

pub Decides-accepts : (kept : HistoryView) (change : Change)
    → IsSound kept → Decides (accepts (newest_tree kept) (newest_count kept) change) (IsAccepted change (newest_tree kept))
Decides-accepts kept (Creates [] content owner) s = (λ e. cc, λ h. absurd h.0)
Decides-accepts kept (Creates (name ∷ path) content owner) s =
    let tree = newest_tree kept in
    let room = Decides-HasRoom kept path s in (
      λ e.
          let size = both (leb (size_of content) 2147483647) _ e in
          let absent = both (not (is_some (newest_tree kept (name ∷ path)))) _ size.1 in
          let there = both (is_some (newest_tree kept path)) _ absent.1 in (
            (none_from_not (newest_tree kept (name ∷ path)) absent.0, there.0),
            (leb-true (size_of content) 2147483647 size.0, room.0 there.1),
          ),
      λ h.
          and_true _ _ (leb-le (size_of content) 2147483647 h.1.0)
          (and_true _ _ (ap (λ (o : Option Node). not (is_some o)) h.0.0) (and_true _ _ h.0.1 (room.1 h.1.1))),
    )
Decides-accepts kept (Sets path content) s = (
  λ e.
      let size = both (leb (size_of content) 2147483647) _ e in
      (rises_from (newest_tree kept path) size.1, leb-true (size_of content) 2147483647 size.0),
  λ h. and_true _ _ (leb-le (size_of content) 2147483647 h.1) (ap can_rise h.0.1 ∙ ltb-lt h.0.0.version 2147483647 h.0.2),
)
Decides-accepts kept (Deletes []) s = (λ e. cc, λ h. absurd h.0)
Decides-accepts kept (Deletes (name ∷ path)) s = (
  λ e.
      let there = both (is_some (newest_tree kept (name ∷ path))) _ e in
      let none : newest_count kept (name ∷ path) ≡ 0 = eqb-true (newest_count kept (name ∷ path)) 0 there.1 in
      ((there.0, childless kept (name ∷ path) s none), tt),
  λ h.
      let none : newest_count kept (name ∷ path) ≡ 0 = no_count kept (name ∷ path) s h.0.1 in
      let test : (newest_count kept (name ∷ path) == 0) ≡ true = grind (arith, nat_tests, none) in
      and_true _ _ h.0.0 test,
)

-- more of the same

AreAccepted-push : (z : ℕ) (t : ℤ) (cs : List Change) (c : Change) (tree : Tree)
    → AreAccepted z t cs tree → IsAccepted c (apply_all z t cs tree) → AreAccepted z t (cs ++ c ∷ []) tree
AreAccepted-push z t [] c tree h k = (k, tt)
AreAccepted-push z t (x ∷ cs) c tree h k = (h.0, AreAccepted-push z t cs c (apply z t x tree) h.1 k)

AllAccepted-push : (ts : List Transaction) (one : Transaction) (tree : Tree)
    → AllAccepted ts tree → AreAccepted one.zxid one.time one.changes (after ts tree) → AllAccepted (ts ++ one ∷ []) tree
AllAccepted-push [] one tree h k = (k, tt)
AllAccepted-push (x ∷ ts) one tree h k = (h.0, AllAccepted-push ts one (apply_all x.zxid x.time x.changes tree) h.1 k)

AreRising-push : (low : ℕ) (ts : List Transaction) (one : Transaction)
    → AreRising low ts → newest low ts < one.zxid → one.zxid < 2 ^ 63 → AreRising low (ts ++ one ∷ [])
AreRising-push low [] one h k l = (k, l, tt)
AreRising-push low (x ∷ ts) one h k l = (h.0, h.1, AreRising-push x.zxid ts one h.2 k l)

AllAccepted-last_with : (ts : List Transaction) (c : Change) (tree : Tree) → AllAccepted ts tree → IsAccepted c (after ts tree)
    → AllAccepted (last_with ts c) tree
AllAccepted-last_with [] c tree h k = tt
AllAccepted-last_with (one ∷ []) c tree h k = (AreAccepted-push one.zxid one.time one.changes c tree h.0 k, tt)
AllAccepted-last_with (one ∷ two ∷ more) c tree h k =
    (h.0, AllAccepted-last_with (two ∷ more) c (apply_all one.zxid one.time one.changes tree) h.1 k)

AreRising-last_with : (low : ℕ) (ts : List Transaction) (c : Change) → AreRising low ts → AreRising low (last_with ts c)
AreRising-last_with low [] c h = h
AreRising-last_with low (one ∷ []) c h = h
AreRising-last_with low (one ∷ two ∷ more) c h = (h.0, h.1, AreRising-last_with one.zxid (two ∷ more) c h.2)

pub IsSound-change : (kept : HistoryView) (c : Change) → IsSound kept → IsAccepted c (newest_tree kept) → IsSound (with_change kept c)
IsSound-change kept c s k = record {
  first = s.first;
  nodes = s.nodes;
  rising = AreRising-last_with 0 kept.transactions c s.rising;
  changes = AllAccepted-last_with kept.transactions c (first_tree kept) s.changes k;
}

pub IsSound-transaction : (kept : HistoryView) (z : ℕ) (t : ℤ)
    → IsSound kept → newest 0 kept.transactions < z → z < 2 ^ 63 → IsSound (with_transaction kept z t)
IsSound-transaction kept z t s k l = record {
  first = s.first;
  nodes = s.nodes;
  rising = AreRising-push 0 kept.transactions (record { zxid = z; time = t; changes = [] }) s.rising k l;
  changes = AllAccepted-push kept.transactions (record { zxid = z; time = t; changes = [] }) (first_tree kept) s.changes tt;
}

pub IsSound-node : (kept : HistoryView) (p : NodePath) (content : Option (List ℕ)) (t : ℤ) → IsSound kept → kept.transactions ≡ []
    → IsAccepted (Creates p content (pos 0)) (newest_tree kept) → IsSound (with_node kept p content t)
IsSound-node kept p content t s none k =
    let P : List Transaction → Type 0 = λ ts. IsAccepted (Creates p content (pos 0)) (after ts (first_tree kept)) in
    let here : IsAccepted (Creates p content (pos 0)) (first_tree kept) = subst P none k in
    record {
      first = list_all-append is_first kept.nodes _ ∙ ap (λ b. b && true) s.first;
      nodes = AllAccepted-push kept.nodes
          (record { zxid = 0; time = t; changes = Creates p content (pos 0) ∷ [] }) root_tree s.nodes (here, tt);
      rising = s.rising;
      changes = subst (λ ts. AllAccepted ts
          (after (kept.nodes ++ record { zxid = 0; time = t; changes = Creates p content (pos 0) ∷ [] } ∷ []) root_tree)) (sym none) tt;
    }

pub is_some-mapped : {X Y : Type 0} (f : X → Y) (o : Option X) → is_some (option_map f o) ≡ is_some o
is_some-mapped f None = refl
is_some-mapped f (Some x) = refl

pub refused_by : (kept : HistoryView) (change : Change) (b : Bool)
    → IsSound kept → b ≡ accepts (newest_tree kept) (newest_count kept) change → b ≡ false → IsAccepted change (newest_tree kept) → ⊥
refused_by kept change b s e f h = false≢true (sym f ∙ e ∙ (Decides-accepts kept change s).1 h)

pub accepted_by : (kept : HistoryView) (change : Change) (b : Bool)
    → IsSound kept → b ≡ accepts (newest_tree kept) (newest_count kept) change → b ≡ true → IsAccepted change (newest_tree kept)
accepted_by kept change b s e f = (Decides-accepts kept change s).0 (sym e ∙ f)

-- what is pushed

last_with-push : (ts : List Transaction) (one : Transaction) (c : Change) → last_with (ts ++ one ∷ []) c ≡ ts ++ with_one one c ∷ []
last_with-push [] one c = refl
last_with-push (a ∷ []) one c = refl
last_with-push (a ∷ b ∷ ts) one c = ap (λ xs. a ∷ xs) (last_with-push (b ∷ ts) one c)

set_last : {X : Type 0} (xs : List X) (n : ℕ) (y : X) → n + 1 ≡ length xs → set_at xs n y ≡ take n xs ++ y ∷ []
set_last [] n y l = absurd (omega arith)
set_last (x ∷ []) zero y l = refl
set_last (x ∷ []) (suc n) y l = absurd (omega arith)
set_last (x ∷ b ∷ xs) zero y l = absurd (omega arith)
set_last (x ∷ b ∷ xs) (suc n) y l = ap (λ ys. x ∷ ys) (set_last (b ∷ xs) n y (omega arith))

pub mapped_set : {X : Type 0} (f : X → Transaction) (xs : List X) (n : ℕ) (x y : X) (c : Change)
    → n + 1 ≡ length xs → x ≡ get_or xs n x → f y ≡ with_one (f x) c → map f (set_at xs n y) ≡ last_with (map f xs) c
mapped_set f xs n x y c l g e =
    ap (map f) (set_last xs n y l) ∙ map-append f (take n xs) (y ∷ []) ∙ ap (λ o. map f (take n xs) ++ o ∷ []) e
    ∙ sym (last_with-push (map f (take n xs)) (f x) c)
    ∙ ap (λ ts. last_with ts c) (sym (map-append f (take n xs) (x ∷ [])) ∙ ap (map f) (sym (at_last xs n x l g)))

pub mapped_set_same : {X : Type 0} (f : X → Transaction) (xs : List X) (n : ℕ) (x y : X)
    → n + 1 ≡ length xs → x ≡ get_or xs n x → f y ≡ f x → map f (set_at xs n y) ≡ map f xs
mapped_set_same f xs n x y l g e =
    ap (map f) (set_last xs n y l) ∙ map-append f (take n xs) (y ∷ []) ∙ ap (λ o. map f (take n xs) ++ o ∷ []) e
    ∙ sym (map-append f (take n xs) (x ∷ [])) ∙ ap (map f) (sym (at_last xs n x l g))

-- cases that calls leave

pub OnOk-map : {T E : Type 0} {A B : Type 0} (r : Result T E) → (A → B) → OnOk r A → OnOk r B
OnOk-map (Ok x) f a = f a
OnOk-map (Err e) f a = tt

pub OnErr-map : {T E : Type 0} {A B : Type 0} (r : Result T E) → (A → B) → OnErr r A → OnErr r B
OnErr-map (Ok x) f a = tt
OnErr-map (Err e) f a = f a

pub was_empty : {X : Type 0} (f : X → Transaction) (xs : List X) (nodes : List Transaction) (kept : HistoryView)
    → record { nodes = nodes; transactions = map f xs } ≡ kept → length xs ≡ 0 → kept.transactions ≡ []
was_empty f [] nodes kept e l = ap (λ (k : HistoryView). k.transactions) (sym e)
was_empty f (x ∷ xs) nodes kept e l = absurd (omega (arith, l))

pub was_some : {X : Type 0} (f : X → Transaction) (xs : List X) (nodes : List Transaction) (kept : HistoryView)
    → record { nodes = nodes; transactions = map f xs } ≡ kept → (length xs ≡ 0 → ⊥) → kept.transactions ≡ [] → ⊥
was_some f [] nodes kept e l n = l refl
was_some f (x ∷ xs) nodes kept e l n = let h : f x ∷ map f xs ≡ [] = ap (λ (k : HistoryView). k.transactions) e ∙ n in cc

pub natural_above : (n : ℕ) (z : ℤ) → pos n <ℤ z → n < natural z
natural_above n (pos m) h = omega (arith, ints, h)
natural_above n (negsuc m) h = absurd (omega (arith, ints, h))

pub nth-mapped : {X : Type 0} (f : X → Transaction) (xs : List X) (n : ℕ) (x : X)
    → n < length xs → x ≡ get_or xs n x → slice_get (map f xs) n ≡ Some (f x)
nth-mapped f [] n x l e = absurd (omega arith)
nth-mapped f (y ∷ xs) zero x l e = ap (λ o. Some (f o)) (sym e)
nth-mapped f (y ∷ xs) (suc n) x l e = nth-mapped f xs n x (omega arith) e

pub nth-past : {X : Type 0} (f : X → Transaction) (xs : List X) (n : ℕ) → length xs ≤ n → slice_get (map f xs) n ≡ None
nth-past f [] n l = refl
nth-past f (y ∷ xs) zero l = absurd (omega arith)
nth-past f (y ∷ xs) (suc n) l = nth-past f xs n (omega arith)
