-- A node whose stamp is old has not changed since: by induction on the transactions, each of which writes its own newer zxid into what it
-- changes.
use Rattle.std.specs.Prelude.{slice_get}
use Rattle.std.specs.Option.{option_map}
use Rattle.std.proofs.Common.{ℕ, ℤ, ◌≡◌, ◌<◌, ◌≤◌, Bool, true, false, cond, List, [], ◌∷◌, ◌++◌, refl, ap, sym, ◌∙◌, subst, arith, Option}
use Rattle.std.proofs.Common.{Some, None, if◌then◌else◌, take, length, zero, suc, nat_le}
use Rattle.std.proofs.lemmas.Bool.Decides.{nat_tests}
use Rattle.std.specs.Bool.{⊤}
use Rattle.zk_nodes.specs.declared.side.Side.{Side}
use Rattle.zk_nodes.specs.declared.side.Side.TheVariants.{Data, Child}
use Rattle.zk_nodes.specs.Path.{Name, NodePath, path_eq}
use Rattle.zk_nodes.specs.History.{Node, Tree, Change, Creates, Sets, Deletes, Transaction, AreLegal, apply, apply_all, after, AllLegal}
use Rattle.zk_nodes.specs.History.{AreRising, History, IsHistory, up_to, tree_at, newest, made, written, regrouped, view, contents_of}
use Rattle.zk_laws.specs.Server.{tree_held, zxid_held}
use Rattle.zk_laws.proofs.Firing.{below_other, child_view, some_if, set_children}

-- the node is there, and the side's stamp is at most z
abbrev pub IsOld : Side → ℕ → Option Node → Type 0
IsOld side z None = ⊥
IsOld Data z (Some node) = node.mzxid ≤ z
IsOld Child z (Some node) = node.pzxid ≤ z

-- the same view, which was old before
abbrev pub IsSame : Side → ℕ → NodePath → Tree → Tree → Type 0
IsSame side z path new old = (view side new path ≡ view side old path) × IsOld side z (old path)

old_regrouped : (z0 z : ℕ) (o : Option Node) → IsOld Data z0 (option_map (regrouped z) o)
    → (contents_of (option_map (regrouped z) o) ≡ contents_of o) × IsOld Data z0 o
old_regrouped z0 z None h = absurd h
old_regrouped z0 z (Some n) h = (refl, h)

new_written : (z0 z : ℕ) (t : ℤ) (content : Option (List ℕ)) (o : Option Node)
    → z0 < z → IsOld Data z0 (option_map (written z t content) o) → ⊥
new_written z0 z t content None lt h = h
new_written z0 z t content (Some n) lt h = omega arith

new_regrouped : (z0 z : ℕ) (o : Option Node) → z0 < z → IsOld Child z0 (option_map (regrouped z) o) → ⊥
new_regrouped z0 z None lt h = h
new_regrouped z0 z (Some n) lt h = omega arith

old_written : (z0 z : ℕ) (t : ℤ) (content : Option (List ℕ)) (o : Option Node)
    → IsOld Child z0 (option_map (written z t content) o) → IsOld Child z0 o
old_written z0 z t content None h = absurd h
old_written z0 z t content (Some n) h = h

-- the tree after a node was made or deleted, with what is there then: its parent has other children
abbrev around : ℕ → Name → NodePath → Option Node → Tree → Tree
around z name above there tree path =
    if path_eq path (name ∷ above) then there else (if path_eq path above then option_map (regrouped z) (tree path) else tree path)

module _ (z0 z : ℕ) (path : NodePath) (name : Name) (above : NodePath) (there : Option Node) (tree : Tree) (lt : z0 < z) where
  around_data : (IsOld Data z0 there → ⊥) → IsOld Data z0 (around z name above there tree path)
      → IsSame Data z0 path (around z name above there tree) tree
  around_data new h = go (path_eq path (name ∷ above)) refl (path_eq path above) refl
    where
      go : (b : Bool) → path_eq path (name ∷ above) ≡ b → (d : Bool)
          → path_eq path above ≡ d → IsSame Data z0 path (around z name above there tree) tree
      go true e d f = absurd (new (rw e at h))
      go false e true f = let k = old_regrouped z0 z (tree path) (rw (e, f) at h) in (rw (e, f) k.0, k.1)
      go false e false f = (rw (e, f) refl, rw (e, f) at h)

  around_children : (IsOld Child z0 there → ⊥) → IsOld Child z0 (around z name above there tree path)
      → IsSame Child z0 path (around z name above there tree) tree
  around_children new h = go (path_eq path (name ∷ above)) refl (path_eq path above) refl
    where
      go : (b : Bool) → path_eq path (name ∷ above) ≡ b → (d : Bool)
          → path_eq path above ≡ d → IsSame Child z0 path (around z name above there tree) tree
      go true e d f = absurd (new (rw e at h))
      go false e true f = absurd (new_regrouped z0 z (tree path) lt (rw (e, f) at h))
      go false e false f = (
        child_view path (around z name above there tree) tree (rw (e, f) refl)
            (λ m. rw (below_other m name path above f) (some_if (path_eq (m ∷ path) above) (regrouped z) (tree (m ∷ path)))),
        rw (e, f) at h,
      )

same_data : (z0 : ℕ) (path : NodePath) (c : Change) (z : ℕ) (t : ℤ) (tree : Tree) → z0 < z → IsOld Data z0 (apply z t c tree path)
    → IsSame Data z0 path (apply z t c tree) tree
same_data z0 path (Creates [] content owner) z t tree lt h = (refl, h)
same_data z0 path (Creates (name ∷ above) content owner) z t tree lt h =
    around_data z0 z path name above (Some (made z t content owner)) tree lt (λ old. let k : z ≤ z0 = old in omega arith) h
same_data z0 path (Sets at content) z t tree lt h = go (path_eq path at) refl
  where
    go : (b : Bool) → path_eq path at ≡ b → IsSame Data z0 path (apply z t (Sets at content) tree) tree
    go true e = absurd (new_written z0 z t content (tree path) lt (rw e at h))
    go false e = (rw e refl, rw e at h)
same_data z0 path (Deletes []) z t tree lt h = (refl, h)
same_data z0 path (Deletes (name ∷ above)) z t tree lt h = around_data z0 z path name above None tree lt (λ old. old) h

same_children : (z0 : ℕ) (path : NodePath) (c : Change) (z : ℕ) (t : ℤ) (tree : Tree) → z0 < z → IsOld Child z0 (apply z t c tree path)
    → IsSame Child z0 path (apply z t c tree) tree
same_children z0 path (Creates [] content owner) z t tree lt h = (refl, h)
same_children z0 path (Creates (name ∷ above) content owner) z t tree lt h =
    around_children z0 z path name above (Some (made z t content owner)) tree lt (λ old. let k : z ≤ z0 = old in omega arith) h
same_children z0 path (Sets at content) z t tree lt h = (set_children path at content z t tree, go (path_eq path at) refl)
  where
    go : (b : Bool) → path_eq path at ≡ b → IsOld Child z0 (tree path)
    go true e = old_written z0 z t content (tree path) (rw e at h)
    go false e = rw e at h
same_children z0 path (Deletes []) z t tree lt h = (refl, h)
same_children z0 path (Deletes (name ∷ above)) z t tree lt h = around_children z0 z path name above None tree lt (λ old. old) h

same : (side : Side) (z0 : ℕ) (path : NodePath) (c : Change) (z : ℕ) (t : ℤ) (tree : Tree) → z0 < z → IsOld side z0 (apply z t c tree path)
    → IsSame side z0 path (apply z t c tree) tree
same Data z0 path c z t tree lt h = same_data z0 path c z t tree lt h
same Child z0 path c z t tree lt h = same_children z0 path c z t tree lt h

same_all : (side : Side) (z0 : ℕ) (path : NodePath) (cs : List Change) (z : ℕ) (t : ℤ) (tree : Tree)
    → z0 < z → IsOld side z0 (apply_all z t cs tree path) → IsSame side z0 path (apply_all z t cs tree) tree
same_all side z0 path [] z t tree lt h = (refl, h)
same_all side z0 path (c ∷ cs) z t tree lt h =
    let rest = same_all side z0 path cs z t (apply z t c tree) lt h in
    let one = same side z0 path c z t tree lt rest.1 in
    (rest.0 ∙ one.0, one.1)

-- each of the transactions is newer than z
abbrev pub AreNewer : ℕ → List Transaction → Type 0
AreNewer z [] = ⊤
AreNewer z (one ∷ more) = (z < one.zxid) × AreNewer z more

-- What is there with a stamp of at most z, after transactions that are all newer, was so before them.
pub same_after : (side : Side) (z0 : ℕ) (path : NodePath) (txs : List Transaction) (tree : Tree)
    → AreNewer z0 txs → IsOld side z0 (after txs tree path) → IsSame side z0 path (after txs tree) tree
same_after side z0 path [] tree newer h = (refl, h)
same_after side z0 path (x ∷ xs) tree newer h =
    let rest = same_after side z0 path xs (apply_all x.zxid x.time x.changes tree) newer.1 h in
    let one = same_all side z0 path x.changes x.zxid x.time tree newer.0 rest.1 in
    (rest.0 ∙ one.0, one.1)

-- Beginnings of the history

le_true : (a b : ℕ) → a ≤ b → nat_le a b ≡ true
le_true a b h = grind (arith, nat_tests)

le_false : (a b : ℕ) → b < a → nat_le a b ≡ false
le_false a b h = grind (arith, nat_tests)

none_up_to : (z low : ℕ) (txs : List Transaction) → z ≤ low → AreRising low txs → up_to z txs ≡ []
none_up_to z low [] le rising = refl
none_up_to z low (x ∷ xs) le rising =
    let above = rising.0 in
    let out : nat_le x.zxid z ≡ false = le_false x.zxid z (omega arith) in
    rw out (none_up_to z x.zxid xs (omega arith) rising.2)

newer_up_to : (z0 z low : ℕ) (txs : List Transaction) → z0 ≤ low → AreRising low txs → AreNewer z0 (up_to z txs)
newer_up_to z0 z low [] le rising = tt
newer_up_to z0 z low (x ∷ xs) le rising =
    let above = rising.0 in
    let rest = newer_up_to z0 z x.zxid xs (omega arith) rising.2 in
    go (nat_le x.zxid z) rest
  where
    go : (b : Bool) → AreNewer z0 (up_to z xs) → AreNewer z0 (cond b (x ∷ up_to z xs) (up_to z xs))
    go true rest = (let above = rising.0 in omega arith, rest)
    go false rest = rest

-- what is at most z0 is the beginning of what is at most z
pub up_to_more : (z0 z low : ℕ) (txs : List Transaction)
    → z0 ≤ z → AreRising low txs → (newer : List Transaction) × (up_to z txs ≡ up_to z0 txs ++ newer) × AreNewer z0 newer
up_to_more z0 z low [] le rising = ([], refl, tt)
up_to_more z0 z low (x ∷ xs) le rising = go (λ (u : Unit {0}). up_to_more z0 z x.zxid xs le rising.2) (nat_le x.zxid z0) refl
  where
    go : (Unit {0} → (newer : List Transaction) × (up_to z xs ≡ up_to z0 xs ++ newer) × AreNewer z0 newer) → (b : Bool)
        → nat_le x.zxid z0 ≡ b → (newer : List Transaction) × (up_to z (x ∷ xs) ≡ up_to z0 (x ∷ xs) ++ newer) × AreNewer z0 newer
    go more true e =
        let r = more tt in
        let low' : nat_le x.zxid z ≡ true = le_true x.zxid z (grind (arith, nat_tests)) in
        (r.0, rw (e, low') (ap (λ (l : List Transaction). x ∷ l) r.1), r.2)
    go more false e =
        let high : z0 < x.zxid = grind (arith, nat_tests) in (
          up_to z (x ∷ xs),
          rw (e, none_up_to z0 x.zxid xs (omega arith) rising.2) refl,
          newer_up_to z0 z z0 (x ∷ xs) (omega arith) (high, rising.1, rising.2),
        )

newest_ge : (low n : ℕ) (txs : List Transaction) → AreRising low txs → low ≤ newest low (take n txs)
newest_ge low zero txs rising = omega arith
newest_ge low (suc n) [] rising = omega arith
newest_ge low (suc n) (x ∷ xs) rising = let rest = newest_ge x.zxid n xs rising.2 in let above = rising.0 in omega arith

-- the first n transactions are those up to the zxid of their last
pub up_to_newest : (low n : ℕ) (txs : List Transaction) → AreRising low txs → up_to (newest low (take n txs)) txs ≡ take n txs
up_to_newest low zero txs rising = none_up_to low low txs (omega arith) rising
up_to_newest low (suc n) [] rising = refl
up_to_newest low (suc n) (x ∷ xs) rising =
    let in' : nat_le x.zxid (newest x.zxid (take n xs)) ≡ true =
    le_true x.zxid (newest x.zxid (take n xs)) (newest_ge x.zxid n xs rising.2) in
    rw in' (ap (λ (l : List Transaction). x ∷ l) (up_to_newest x.zxid n xs rising.2))

pub after-append : (xs ys : List Transaction) (tree : Tree) → after (xs ++ ys) tree ≡ after ys (after xs tree)
after-append [] ys tree = refl
after-append (x ∷ xs) ys tree = after-append xs ys (apply_all x.zxid x.time x.changes tree)

take_next : (n : ℕ) (txs : List Transaction) (x : Transaction) → slice_get txs n ≡ Some x → take (suc n) txs ≡ take n txs ++ x ∷ []
take_next n [] x h = absurd cc
take_next zero (y ∷ ys) x h = cc
take_next (suc n) (y ∷ ys) x h = ap (λ (l : List Transaction). y ∷ l) (take_next n ys x h)

pub nth_is : (n : ℕ) (txs : List Transaction) → n < length txs → (x : Transaction) × (slice_get txs n ≡ Some x)
nth_is n [] h = absurd (omega arith)
nth_is zero (y ∷ ys) h = (y, refl)
nth_is (suc n) (y ∷ ys) h = nth_is n ys (omega arith)

newest_last : (low : ℕ) (txs : List Transaction) (x : Transaction) → newest low (txs ++ x ∷ []) ≡ x.zxid
newest_last low [] x = refl
newest_last low (y ∷ ys) x = newest_last y.zxid ys x

legal_next : (n : ℕ) (txs : List Transaction) (tree : Tree) (x : Transaction)
    → AllLegal txs tree → slice_get txs n ≡ Some x → AreLegal x.zxid x.time x.changes (after (take n txs) tree)
legal_next n [] tree x legal h = absurd cc
legal_next zero (y ∷ ys) tree x legal h = let e : y ≡ x = cc in subst (λ (z : Transaction). AreLegal z.zxid z.time z.changes tree) e legal.0
legal_next (suc n) (y ∷ ys) tree x legal h = legal_next n ys (apply_all y.zxid y.time y.changes tree) x legal.1 h

newer_next : (low n : ℕ) (txs : List Transaction) (x : Transaction)
    → AreRising low txs → slice_get txs n ≡ Some x → newest low (take n txs) < x.zxid
newer_next low n [] x rising h = absurd cc
newer_next low zero (y ∷ ys) x rising h = let e : y ≡ x = cc in subst (λ (z : Transaction). low < z.zxid) e rising.0
newer_next low (suc n) (y ∷ ys) x rising h = newer_next y.zxid n ys x rising.2 h

-- What the next transaction is.
pub record IsNextAt (h : History) (n : ℕ) (x : Transaction) : Type 0 where
  pub nth : slice_get h.transactions n ≡ Some x
  pub tree : tree_held h (suc n) ≡ apply_all x.zxid x.time x.changes (tree_held h n)
  pub legal : AreLegal x.zxid x.time x.changes (tree_held h n)
  pub zxid : zxid_held h (suc n) ≡ x.zxid
  pub above : zxid_held h n < x.zxid

pub next_at : (h : History) (n : ℕ) → IsHistory h → n < length h.transactions → (x : Transaction) × IsNextAt h n x
next_at h n is room =
    let found = nth_is n h.transactions room in
    let x : Transaction = found.0 in
    let more = take_next n h.transactions x found.1 in (
      x,
      record {
        nth = found.1;
        tree = ap (λ (l : List Transaction). after l h.first) more ∙ after-append (take n h.transactions) (x ∷ []) h.first;
        legal = legal_next n h.transactions h.first x is.legal found.1;
        zxid = ap (λ (l : List Transaction). newest 0 l) more ∙ newest_last 0 (take n h.transactions) x;
        above = newer_next 0 n h.transactions x is.rising found.1;
      },
    )

-- the tree of a server is the tree at its zxid
pub tree_at_held : (h : History) (n : ℕ) → IsHistory h → tree_at h (zxid_held h n) ≡ tree_held h n
tree_at_held h n is = ap (λ (l : List Transaction). after l h.first) (up_to_newest 0 n h.transactions is.rising)

-- What stands at z with a stamp of at most z0 stood so at z0.
pub same_at : (h : History) (side : Side) (path : NodePath) (z0 z : ℕ) → IsHistory h → z0 ≤ z → IsOld side z0 (tree_at h z path)
    → IsSame side z0 path (tree_at h z) (tree_at h z0)
same_at h side path z0 z is le old =
    let more = up_to_more z0 z 0 h.transactions le is.rising in
    let e : tree_at h z ≡ after more.0 (tree_at h z0) =
    ap (λ (l : List Transaction). after l h.first) more.1 ∙ after-append (up_to z0 h.transactions) more.0 h.first in
    let old' : IsOld side z0 (after more.0 (tree_at h z0) path) = subst (λ (t : Tree). IsOld side z0 (t path)) e old in
    subst (λ (t : Tree). IsSame side z0 path t (tree_at h z0)) (sym e) (same_after side z0 path more.0 (tree_at h z0) more.2 old')

-- At a zxid no stamp is above it.

-- the stamp is at most z, where there is a node
abbrev pub IsAtMost : (Node → ℕ) → ℕ → Option Node → Type 0
IsAtMost stamp z None = ⊤
IsAtMost stamp z (Some node) = stamp node ≤ z

-- a stamp that is 0 at first, which a creation sets, a change of the children leaves, and a write may set
module _ (stamp : Node → ℕ) (z : ℕ) (path : NodePath)
    (made_at : (x : ℕ) (t : ℤ) (content : Option (List ℕ)) (owner : ℤ) → stamp (made x t content owner) ≡ x)
    (regrouped_at : (x : ℕ) (node : Node) → stamp (regrouped x node) ≡ stamp node)
    (written_at : (x : ℕ) (t : ℤ) (content : Option (List ℕ)) (node : Node) → x ≤ z → stamp node ≤ z
    → stamp (written x t content node) ≤ z) where
  most_regrouped : (x : ℕ) (o : Option Node) → IsAtMost stamp z o → IsAtMost stamp z (option_map (regrouped x) o)
  most_regrouped x None h = tt
  most_regrouped x (Some node) h = subst (λ m. m ≤ z) (sym (regrouped_at x node)) h

  most_written : (x : ℕ) (t : ℤ) (content : Option (List ℕ)) (o : Option Node)
      → x ≤ z → IsAtMost stamp z o → IsAtMost stamp z (option_map (written x t content) o)
  most_written x t content None le h = tt
  most_written x t content (Some node) le h = written_at x t content node le h

  most_one : (c : Change) (x : ℕ) (t : ℤ) (tree : Tree) → x ≤ z → IsAtMost stamp z (tree path) → IsAtMost stamp z (apply x t c tree path)
  most_one (Creates [] content owner) x t tree le h = h
  most_one (Creates (name ∷ above) content owner) x t tree le h = go (path_eq path (name ∷ above)) (path_eq path above)
    where
      go : (b d : Bool)
          → IsAtMost stamp z (if b then Some (made x t content owner) else (if d then option_map (regrouped x) (tree path) else tree path))
      go true d = subst (λ m. m ≤ z) (sym (made_at x t content owner)) le
      go false true = most_regrouped x (tree path) h
      go false false = h
  most_one (Sets at content) x t tree le h = go (path_eq path at)
    where
      go : (b : Bool) → IsAtMost stamp z (if b then option_map (written x t content) (tree path) else tree path)
      go true = most_written x t content (tree path) le h
      go false = h
  most_one (Deletes []) x t tree le h = h
  most_one (Deletes (name ∷ above)) x t tree le h = go (path_eq path (name ∷ above)) (path_eq path above)
    where
      go : (b d : Bool) → IsAtMost stamp z (if b then None else (if d then option_map (regrouped x) (tree path) else tree path))
      go true d = tt
      go false true = most_regrouped x (tree path) h
      go false false = h

  most_all : (cs : List Change) (x : ℕ) (t : ℤ) (tree : Tree) → x ≤ z → IsAtMost stamp z (tree path)
      → IsAtMost stamp z (apply_all x t cs tree path)
  most_all [] x t tree le h = h
  most_all (c ∷ cs) x t tree le h = most_all cs x t (apply x t c tree) le (most_one c x t tree le h)

  most_after : (txs : List Transaction) (tree : Tree) → IsAtMost stamp z (tree path) → IsAtMost stamp z (after (up_to z txs) tree path)
  most_after [] tree h = h
  most_after (x ∷ xs) tree h = go (λ t k. most_after xs t k) (nat_le x.zxid z) refl
    where
      go : ((t : Tree) → IsAtMost stamp z (t path) → IsAtMost stamp z (after (up_to z xs) t path)) → (b : Bool)
          → nat_le x.zxid z ≡ b → IsAtMost stamp z (after (up_to z (x ∷ xs)) tree path)
      go more true e =
          rw e (more (apply_all x.zxid x.time x.changes tree) (most_all x.changes x.zxid x.time tree (grind (arith, nat_tests)) h))
      go more false e = rw e (more tree h)

  most_zeros : (o : Option Node) → ((node : Node) → o ≡ Some node → stamp node ≡ 0) → IsAtMost stamp z o
  most_zeros None h = tt
  most_zeros (Some node) h = let e = h node refl in omega arith

  pub most_at : (h : History) → ((node : Node) → h.first path ≡ Some node → stamp node ≡ 0) → IsAtMost stamp z (tree_at h z path)
  most_at h zeros = most_after h.transactions h.first (most_zeros (h.first path) zeros)

-- the stamp of the data
pub below_at : (h : History) (path : NodePath) (z : ℕ) → IsHistory h → IsAtMost (λ node. node.mzxid) z (tree_at h z path)
below_at h path z is = most_at (λ node. node.mzxid) z path (λ x t content owner. refl) (λ x node. refl) (λ x t content node le old. le) h
    (λ node e. (is.zeros path node e).1)

-- the czxid
pub made_by : (h : History) (path : NodePath) (z : ℕ) → IsHistory h → IsAtMost (λ node. node.czxid) z (tree_at h z path)
made_by h path z is = most_at (λ node. node.czxid) z path (λ x t content owner. refl) (λ x node. refl) (λ x t content node le old. old) h
    (λ node e. (is.zeros path node e).0)
