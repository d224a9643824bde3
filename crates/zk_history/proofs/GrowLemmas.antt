-- What entries and versions tell goes on to be so as a history grows: a change that is there stays in its place, so an entry tells the same
-- node, and a change that does not touch a path leaves what is told there.
use Rattle.std.proofs.Common.{◌≡◌, ℕ, zero, suc, ◌+◌, ◌-◌, ℤ, pos, Bool, true, false, ◌||◌, cond, leb, List, [], ◌∷◌}
use Rattle.std.proofs.Common.{◌++◌, length, option_map, Option, Some, None, is_some, refl, sym, ap, ◌∙◌, arith}
use Rattle.std.proofs.lemmas.Bool.{cond-false, false≢true}
use Rattle.std.specs.Prelude.{slice_get}
use Rattle.std.specs.FinSet as set
use Rattle.zk_nodes.specs.Path.{NodePath, path_eq}
use Rattle.zk_nodes.specs.History.{Node, Change, Creates, Sets, Deletes, Transaction, made, written, regrouped}
use Rattle.zk_nodes.specs.Names.{Names}
use Rattle.zk_history.specs.inner.Replay.{node_after}
use Rattle.zk_history.specs.Replay.{count_after, children_after}
use Rattle.zk_history.specs.HistoryView.{HistoryView, root_tree}
use Rattle.zk_history.specs.HistoryView.{made_transaction, last_with, with_change, with_transaction, with_node, first_node}
use Rattle.zk_history.specs.declared.version.Entry.{Entry}
use Rattle.zk_history.specs.declared.version.Version.{Version}
use Rattle.zk_history.specs.declared.version.Origin.{Origin}
use Rattle.zk_history.specs.declared.version.Origin.TheVariants.{Root, First, Later}
use Rattle.zk_history.specs.Versions.{first_entry}
use Rattle.zk_history.specs.inner.Versions.{entry_made, entry_written}
use Rattle.zk_history.specs.inner.Versions.{entry_regrouped, entry_after}
use Rattle.zk_history.specs.inner.Versions.{touches, last_transaction}
use Rattle.zk_history.specs.Versions.{content_in, nth_change}
use Rattle.zk_history.specs.inner.Versions.{next_origin}
use Rattle.zk_history.specs.Versions.{change_at, content_at, node_with, Tells, names_by, names_told, ArePlaced}

abbrev pub Grows : HistoryView → HistoryView → Type 0
Grows kept more = (s : Origin) (x : Change) → change_at kept s ≡ Some x → change_at more s ≡ Some x

nth-append : {X : Type 0} (xs ys : List X) (i : ℕ) (x : X) → slice_get xs i ≡ Some x → slice_get (xs ++ ys) i ≡ Some x
nth-append [] ys i x e = absurd cc
nth-append (y ∷ xs) ys zero x e = e
nth-append (y ∷ xs) ys (suc i) x e = nth-append xs ys i x e

nth-seam : {X : Type 0} (xs : List X) (x : X) → slice_get (xs ++ x ∷ []) (length xs) ≡ Some x
nth-seam [] x = refl
nth-seam (y ∷ xs) x = nth-seam xs x

change-append : (ts us : List Transaction) (i j : ℕ) (x : Change)
    → nth_change (slice_get ts i) j ≡ Some x → nth_change (slice_get (ts ++ us) i) j ≡ Some x
change-append [] us i j x e = absurd cc
change-append (one ∷ ts) us zero j x e = e
change-append (one ∷ ts) us (suc i) j x e = change-append ts us i j x e

change-last_with : (ts : List Transaction) (c : Change) (i j : ℕ) (x : Change)
    → nth_change (slice_get ts i) j ≡ Some x → nth_change (slice_get (last_with ts c) i) j ≡ Some x
change-last_with [] c i j x e = absurd cc
change-last_with (one ∷ []) c zero j x e = nth-append one.changes (c ∷ []) j x e
change-last_with (one ∷ []) c (suc i) j x e = absurd cc
change-last_with (one ∷ two ∷ more) c zero j x e = e
change-last_with (one ∷ two ∷ more) c (suc i) j x e = change-last_with (two ∷ more) c i j x e

pub grows-change : (kept : HistoryView) (c : Change) → Grows kept (with_change kept c)
grows-change kept c Root x e = e
grows-change kept c (First i) x e = e
grows-change kept c (Later i j) x e = change-last_with kept.transactions c i j x e

pub grows-transaction : (kept : HistoryView) (z : ℕ) (t : ℤ) → Grows kept (with_transaction kept z t)
grows-transaction kept z t Root x e = e
grows-transaction kept z t (First i) x e = e
grows-transaction kept z t (Later i j) x e = change-append kept.transactions (made_transaction z t [] ∷ []) i j x e

pub grows-node : (kept : HistoryView) (p : NodePath) (content : Option (List ℕ)) (t : ℤ) → Grows kept (with_node kept p content t)
grows-node kept p content t Root x e = e
grows-node kept p content t (First i) x e = change-append kept.nodes (first_node p content t ∷ []) i 0 x e
grows-node kept p content t (Later i j) x e = e

placed : (a : Transaction) (ts : List Transaction) (c : Change)
    → nth_change (slice_get (last_with (a ∷ ts) c) (length ts)) (length (last_transaction (a ∷ ts)).changes) ≡ Some c
placed a [] c = nth-seam a.changes c
placed a (b ∷ ts) c = placed b ts c

pub placed-change : (kept : HistoryView) (c : Change) → (kept.transactions ≡ [] → ⊥)
    → change_at (with_change kept c) (next_origin kept.transactions) ≡ Some c
placed-change kept c some = go kept.transactions some where
  go : (ts : List Transaction) → (ts ≡ [] → ⊥)
      → nth_change (slice_get (last_with ts c) (length ts - 1)) (length (last_transaction ts).changes) ≡ Some c
  go [] some = absurd (some refl)
  go (a ∷ ts) some = let n : length (a ∷ ts) - 1 ≡ length ts = omega arith in
      ap (λ i. nth_change (slice_get (last_with (a ∷ ts) c) i) (length (last_transaction (a ∷ ts)).changes)) n ∙ placed a ts c

pub placed-node : (kept : HistoryView) (p : NodePath) (content : Option (List ℕ)) (t : ℤ)
    → change_at (with_node kept p content t) (First (length kept.nodes)) ≡ Some (Creates p content (pos 0))
placed-node kept p content t = ap (λ o. nth_change o 0) (nth-seam kept.nodes (first_node p content t))

-- entries and the nodes that they stand for

abbrev pub Told : HistoryView → Entry → Node → Type 0
Told kept e m = (content : Option (List ℕ)) × (content_at kept e.origin ≡ Some content) × (node_with e content ≡ m)

to_tells : (kept : HistoryView) (e : Entry) (m : Node) → Told kept e m → Tells kept (Some e) (Some m)
to_tells kept e m h = ap (λ o. Some (option_map (node_with e) o)) h.1 ∙ ap (λ n. Some (Some n)) h.2

pub from_tells : (kept : HistoryView) (e : Entry) (m : Node) → Tells kept (Some e) (Some m) → Told kept e m
from_tells kept e m h = go (content_at kept e.origin) refl h where
  go : (o : Option (Option (List ℕ))) → content_at kept e.origin ≡ o → Some (option_map (node_with e) o) ≡ Some (Some m) → Told kept e m
  go None is h = absurd cc
  go (Some content) is h = let same : node_with e content ≡ m = cc in (content, is, same)

content-grows : (kept more : HistoryView) (s : Origin) (x : Option (List ℕ))
    → Grows kept more → content_at kept s ≡ Some x → content_at more s ≡ Some x
content-grows kept more s x grows h = go (change_at kept s) refl h where
  go : (o : Option Change) → change_at kept s ≡ o → content_in o ≡ Some x → content_at more s ≡ Some x
  go None is h = absurd cc
  go (Some c) is h = ap content_in (grows s c is) ∙ h

pub Tells-grows : (kept more : HistoryView) (o : Option Entry) (n : Option Node) → Grows kept more → Tells kept o n → Tells more o n
Tells-grows kept more None n grows h = h
Tells-grows kept more (Some e) None grows h = absurd cc
Tells-grows kept more (Some e) (Some m) grows h =
    let told = from_tells kept e m h in
    to_tells more e m (told.0, content-grows kept more e.origin told.0 grows told.1, told.2)

tells_regrouped : (kept : HistoryView) (z : ℕ) (o : Option Entry) (n : Option Node)
    → Tells kept o n → Tells kept (option_map (entry_regrouped z) o) (option_map (regrouped z) n)
tells_regrouped kept z None None h = h
tells_regrouped kept z None (Some m) h = absurd cc
tells_regrouped kept z (Some e) None h = absurd cc
tells_regrouped kept z (Some e) (Some m) h = let told = from_tells kept e m h in
    to_tells kept (entry_regrouped z e) (regrouped z m) (told.0, told.1, ap (regrouped z) told.2)

tells_written : (kept : HistoryView) (z : ℕ) (t : ℤ) (s : Origin) (content : Option (List ℕ)) (o : Option Entry) (n : Option Node)
    → content_at kept s ≡ Some content → Tells kept o n
    → Tells kept (option_map (entry_written z t s) o) (option_map (written z t content) n)
tells_written kept z t s content None None is h = h
tells_written kept z t s content None (Some m) is h = absurd cc
tells_written kept z t s content (Some e) None is h = absurd cc
tells_written kept z t s content (Some e) (Some m) is h =
    let told = from_tells kept e m h in
    to_tells kept (entry_written z t s e) (written z t content m) (content, is, ap (written z t content) told.2)

-- what a change makes of an entry stands for what it makes of the node
pub tells_after : (kept : HistoryView) (z : ℕ) (t : ℤ) (s : Origin) (p : NodePath) (c : Change) (o : Option Entry) (n : Option Node)
    → change_at kept s ≡ Some c → Tells kept o n
    → Tells kept (entry_after z t s p c o) (node_after z t p c n)
tells_after kept z t s p (Creates [] content owner) o n is h = h
tells_after kept z t s p (Creates (name ∷ path) content owner) o n is h =
    elim (path_eq p (name ∷ path)) as
    (λ a. Tells kept (cond a (Some (entry_made z t s owner)) (cond (path_eq p path) (option_map (entry_regrouped z) o) o))
    (cond a (Some (made z t content owner)) (cond (path_eq p path) (option_map (regrouped z) n) n))) [
      | true ↦ to_tells kept (entry_made z t s owner) (made z t content owner) (content, ap content_in is, refl)
      | false ↦ elim (path_eq p path) as (λ b. Tells kept (cond b (option_map (entry_regrouped z) o) o)
          (cond b (option_map (regrouped z) n) n)) [ true ↦ tells_regrouped kept z o n h | false ↦ h ]
    ]
tells_after kept z t s p (Sets path content) o n is h =
    elim (path_eq p path) as (λ b. Tells kept (cond b (option_map (entry_written z t s) o) o)
    (cond b (option_map (written z t content) n) n)) [ true ↦ tells_written kept z t s content o n (ap content_in is) h | false ↦ h ]
tells_after kept z t s p (Deletes []) o n is h = h
tells_after kept z t s p (Deletes (name ∷ path)) o n is h =
    elim (path_eq p (name ∷ path)) as (λ a. Tells kept (cond a None (cond (path_eq p path) (option_map (entry_regrouped z) o) o))
    (cond a None (cond (path_eq p path) (option_map (regrouped z) n) n))) [
      | true ↦ refl
      | false ↦ elim (path_eq p path) as (λ b. Tells kept (cond b (option_map (entry_regrouped z) o) o)
          (cond b (option_map (regrouped z) n) n)) [ true ↦ tells_regrouped kept z o n h | false ↦ h ]
    ]

-- the root, and nothing else, is there before all changes
pub tells_first : (kept : HistoryView) (p : NodePath) → Tells kept (first_entry p) (root_tree p)
tells_first kept [] = refl
tells_first kept (name ∷ p) = refl

-- a change leaves what it does not touch

or_false : (a b : Bool) → (a || b) ≡ false → (a ≡ false) × (b ≡ false)
or_false true b e = absurd (false≢true (sym e))
or_false false b e = (refl, e)

pub node_untouched : (z : ℕ) (t : ℤ) (p : NodePath) (c : Change) (n : Option Node) → touches p c ≡ false → node_after z t p c n ≡ n
node_untouched z t p (Creates [] content owner) n e = refl
node_untouched z t p (Creates (name ∷ path) content owner) n e =
    let far = or_false (path_eq p (name ∷ path)) (path_eq p path) e in
    cond-false (path_eq p (name ∷ path)) (Some (made z t content owner)) (cond (path_eq p path) (option_map (regrouped z) n) n) far.0
    ∙ cond-false (path_eq p path) (option_map (regrouped z) n) n far.1
node_untouched z t p (Sets path content) n e = cond-false (path_eq p path) (option_map (written z t content) n) n e
node_untouched z t p (Deletes []) n e = refl
node_untouched z t p (Deletes (name ∷ path)) n e =
    let far = or_false (path_eq p (name ∷ path)) (path_eq p path) e in
    cond-false (path_eq p (name ∷ path)) None (cond (path_eq p path) (option_map (regrouped z) n) n) far.0
    ∙ cond-false (path_eq p path) (option_map (regrouped z) n) n far.1

pub count_untouched : (p : NodePath) (c : Change) (n : ℕ) → touches p c ≡ false → count_after p c n ≡ n
count_untouched p (Creates [] content owner) n e = refl
count_untouched p (Creates (name ∷ path) content owner) n e =
    cond-false (path_eq p path) (n + 1) n (or_false (path_eq p (name ∷ path)) (path_eq p path) e).1
count_untouched p (Sets path content) n e = refl
count_untouched p (Deletes []) n e = refl
count_untouched p (Deletes (name ∷ path)) n e =
    cond-false (path_eq p path) (n - 1) n (or_false (path_eq p (name ∷ path)) (path_eq p path) e).1

pub names_untouched : (p : NodePath) (c : Change) (names : Names) → touches p c ≡ false → children_after p c names ≡ names
names_untouched p (Creates [] content owner) names e = refl
names_untouched p (Creates (name ∷ path) content owner) names e =
    cond-false (path_eq p path) (set.insert names name) names (or_false (path_eq p (name ∷ path)) (path_eq p path) e).1
names_untouched p (Sets path content) names e = refl
names_untouched p (Deletes []) names e = refl
names_untouched p (Deletes (name ∷ path)) names e =
    cond-false (path_eq p path) (set.remove names name) names (or_false (path_eq p (name ∷ path)) (path_eq p path) e).1

-- the changes that versions name

placed_some : (kept : HistoryView) (s : Origin) → is_some (change_at kept s) ≡ true → (c : Change) × (change_at kept s ≡ Some c)
placed_some kept s h = go (change_at kept s) refl h where
  go : (o : Option Change) → change_at kept s ≡ o → is_some o ≡ true → (c : Change) × (change_at kept s ≡ Some c)
  go None is h = absurd (false≢true h)
  go (Some c) is h = (c, is)

pub ArePlaced-grows : (kept more : HistoryView) (vs : List Version) → Grows kept more → ArePlaced kept vs → ArePlaced more vs
ArePlaced-grows kept more [] grows h = tt
ArePlaced-grows kept more (v ∷ vs) grows h =
    let c = placed_some kept v.origin h.0 in
    (ap is_some (grows v.origin c.0 c.1), ArePlaced-grows kept more vs grows h.1)

pub ArePlaced-push : (kept : HistoryView) (vs : List Version) (v : Version)
    → ArePlaced kept vs → is_some (change_at kept v.origin) ≡ true → ArePlaced kept (vs ++ v ∷ [])
ArePlaced-push kept [] v h k = (k, tt)
ArePlaced-push kept (w ∷ vs) v h k = (h.0, ArePlaced-push kept vs v h.1 k)

pub names_told-grows : (kept more : HistoryView) (p : NodePath) (z : ℕ) (vs : List Version) (names : Names)
    → Grows kept more → ArePlaced kept vs → names_told more p z vs names ≡ names_told kept p z vs names
names_told-grows kept more p z [] names grows h = refl
names_told-grows kept more p z (v ∷ vs) names grows h =
    let c = placed_some kept v.origin h.0 in
    let same : names_by p (change_at more v.origin) names ≡ names_by p (change_at kept v.origin) names =
    ap (λ o. names_by p o names) (grows v.origin c.0 c.1 ∙ sym c.1) in
    ap (λ n. names_told more p z vs (cond (leb v.zxid z) n names)) same
    ∙ names_told-grows kept more p z vs (cond (leb v.zxid z) (names_by p (change_at kept v.origin) names) names) grows h.1

pub names_told-push : (kept : HistoryView) (p : NodePath) (z : ℕ) (vs : List Version) (v : Version) (names : Names)
    → names_told kept p z (vs ++ v ∷ []) names
    ≡ cond (leb v.zxid z) (names_by p (change_at kept v.origin) (names_told kept p z vs names)) (names_told kept p z vs names)
names_told-push kept p z [] v names = refl
names_told-push kept p z (w ∷ vs) v names =
    names_told-push kept p z vs v (cond (leb w.zxid z) (names_by p (change_at kept w.origin) names) names)
