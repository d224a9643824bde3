-- The numbers of a node are small, by induction on the changes that made it; and what a version tells where one is looked up or forgotten.
use Rattle.std.proofs.Common.{◌≡◌, ℕ, zero, suc, ◌<◌, ◌≤◌, ◌^◌, ℤ, Bool, true, false, cond, leb, eqb, List, [], ◌∷◌}
use Rattle.std.proofs.Common.{option_map, Option, Some, None, refl, ap, subst, ◌∙◌, arith}
use Rattle.std.proofs.lemmas.Bool.{eqb-true}
use Rattle.std.specs.Prelude.{slice_get}
use Rattle.std.specs.Bool.{⊤}
use Rattle.std.specs.List.{list_all}
use Rattle.zk_nodes.specs.Path.{Text, NodePath, path_eq, path_of}
use Rattle.zk_nodes.specs.History.{Node, Change, Creates, Sets, Deletes, Transaction, made, written, regrouped}
use Rattle.zk_nodes.specs.History.{tree_at, size_of, AreRising}
use Rattle.zk_history.specs.inner.Replay.{node_after, node_after_all, node_at}
use Rattle.zk_history.specs.inner.Replay.{CanRise, CanRiseAll, CanRiseAt}
use Rattle.zk_history.specs.HistoryView.{HistoryView, IsSound, history_of, first_tree, root_tree}
use Rattle.zk_history.specs.HistoryView.{is_first, first_node}
use Rattle.zk_history.specs.declared.version.Entry.{Entry}
use Rattle.zk_history.specs.declared.version.Version.{Version}
use Rattle.zk_history.specs.declared.version.Origin.{Origin}
use Rattle.zk_history.specs.inner.Versions.{last_version}
use Rattle.zk_history.specs.inner.Versions.{version_after, with_version, versions_after, versions_before}
use Rattle.zk_history.specs.inner.Versions.{without_last, touches}
use Rattle.zk_history.specs.Versions.{content_at, node_with, Tells}
use Rattle.zk_history.proofs.ViewLemmas.{later_node, first_rises, later_rises}
use Rattle.zk_history.proofs.ViewLemmas as kept_lemmas
use Rattle.zk_history.proofs.VersionsLemmas.{without_pushed}
use Rattle.zk_history.proofs.GrowLemmas.{from_tells}

-- the numbers of a node are small

pub record IsSmall (n : Node) : Type 0 where
  pub czxid : n.czxid < 2 ^ 63
  pub mzxid : n.mzxid < 2 ^ 63
  pub pzxid : n.pzxid < 2 ^ 63
  pub version : n.version ≤ 2147483647
  pub bytes : size_of n.content ≤ 2147483647

abbrev AllSmall : Option Node → Type 0
AllSmall None = ⊤
AllSmall (Some n) = IsSmall n

small_regrouped : (b : Bool) (z : ℕ) (o : Option Node) → z < 2 ^ 63 → AllSmall o → AllSmall (cond b (option_map (regrouped z) o) o)
small_regrouped false z o l h = h
small_regrouped true z None l h = tt
small_regrouped true z (Some n) l h = record { czxid = h.czxid; mzxid = h.mzxid; pzxid = l; version = h.version; bytes = h.bytes }

small_after : (z : ℕ) (t : ℤ) (p : NodePath) (c : Change) (o : Option Node)
    → z < 2 ^ 63 → CanRise p c o → AllSmall o → AllSmall (node_after z t p c o)
small_after z t p (Creates [] content owner) o l r h = h
small_after z t p (Creates (name ∷ path) content owner) o l r h =
    elim (path_eq p (name ∷ path)) as
    (λ a. AllSmall (cond a (Some (made z t content owner)) (cond (path_eq p path) (option_map (regrouped z) o) o))) [
      | true ↦ record { czxid = l; mzxid = l; pzxid = l; version = omega arith; bytes = r }
      | false ↦ small_regrouped (path_eq p path) z o l h
    ]
small_after z t p (Sets path content) None l r h = elim (path_eq p path) as (λ a. AllSmall (cond a None None)) [ true ↦ tt | false ↦ tt ]
small_after z t p (Sets path content) (Some n) l r h =
    elim (path_eq p path) as (λ a. path_eq p path ≡ a → AllSmall (cond a (Some (written z t content n)) (Some n))) [
      | true ↦ λ e. let low = r.1 e n refl in
          record { czxid = h.czxid; mzxid = l; pzxid = h.pzxid; version = omega (arith, low); bytes = r.0 }
      | false ↦ λ e. h
    ] refl
small_after z t p (Deletes []) o l r h = h
small_after z t p (Deletes (name ∷ path)) o l r h =
    elim (path_eq p (name ∷ path)) as (λ a. AllSmall (cond a None (cond (path_eq p path) (option_map (regrouped z) o) o))) [
      | true ↦
          tt
      | false ↦ small_regrouped (path_eq p path) z o l h
    ]

small_all : (z : ℕ) (t : ℤ) (p : NodePath) (cs : List Change) (o : Option Node)
    → z < 2 ^ 63 → CanRiseAll z t p cs o → AllSmall o → AllSmall (node_after_all z t p cs o)
small_all z t p [] o l r h = h
small_all z t p (c ∷ cs) o l r h = small_all z t p cs (node_after z t p c o) l r.1 (small_after z t p c o l r.0 h)

small_at : (z : ℕ) (p : NodePath) (ts : List Transaction) (o : Option Node)
    → ((one : Transaction) (n : ℕ) → slice_get ts n ≡ Some one → one.zxid < 2 ^ 63)
    → CanRiseAt z p ts o → AllSmall o → AllSmall (node_at z p ts o)
small_at z p [] o l r h = h
small_at z p (one ∷ more) o l r h =
    let next : AllSmall (cond (leb one.zxid z) (node_after_all one.zxid one.time p one.changes o) o) =
    elim (leb one.zxid z) as (λ b. leb one.zxid z ≡ b → AllSmall (cond b (node_after_all one.zxid one.time p one.changes o) o)) [
      | true ↦ λ e. small_all one.zxid one.time p one.changes o (l one 0 refl) (r.0 e) h
      | false ↦ λ e. h
    ] refl in
    small_at z p more (cond (leb one.zxid z) (node_after_all one.zxid one.time p one.changes o) o) (λ two n e. l two (suc n) e) r.1 next

rising_small : (low : ℕ) (ts : List Transaction) → AreRising low ts → (one : Transaction) (n : ℕ)
    → slice_get ts n ≡ Some one → one.zxid < 2 ^ 63
rising_small low [] r one n e = absurd cc
rising_small low (a ∷ ts) r one zero e = let same : a ≡ one = cc in subst (λ (o : Transaction). o.zxid < 2 ^ 63) same r.1
rising_small low (a ∷ ts) r one (suc n) e = rising_small a.zxid ts r.2 one n e

first_small : (ts : List Transaction) → list_all is_first ts ≡ true → (one : Transaction) (n : ℕ)
    → slice_get ts n ≡ Some one → one.zxid < 2 ^ 63
first_small [] r one n e = absurd cc
first_small (a ∷ ts) r one zero e =
    let same : a ≡ one = cc in
    let z : eqb a.zxid 0 ≡ true = grind (arith, r) in
    let z0 = eqb-true a.zxid 0 z in
    let l : a.zxid < 2 ^ 63 = omega (arith, z0) in
    subst (λ (o : Transaction). o.zxid < 2 ^ 63) same l
first_small (a ∷ ts) r one (suc n) e = let more : list_all is_first ts ≡ true = grind (arith, r) in first_small ts more one n e

small_root : (p : NodePath) → AllSmall (root_tree p)
small_root [] = record { czxid = omega arith; mzxid = omega arith; pzxid = omega arith; version = omega arith; bytes = omega arith }
small_root (name ∷ p) = tt

pub node_small : (kept : HistoryView) (z : ℕ) (p : NodePath) (n : Node) → IsSound kept → tree_at (history_of kept) z p ≡ Some n → IsSmall n
node_small kept z p n sound e =
    let first : AllSmall (first_tree kept p) =
    subst AllSmall (kept_lemmas.first_node kept p sound)
    (small_at 0 p kept.nodes (root_tree p) (first_small kept.nodes sound.first) (first_rises kept p sound) (small_root p)) in
    let later = small_at z p kept.transactions (first_tree kept p) (rising_small 0 kept.transactions sound.rising)
    (later_rises kept z p sound) first in
    subst AllSmall e (subst AllSmall (later_node kept z p) later)

-- what is found of an entry
pub found_told : (kept : HistoryView) (e : Entry) (o : Option Node)
    → Tells kept (Some e) o → (content : Option (List ℕ)) × (content_at kept e.origin ≡ Some content) × (Some (node_with e content) ≡ o)
found_told kept e None h = absurd cc
found_told kept e (Some m) h = let told = from_tells kept e m h in (told.0, told.1, ap Some told.2)

pub none_told : (kept : HistoryView) (o : Option Node) → Tells kept None o → None ≡ o
none_told kept None h = refl
none_told kept (Some m) h = absurd cc

-- what was noted is forgotten again
pub noted_forgotten : (z : ℕ) (t : ℤ) (s : Origin) (text : Text) (c : Change) (old new gone : List Version)
    → new ≡ versions_after z t s text c old → gone ≡ versions_before text c new → gone ≡ old
noted_forgotten z t s text c old new gone noted forgotten =
    elim (touches (path_of text) c) as
    (λ b. new ≡ cond b (with_version z t s text c old) old → gone ≡ cond b (without_last new) new → gone ≡ old) [
      | true ↦ λ n f. f ∙ ap without_last n ∙ without_pushed old (version_after z t s (path_of text) c (last_version old))
      | false ↦ λ n f. f ∙ n
    ] noted forgotten
