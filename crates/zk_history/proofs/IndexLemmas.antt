-- The versions of each path tell the history, and go on to after a change, a transaction or a first node more: by whether the change
-- touches the path.
use Rattle.std.proofs.Common.{◌≡◌, ℕ, ◌<◌, ◌≤◌, ◌^◌, ℤ, pos, true, false, cond, leb, List, [], ◌∷◌}
use Rattle.std.proofs.Common.{◌++◌, length, Option, Some, None, is_some, refl, sym, ap, subst, ◌∙◌, arith}
use Rattle.std.proofs.lemmas.Bool.{cond-true, leb-true}
use Rattle.std.proofs.lemmas.Bool.Decides.{nat_tests}
use Rattle.std.specs.FinSet as set
use Rattle.zk_nodes.specs.Path.{Text, NodePath, path_of}
use Rattle.zk_nodes.specs.History.{Node, Tree, Change, Creates, Sets, Deletes, Transaction}
use Rattle.zk_nodes.specs.History.{tree_at, newest, AreRising}
use Rattle.zk_nodes.specs.PathFault.{IsPath}
use Rattle.zk_history.specs.inner.Replay.{node_after, node_at}
use Rattle.zk_history.specs.Replay.{count_after, count_at, children_after}
use Rattle.zk_history.specs.Replay.{children_at}
use Rattle.zk_history.specs.HistoryView.{HistoryView, IsSound, history_of, first_tree, newest_tree, root_tree, empty_kept, IsAccepted}
use Rattle.zk_history.specs.HistoryView.{made_transaction, last_with, with_change, with_transaction, with_node}
use Rattle.zk_history.specs.declared.version.Version.{Version}
use Rattle.zk_history.specs.declared.version.Origin.{Origin}
use Rattle.zk_history.specs.declared.version.Origin.TheVariants.{First}
use Rattle.zk_history.specs.Versions.{version_at, AreOrdered, entry_of, children_of}
use Rattle.zk_history.specs.inner.Versions.{last_version}
use Rattle.zk_history.specs.inner.Versions.{version_after, with_version, versions_after}
use Rattle.zk_history.specs.inner.Versions.{touches, CanBeNoted, CanBeWritten, last_transaction}
use Rattle.zk_history.specs.inner.Versions.{next_origin}
use Rattle.zk_history.specs.Versions.{change_at, Tells, names_by, names_told, ArePlaced, IsIndexed}
use Rattle.zk_nodes.proofs.PathTexts.{path_eq-true}
use Rattle.zk_history.proofs.ViewLemmas.{later_node, names_first, count_first, count_later, newest-tree_at}
use Rattle.zk_history.proofs.VersionsLemmas.{version_at-last, version_at-push, AreOrdered-push, AreOrdered-higher}
use Rattle.zk_history.proofs.WalkLemmas.{same_either, node-change, count-change, names-change, node-empty, count-empty, names-empty}
use Rattle.zk_history.proofs.WalkLemmas.{names-node, count-node, first-node}
use Rattle.zk_history.proofs.GrowLemmas.{Grows, grows-change, grows-transaction, grows-node, placed-change, placed-node, from_tells}
use Rattle.zk_history.proofs.GrowLemmas.{Tells-grows, tells_after, tells_first, node_untouched, count_untouched, names_untouched}
use Rattle.zk_history.proofs.GrowLemmas.{ArePlaced-grows, ArePlaced-push, names_told-grows, names_told-push}

-- what one path's versions tell

pub record Told_at (kept : HistoryView) (versions : List Version) (p : NodePath) (z : ℕ) : Type 0 where
  pub node : Tells kept (entry_of p (version_at z versions None)) (tree_at (history_of kept) z p)
  pub count : children_of (version_at z versions None) ≡ count_at z p kept.transactions (count_at 0 p kept.nodes 0)
  pub names : names_told kept p z versions set.empty ≡ children_at z p kept.transactions (children_at 0 p kept.nodes set.empty)

-- what a change does to the history at a path and a zxid
pub record Changes_at (kept more : HistoryView) (zxid : ℕ) (t : ℤ) (c : Change) (p : NodePath) (z : ℕ) : Type 0 where
  pub node : tree_at (history_of more) z p ≡ cond (leb zxid z) (node_after zxid t p c (tree_at (history_of kept) z p))
      (tree_at (history_of kept) z p)
  pub count : count_at z p more.transactions (count_at 0 p more.nodes 0) ≡ cond (leb zxid z)
      (count_after p c (count_at z p kept.transactions (count_at 0 p kept.nodes 0)))
      (count_at z p kept.transactions (count_at 0 p kept.nodes 0))
  pub names : children_at z p more.transactions (children_at 0 p more.nodes set.empty)
      ≡ cond (leb zxid z) (children_after p c (children_at z p kept.transactions (children_at 0 p kept.nodes set.empty)))
      (children_at z p kept.transactions (children_at 0 p kept.nodes set.empty))

-- where nothing happens to a path
unchanged : (kept more : HistoryView) (zxid : ℕ) (t : ℤ) (c : Change) (p : NodePath) (z : ℕ) (versions : List Version)
    → Grows kept more → Changes_at kept more zxid t c p z → touches p c ≡ false → ArePlaced kept versions
    → Told_at kept versions p z → Told_at more versions p z
unchanged kept more zxid t c p z versions grows changes far placed told =
    let node : tree_at (history_of more) z p ≡ tree_at (history_of kept) z p =
    changes.node
    ∙ ap (λ n. cond (leb zxid z) n (tree_at (history_of kept) z p)) (node_untouched zxid t p c (tree_at (history_of kept) z p) far)
    ∙ same_either (leb zxid z) (tree_at (history_of kept) z p) in
    let n = count_at z p kept.transactions (count_at 0 p kept.nodes 0) in
    let count : count_at z p more.transactions (count_at 0 p more.nodes 0) ≡ count_at z p kept.transactions (count_at 0 p kept.nodes 0) =
    changes.count ∙ ap (λ m. cond (leb zxid z) m n) (count_untouched p c n far) ∙ same_either (leb zxid z) n in
    let all = children_at z p kept.transactions (children_at 0 p kept.nodes set.empty) in
    let names : children_at z p more.transactions (children_at 0 p more.nodes set.empty) ≡ all =
    changes.names ∙ ap (λ m. cond (leb zxid z) m all) (names_untouched p c all far) ∙ same_either (leb zxid z) all in
    record {
      names = names_told-grows kept more p z versions set.empty grows placed ∙ told.names ∙ sym names;
      node = subst (Tells more (entry_of p (version_at z versions None))) (sym node)
          (Tells-grows kept more (entry_of p (version_at z versions None)) (tree_at (history_of kept) z p) grows told.node);
      count = told.count ∙ sym count;
    }

-- where a version is added
changed : (kept more : HistoryView) (zxid high : ℕ) (t : ℤ) (s : Origin) (c : Change) (p : NodePath) (z : ℕ) (versions : List Version)
    → Grows kept more → change_at more s ≡ Some c → Changes_at kept more zxid t c p z
    → AreOrdered 0 versions high → high ≤ zxid → ArePlaced kept versions → Told_at kept versions p z
    → Told_at more (versions ++ version_after zxid t s p c (last_version versions) ∷ []) p z
changed kept more zxid high t s c p z versions grows is changes ordered low placed told =
    let v = version_after zxid t s p c (last_version versions) in
    let old = version_at z versions None in
    let tree = tree_at (history_of kept) z p in
    let n = count_at z p kept.transactions (count_at 0 p kept.nodes 0) in
    let here : version_at z (versions ++ v ∷ []) None ≡ cond (leb zxid z) (Some v) old = version_at-push z versions v None in
    let both : Tells more (entry_of p (cond (leb zxid z) (Some v) old)) (cond (leb zxid z) (node_after zxid t p c tree) tree)
    × (children_of (cond (leb zxid z) (Some v) old) ≡ cond (leb zxid z) (count_after p c n) n) =
    elim (leb zxid z) as (λ b. leb zxid z ≡ b → Tells more (entry_of p (cond b (Some v) old)) (cond b (node_after zxid t p c tree) tree)
    × (children_of (cond b (Some v) old) ≡ cond b (count_after p c n) n)) [
      | true ↦ λ e.
          let le = leb-true zxid z e in
          let last : old ≡ last_version versions = version_at-last z 0 high versions ordered (omega (arith, low, le)) in (
            tells_after more zxid t s p c (entry_of p (last_version versions)) tree is
                (Tells-grows kept more (entry_of p (last_version versions)) tree grows
                (subst (λ o. Tells kept (entry_of p o) tree) last told.node)),
            ap (count_after p c) (ap children_of (sym last) ∙ told.count),
          )
      | false ↦ λ e. (Tells-grows kept more (entry_of p old) tree grows told.node, told.count)
    ] refl in
    let before : names_told more p z versions set.empty ≡ children_at z p kept.transactions (children_at 0 p kept.nodes set.empty) =
    names_told-grows kept more p z versions set.empty grows placed ∙ told.names in
    record {
      names =
          names_told-push more p z versions v set.empty
          ∙ ap (λ o. cond (leb zxid z) (names_by p o (names_told more p z versions set.empty)) (names_told more p z versions set.empty)) is
          ∙ ap (λ n. cond (leb zxid z) (children_after p c n) n) before ∙ sym changes.names;
      node = subst (λ o. Tells more (entry_of p o) (tree_at (history_of more) z p)) (sym here)
          (subst (Tells more (entry_of p (cond (leb zxid z) (Some v) old))) (sym changes.node) both.0);
      count = ap children_of here ∙ both.1 ∙ sym changes.count;
    }

-- The versions after a change tell the history with the change.
pub IsIndexed-step : (kept more : HistoryView) (zxid : ℕ) (t : ℤ) (s : Origin) (c : Change) (old new : Text → List Version)
    → Grows kept more → change_at more s ≡ Some c
    → ((p : NodePath) (z : ℕ) → Changes_at kept more zxid t c p z) → newest 0 kept.transactions ≤ zxid → newest 0 more.transactions ≡ zxid
    → ((text : Text) → IsPath text → new text ≡ versions_after zxid t s text c (old text)) → IsIndexed kept old → IsIndexed more new
IsIndexed-step kept more zxid t s c old new grows is changes low top next indexed =
    let told : (text : Text) → IsPath text → (z : ℕ) → Told_at more (new text) (path_of text) z = λ text path z.
    let before : Told_at kept (old text) (path_of text) z =
    record { node = indexed.nodes text path z; count = indexed.counts text path z; names = indexed.names text path z } in
    subst (λ vs. Told_at more vs (path_of text) z) (sym (next text path))
    (elim (touches (path_of text) c) as
    (λ b. touches (path_of text) c ≡ b → Told_at more (cond b (with_version zxid t s text c (old text)) (old text)) (path_of text) z) [
      | true ↦ λ e. changed kept more zxid (newest 0 kept.transactions) t s c (path_of text) z (old text) grows is
          (changes (path_of text) z) (indexed.ordered text path) low (indexed.placed text path) before
      | false ↦
          λ e. unchanged kept more zxid t c (path_of text) z (old text) grows (changes (path_of text) z) e (indexed.placed text path) before
    ] refl) in
    record {
      nodes = λ text path z. (told text path z).node;
      counts = λ text path z. (told text path z).count;
      names = λ text path z. (told text path z).names;
      placed = λ text path.
          let kept_placed = ArePlaced-grows kept more (old text) grows (indexed.placed text path) in
          subst (ArePlaced more) (sym (next text path))
          (elim (touches (path_of text) c) as (λ b. ArePlaced more (cond b (with_version zxid t s text c (old text)) (old text))) [
            | true ↦ ArePlaced-push more (old text)
                (version_after zxid t s (path_of text) c (last_version (old text))) kept_placed (ap is_some is)
            | false ↦ kept_placed
          ]);
      ordered = λ text path.
          subst (λ high. AreOrdered 0 (new text) high) (sym top) (subst (λ vs. AreOrdered 0 vs zxid) (sym (next text path))
          (elim (touches (path_of text) c) as (λ b. AreOrdered 0 (cond b (with_version zxid t s text c (old text)) (old text)) zxid) [
            | true ↦ AreOrdered-push 0 (newest 0 kept.transactions) (old text)
                (version_after zxid t s (path_of text) c (last_version (old text))) (indexed.ordered text path) low
            | false ↦ AreOrdered-higher 0 (newest 0 kept.transactions) zxid (old text) (indexed.ordered text path) low
          ]));
    }

pub IsIndexed-same : (kept : HistoryView) (old new : Text → List Version) → ((text : Text) → IsPath text → new text ≡ old text)
    → IsIndexed kept old → IsIndexed kept new
IsIndexed-same kept old new same indexed = record {
  nodes = λ text path z. subst (λ vs. Tells kept (entry_of (path_of text) (version_at z vs None))
      (tree_at (history_of kept) z (path_of text))) (sym (same text path)) (indexed.nodes text path z);
  counts = λ text path z. subst (λ vs. children_of (version_at z vs None) ≡ count_at z (path_of text) kept.transactions
      (count_at 0 (path_of text) kept.nodes 0)) (sym (same text path)) (indexed.counts text path z);
  names = λ text path z. subst (λ vs. names_told kept (path_of text) z vs set.empty ≡ children_at z (path_of text) kept.transactions
      (children_at 0 (path_of text) kept.nodes set.empty)) (sym (same text path)) (indexed.names text path z);
  placed = λ text path. subst (ArePlaced kept) (sym (same text path)) (indexed.placed text path);
  ordered = λ text path. subst (λ vs. AreOrdered 0 vs (newest 0 kept.transactions)) (sym (same text path)) (indexed.ordered text path);
}

-- nothing yet
pub IsIndexed-empty : (versions : Text → List Version) → ((text : Text) → versions text ≡ []) → IsIndexed empty_kept versions
IsIndexed-empty versions none = record {
  nodes = λ text path z. subst (λ vs. Tells empty_kept (entry_of (path_of text) (version_at z vs None)) (root_tree (path_of text)))
      (sym (none text)) (tells_first empty_kept (path_of text));
  counts = λ text path z. ap (λ vs. children_of (version_at z vs None)) (none text);
  names = λ text path z. ap (λ vs. names_told empty_kept (path_of text) z vs set.empty) (none text);
  placed = λ text path. subst (ArePlaced empty_kept) (sym (none text)) tt;
  ordered = λ text path. subst (λ vs. AreOrdered 0 vs 0) (sym (none text)) (omega arith);
}

-- the newest zxid

newest_last : (low : ℕ) (a : Transaction) (ts : List Transaction) → newest low (a ∷ ts) ≡ (last_transaction (a ∷ ts)).zxid
newest_last low a [] = refl
newest_last low a (b ∷ ts) = newest_last a.zxid b ts

newest_with : (low : ℕ) (ts : List Transaction) (c : Change) → newest low (last_with ts c) ≡ newest low ts
newest_with low [] c = refl
newest_with low (a ∷ []) c = refl
newest_with low (a ∷ b ∷ ts) c = newest_with a.zxid (b ∷ ts) c

newest_push : (low : ℕ) (ts : List Transaction) (one : Transaction) → newest low (ts ++ one ∷ []) ≡ one.zxid
newest_push low [] one = refl
newest_push low (a ∷ ts) one = newest_push a.zxid ts one

newest_some : (ts : List Transaction) → (ts ≡ [] → ⊥) → newest 0 ts ≡ (last_transaction ts).zxid
newest_some [] some = absurd (some refl)
newest_some (a ∷ ts) some = newest_last 0 a ts

newest_small : (low : ℕ) (ts : List Transaction) → low < 2 ^ 63 → AreRising low ts → newest low ts < 2 ^ 63
newest_small low [] l r = l
newest_small low (a ∷ ts) l r = newest_small a.zxid ts r.1 r.2

-- the three ways in which a history grows

pub IsIndexed-change : (kept : HistoryView) (c : Change) (old new : Text → List Version) → (kept.transactions ≡ [] → ⊥)
    → ((text : Text) → IsPath text → new text ≡ versions_after (last_transaction kept.transactions).zxid (last_transaction
    kept.transactions).time (next_origin kept.transactions) text c (old text))
    → IsIndexed kept old → IsIndexed (with_change kept c) new
IsIndexed-change kept c old new some next indexed =
    let last = last_transaction kept.transactions in
    let top = newest_some kept.transactions some in
    IsIndexed-step kept (with_change kept c) last.zxid last.time (next_origin kept.transactions) c old new (grows-change kept c)
    (placed-change kept c some)
    (λ p z. record {
      node = sym (later_node (with_change kept c) z p) ∙ node-change z p kept.transactions c (first_tree kept p) some
          ∙ ap (λ n. cond (leb last.zxid z) (node_after last.zxid last.time p c n) n) (later_node kept z p);
      count = count-change z p kept.transactions c (count_at 0 p kept.nodes 0) some;
      names = names-change z p kept.transactions c (children_at 0 p kept.nodes set.empty) some;
    })
    (omega (arith, top)) (newest_with 0 kept.transactions c ∙ top) next indexed

pub IsIndexed-transaction : (kept : HistoryView) (zxid : ℕ) (t : ℤ) (versions : Text → List Version)
    → newest 0 kept.transactions < zxid → IsIndexed kept versions → IsIndexed (with_transaction kept zxid t) versions
IsIndexed-transaction kept zxid t versions low indexed =
    let more = with_transaction kept zxid t in
    record {
      nodes = λ text path z.
          let p = path_of text in
          let same : tree_at (history_of kept) z p ≡ tree_at (history_of more) z p =
          sym (later_node kept z p) ∙ sym (node-empty z p kept.transactions zxid t (first_tree kept p)) ∙ later_node more z p in
          subst (Tells more (entry_of p (version_at z (versions text) None))) same
          (Tells-grows kept more (entry_of p (version_at z (versions text) None)) (tree_at (history_of kept) z p)
          (grows-transaction kept zxid t) (indexed.nodes text path z));
      counts = λ text path z. indexed.counts text path z
          ∙ sym (count-empty z (path_of text) kept.transactions zxid t (count_at 0 (path_of text) kept.nodes 0));
      names = λ text path z.
          names_told-grows kept more (path_of text) z (versions text) set.empty (grows-transaction kept zxid t) (indexed.placed text path)
          ∙ indexed.names text path z
          ∙ sym (names-empty z (path_of text) kept.transactions zxid t (children_at 0 (path_of text) kept.nodes set.empty));
      placed = λ text path. ArePlaced-grows kept more (versions text) (grows-transaction kept zxid t) (indexed.placed text path);
      ordered = λ text path.
          let top = newest_push 0 kept.transactions (made_transaction zxid t []) in
          AreOrdered-higher 0 (newest 0 kept.transactions) (newest 0 more.transactions) (versions text) (indexed.ordered text path)
          (omega (arith, top, low));
    }

pub IsIndexed-node : (kept : HistoryView) (p : NodePath) (content : Option (List ℕ)) (t : ℤ) (old new : Text → List Version)
    → kept.transactions ≡ []
    → ((text : Text) → IsPath text → new text ≡ versions_after 0 t (First (length kept.nodes)) text (Creates p content (pos 0)) (old text))
    → IsIndexed kept old → IsIndexed (with_node kept p content t) new
IsIndexed-node kept p content t old new none next indexed =
    let more = with_node kept p content t in
    let c = Creates p content (pos 0) in
    let zero_low : (z : ℕ) → leb 0 z ≡ true = λ z. grind (arith, nat_tests) in
    let low : newest 0 kept.transactions ≡ 0 = ap (newest 0) none in
    IsIndexed-step kept more 0 t (First (length kept.nodes)) c old new (grows-node kept p content t) (placed-node kept p content t)
    (λ q z. record {
      node =
          sym (later_node more z q) ∙ ap (λ ts. node_at z q ts (first_tree more q)) none ∙ first-node q kept.nodes t c root_tree
          ∙ ap (node_after 0 t q c) (ap (λ ts. node_at z q ts (first_tree kept q)) (sym none) ∙ later_node kept z q)
          ∙ sym (cond-true (leb 0 z) (node_after 0 t q c (tree_at (history_of kept) z q)) (tree_at (history_of kept) z q) (zero_low z));
      count =
          ap (λ ts. count_at z q ts (count_at 0 q more.nodes 0)) none ∙ count-node q kept.nodes t c 0
          ∙ ap (count_after q c) (ap (λ ts. count_at z q ts (count_at 0 q kept.nodes 0)) (sym none))
          ∙ sym (cond-true (leb 0 z) (count_after q c (count_at z q kept.transactions (count_at 0 q kept.nodes 0)))
          (count_at z q kept.transactions (count_at 0 q kept.nodes 0)) (zero_low z));
      names =
          ap (λ ts. children_at z q ts (children_at 0 q more.nodes set.empty)) none ∙ names-node q kept.nodes t c set.empty
          ∙ ap (children_after q c) (ap (λ ts. children_at z q ts (children_at 0 q kept.nodes set.empty)) (sym none))
          ∙ sym (cond-true (leb 0 z) (children_after q c (children_at z q kept.transactions (children_at 0 q kept.nodes set.empty)))
          (children_at z q kept.transactions (children_at 0 q kept.nodes set.empty)) (zero_low z));
    })
    (omega (arith, low)) low next indexed

-- the number of children

pub count_is : (kept : HistoryView) (z : ℕ) (p : NodePath) → IsSound kept
    → count_at z p kept.transactions (count_at 0 p kept.nodes 0) ≡ set.len (children_at z p kept.transactions (names_first kept p))
count_is kept z p sound = ap (count_at z p kept.transactions) (count_first kept p sound).1 ∙ (count_later kept z p sound).1

pub count_small : (kept : HistoryView) (z : ℕ) (p : NodePath)
    → IsSound kept → count_at z p kept.transactions (count_at 0 p kept.nodes 0) ≤ 2147483647
count_small kept z p sound = subst (λ (n : ℕ). n ≤ 2147483647) (sym (count_is kept z p sound)) (count_later kept z p sound).2

-- a change that is accepted can be noted

newest-version : (kept : HistoryView) (versions : Text → List Version) (text : Text) → IsSound kept → IsIndexed kept versions → IsPath text
    → version_at 9223372036854775808 (versions text) None ≡ last_version (versions text)
newest-version kept versions text sound indexed path =
    let small = newest_small 0 kept.transactions (omega arith) sound.rising in
    version_at-last 9223372036854775808 0 (newest 0 kept.transactions) (versions text) (indexed.ordered text path) (omega (arith, small))

pub can_be_noted : (kept : HistoryView) (versions : Text → List Version) (c : Change)
    → IsSound kept → IsIndexed kept versions → IsAccepted c (newest_tree kept)
    → (text : Text) → IsPath text → CanBeNoted (path_of text) c (last_version (versions text))
can_be_noted kept versions c sound indexed accepted text path =
    let p = path_of text in
    let z : ℕ = 9223372036854775808 in
    let last = newest-version kept versions text sound indexed path in
    let count : children_of (last_version (versions text)) ≤ 2147483647 =
    subst (λ (n : ℕ). n ≤ 2147483647) (sym (indexed.counts text path z) ∙ ap children_of last) (count_small kept z p sound) in
    let tells : Tells kept (entry_of p (last_version (versions text))) (newest_tree kept p) =
    subst (λ o. Tells kept (entry_of p o) (newest_tree kept p)) last (subst (λ (tree : Tree).
    Tells kept (entry_of p (version_at z (versions text) None)) (tree p)) (newest-tree_at kept sound) (indexed.nodes text path z)) in
    (count, go c accepted tells) where
      go : (c : Change) → IsAccepted c (newest_tree kept) → Tells kept (entry_of (path_of text) (last_version (versions text)))
          (newest_tree kept (path_of text)) → CanBeWritten (path_of text) c (last_version (versions text))
      go (Creates path content owner) accepted tells = tt
      go (Deletes path) accepted tells = tt
      go (Sets path content) accepted tells = λ same e is.
          let there : newest_tree kept (path_of text) ≡ Some accepted.0.0 =
          ap (newest_tree kept) (path_eq-true (path_of text) path same) ∙ accepted.0.1 in
          let both : Tells kept (Some e) (Some accepted.0.0) =
          subst (Tells kept (Some e)) there (subst (λ o. Tells kept o (newest_tree kept (path_of text))) is tells) in
          let told = from_tells kept e accepted.0.0 both in
          subst (λ (m : Node). m.version < 2147483647) (sym told.2) accepted.0.2
