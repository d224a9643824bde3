-- Whose nodes are there after changes.
use Rattle.std.proofs.Common.{◌≡◌, ◌≢◌, ℕ, ℤ, Bool, true, false, ◌||◌, List, [], ◌∷◌, ◌++◌, Option, Some, None}
use Rattle.std.proofs.Common.{refl, sym, ap, ◌∙◌, cond, subst}
use Rattle.std.specs.List.{list_any}
use Rattle.std.specs.Option.{option_map}
use Rattle.std.proofs.lemmas.List.Folds.{list_any-append}
use Rattle.zk_nodes.specs.Path.{NodePath, path_eq}
use Rattle.zk_nodes.specs.History.{Node, Tree, Change, Creates, Sets, Deletes, Transaction}
use Rattle.zk_nodes.specs.History.{made, written, regrouped, apply, apply_all, after}
use Rattle.zk_nodes.proofs.PathTexts.{path_eq-true, path_eq-refl}
use Rattle.zk_history.specs.HistoryView.{HistoryView, last_with, with_change, newest_tree, first_tree}
use Rattle.zk_log_history.specs.Changes.{is_owner, is_owned, made_by, made_in, with_changes, deletions}

-- this path is one of these
abbrev pub has : NodePath → List NodePath → Bool
has p ps = list_any (path_eq p) ps

or_false : (a b : Bool) → (a || b) ≡ false → (a ≡ false) × (b ≡ false)
or_false true b e = cc
or_false false b e = (refl, e)

both_false : (a b : Bool) → a ≡ false → b ≡ false → (a || b) ≡ false
both_false a b x y = ap (λ c. c || b) x ∙ y

pub has-parts : (p : NodePath) (ps qs : List NodePath) → has p (ps ++ qs) ≡ false → (has p ps ≡ false) × (has p qs ≡ false)
has-parts p ps qs e = or_false (has p ps) (has p qs) (sym (list_any-append (path_eq p) ps qs) ∙ e)

first_false : (a b : Bool) → (a || b) ≡ false → a ≡ false
first_false true b e = cc
first_false false b e = refl

kept_owner : (s : ℤ) (n : ℕ) (b : Bool) (o : Option Node) → is_owned s o ≡ false
    → is_owned s (cond b (option_map (regrouped n) o) o) ≡ false
kept_owner s n true None e = refl
kept_owner s n true (Some node) e = e
kept_owner s n false o e = e

written_owner : (s : ℤ) (n : ℕ) (t : ℤ) (c : Option (List ℕ)) (b : Bool) (o : Option Node) → is_owned s o ≡ false
    → is_owned s (cond b (option_map (written n t c) o) o) ≡ false
written_owner s n t c true None e = refl
written_owner s n t c true (Some node) e = e
written_owner s n t c false o e = e

made_owner : (b owns : Bool) (o : Option Node) (s : ℤ) (node : Node) (p q : NodePath) → is_owner s node.owner ≡ owns → path_eq p q ≡ b
    → is_owned s o ≡ false → has p (cond owns (q ∷ []) []) ≡ false → is_owned s (cond b (Some node) o) ≡ false
made_owner false owns o s node p q w e none apart = none
made_owner true false o s node p q w e none apart = w
made_owner true true o s node p q w e none apart = absurd (let f : true ≡ false = sym e ∙ first_false (path_eq p q) false apart in cc)

-- a change leaves at a path a node of the session only where it was, or where the session makes it
pub owned-change : (s : ℤ) (z : ℕ) (t : ℤ) (c : Change) (tree : Tree) (p : NodePath) → is_owned s (tree p) ≡ false
    → has p (made_by s (c ∷ [])) ≡ false → is_owned s (apply z t c tree p) ≡ false
owned-change s z t (Creates [] content owner) tree p none apart = none
owned-change s z t (Creates (name ∷ path) content owner) tree p none apart =
    made_owner (path_eq p (name ∷ path)) (is_owner s owner) (cond (path_eq p path) (option_map (regrouped z) (tree p)) (tree p)) s
    (made z t content owner) p (name ∷ path) refl refl (kept_owner s z (path_eq p path) (tree p) none) apart
owned-change s z t (Sets path content) tree p none apart = written_owner s z t content (path_eq p path) (tree p) none
owned-change s z t (Deletes []) tree p none apart = none
owned-change s z t (Deletes (name ∷ path)) tree p none apart = go (path_eq p (name ∷ path)) where
  go : (b : Bool) → is_owned s (cond b None (cond (path_eq p path) (option_map (regrouped z) (tree p)) (tree p))) ≡ false
  go true = refl
  go false = kept_owner s z (path_eq p path) (tree p) none

-- nobody makes the root
pub owned-root : (s : ℤ) (z : ℕ) (t : ℤ) (c : Change) (tree : Tree) → is_owned s (tree []) ≡ false
    → is_owned s (apply z t c tree []) ≡ false
owned-root s z t (Creates [] content owner) tree none = none
owned-root s z t (Creates (name ∷ path) content owner) tree none = kept_owner s z (path_eq [] path) (tree []) none
owned-root s z t (Sets path content) tree none = written_owner s z t content (path_eq [] path) (tree []) none
owned-root s z t (Deletes []) tree none = none
owned-root s z t (Deletes (name ∷ path)) tree none = kept_owner s z (path_eq [] path) (tree []) none

made_by-parts : (s : ℤ) (p : NodePath) (c : Change) (cs : List Change) → has p (made_by s (c ∷ cs)) ≡ false
    → (has p (made_by s (c ∷ [])) ≡ false) × (has p (made_by s cs) ≡ false)
made_by-parts s p (Creates q content owner) cs e = go (is_owner s owner) e where
  go : (b : Bool) → has p (cond b (q ∷ made_by s cs) (made_by s cs)) ≡ false
      → (has p (cond b (q ∷ []) []) ≡ false) × (has p (made_by s cs) ≡ false)
  go true e = has-parts p (q ∷ []) (made_by s cs) e
  go false e = (refl, e)
made_by-parts s p (Sets q content) cs e = (refl, e)
made_by-parts s p (Deletes q) cs e = (refl, e)

owned-all : (s : ℤ) (z : ℕ) (t : ℤ) (cs : List Change) (tree : Tree) (p : NodePath) → is_owned s (tree p) ≡ false
    → has p (made_by s cs) ≡ false → is_owned s (apply_all z t cs tree p) ≡ false
owned-all s z t [] tree p none apart = none
owned-all s z t (c ∷ cs) tree p none apart =
    let parts = made_by-parts s p c cs apart in
    owned-all s z t cs (apply z t c tree) p (owned-change s z t c tree p none parts.0) parts.1

-- so it is with transactions
pub owned-after : (s : ℤ) (ts : List Transaction) (tree : Tree) (p : NodePath) → is_owned s (tree p) ≡ false
    → has p (made_in s ts) ≡ false → is_owned s (after ts tree p) ≡ false
owned-after s [] tree p none apart = none
owned-after s (one ∷ more) tree p none apart =
    let parts = has-parts p (made_by s one.changes) (made_in s more) apart in
    owned-after s more (apply_all one.zxid one.time one.changes tree) p
    (owned-all s one.zxid one.time one.changes tree p none parts.0) parts.1

root-all : (s : ℤ) (z : ℕ) (t : ℤ) (cs : List Change) (tree : Tree) → is_owned s (tree []) ≡ false
    → is_owned s (apply_all z t cs tree []) ≡ false
root-all s z t [] tree none = none
root-all s z t (c ∷ cs) tree none = root-all s z t cs (apply z t c tree) (owned-root s z t c tree none)

pub root-after : (s : ℤ) (ts : List Transaction) (tree : Tree) → is_owned s (tree []) ≡ false → is_owned s (after ts tree []) ≡ false
root-after s [] tree none = none
root-after s (one ∷ more) tree none =
    root-after s more (apply_all one.zxid one.time one.changes tree) (root-all s one.zxid one.time one.changes tree none)

-- ---- one change more

pub apply_all-end : (z : ℕ) (t : ℤ) (cs : List Change) (c : Change) (tree : Tree)
    → apply_all z t (cs ++ c ∷ []) tree ≡ apply z t c (apply_all z t cs tree)
apply_all-end z t [] c tree = refl
apply_all-end z t (x ∷ xs) c tree = apply_all-end z t xs c (apply z t x tree)

more-after : (s : ℤ) (ts : List Transaction) (c : Change) (tree : Tree) (p : NodePath) → is_owned s (after ts tree p) ≡ false
    → has p (made_by s (c ∷ [])) ≡ false → is_owned s (after (last_with ts c) tree p) ≡ false
more-after s [] c tree p none apart = none
more-after s (one ∷ []) c tree p none apart =
    ap (λ (u : Tree). is_owned s (u p)) (apply_all-end one.zxid one.time one.changes c tree)
    ∙ owned-change s one.zxid one.time c (apply_all one.zxid one.time one.changes tree) p none apart
more-after s (one ∷ two ∷ more) c tree p none apart =
    more-after s (two ∷ more) c (apply_all one.zxid one.time one.changes tree) p none apart

-- what is deleted is gone
pub gone-after : (ts : List Transaction) (name : List ℕ) (path : NodePath) (tree : Tree) → ts ≢ []
    → after (last_with ts (Deletes (name ∷ path))) tree (name ∷ path) ≡ None
gone-after [] name path tree some = absurd (some refl)
gone-after (one ∷ []) name path tree some =
    let q = name ∷ path in
    let u = apply_all one.zxid one.time one.changes tree in
    ap (λ (v : Tree). v q) (apply_all-end one.zxid one.time one.changes (Deletes q) tree)
    ∙ ap (λ b. cond b None (cond (path_eq q path) (option_map (regrouped one.zxid) (u q)) (u q))) (path_eq-refl q)
gone-after (one ∷ two ∷ more) name path tree some =
    gone-after (two ∷ more) name path (apply_all one.zxid one.time one.changes tree) (λ e. cc)

pub some-with : (ts : List Transaction) (c : Change) → ts ≢ [] → last_with ts c ≢ []
some-with [] c some = λ e. some refl
some-with (one ∷ []) c some = λ e. cc
some-with (one ∷ two ∷ more) c some = λ e. cc

pub some-changes : (kept : HistoryView) (cs : List Change) → kept.transactions ≢ [] → (with_changes kept cs).transactions ≢ []
some-changes kept [] some = some
some-changes kept (c ∷ cs) some = some-changes (with_change kept c) cs (some-with kept.transactions c some)

pub nodes-changes : (kept : HistoryView) (cs : List Change) → (with_changes kept cs).nodes ≡ kept.nodes
nodes-changes kept [] = refl
nodes-changes kept (c ∷ cs) = nodes-changes (with_change kept c) cs

-- ---- deletions

-- they make nobody's node another's
pub owned-deletions : (s : ℤ) (due : Option Node → Bool) (kept : HistoryView) (ps : List NodePath) (p : NodePath)
    → is_owned s (newest_tree kept p) ≡ false → is_owned s (newest_tree (with_changes kept (deletions due kept ps)) p) ≡ false
owned-deletions s due kept [] p none = none
owned-deletions s due kept (q ∷ qs) p none =
    let next = with_change kept (Deletes q) in
    elim (due (newest_tree kept q)) as (λ b. is_owned s (newest_tree (with_changes kept (cond b (Deletes q ∷ deletions due next qs)
    (deletions due kept qs))) p) ≡ false) [
      | true ↦ owned-deletions s due next qs p (more-after s kept.transactions (Deletes q) (first_tree kept) p none refl)
      | false ↦ owned-deletions s due kept qs p none
    ]

-- and they leave none of the session at any of the paths but the root
pub owned-none : (s : ℤ) (kept : HistoryView) (ps : List NodePath) (name : List ℕ) (path : NodePath) → kept.transactions ≢ []
    → has (name ∷ path) ps ≡ true → is_owned s (newest_tree (with_changes kept (deletions (is_owned s) kept ps)) (name ∷ path)) ≡ false
owned-none s kept [] name path some e = cc
owned-none s kept (q ∷ qs) name path some e =
    go (path_eq (name ∷ path) q) (is_owned s (newest_tree kept q)) refl refl e
    (λ h. owned-none s (with_change kept (Deletes q)) qs name path (some-with kept.transactions (Deletes q) some) h)
    (λ h. owned-none s kept qs name path some h) where
      p : NodePath
      p = name ∷ path

      next : HistoryView
      next = with_change kept (Deletes q)

      go : (same due : Bool) → path_eq p q ≡ same → is_owned s (newest_tree kept q) ≡ due → (same || has p qs) ≡ true
          → (has p qs ≡ true → is_owned s (newest_tree (with_changes next (deletions (is_owned s) next qs)) p) ≡ false)
          → (has p qs ≡ true → is_owned s (newest_tree (with_changes kept (deletions (is_owned s) kept qs)) p) ≡ false)
          → is_owned s (newest_tree (with_changes kept (cond due (Deletes q ∷ deletions (is_owned s) next qs)
          (deletions (is_owned s) kept qs))) p) ≡ false
      go true true a d h deeper along =
          let here : p ≡ q = path_eq-true p q a in
          owned-deletions s (is_owned s) next qs p
          (ap (is_owned s) (subst (λ r. newest_tree (with_change kept (Deletes r)) p ≡ None) here
          (gone-after kept.transactions name path (first_tree kept) some)))
      go true false a d h deeper along =
          owned-deletions s (is_owned s) kept qs p (ap (λ r. is_owned s (newest_tree kept r)) (path_eq-true p q a) ∙ d)
      go false true a d h deeper along = deeper h
      go false false a d h deeper along = along h
