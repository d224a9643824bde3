-- A node that stands at a later zxid, and was made by an earlier one, stood at the earlier one: by induction on the changes in between,
-- each of which makes nodes with its own newer zxid or leaves the czxid.
use Rattle.std.specs.Option.{option_map}
use Rattle.std.proofs.Common.{ℕ, ℤ, ◌≡◌, ◌<◌, ◌≤◌, Bool, true, false, List, [], ◌∷◌, refl, ap, ◌∙◌, subst, arith, Option, Some, None}
use Rattle.zk_nodes.specs.Path.{NodePath, path_eq}
use Rattle.zk_nodes.specs.History.{Node, Tree, Change, Creates, Sets, Deletes, Transaction, apply, apply_all, after, History, IsHistory}
use Rattle.zk_nodes.specs.History.{up_to, tree_at, written, regrouped}
use Rattle.zk_laws.proofs.Stamps.{AreNewer, up_to_more, after-append}

-- the node is there, and was made at this zxid
abbrev pub IsMade : ℕ → Option Node → Type 0
IsMade n None = ⊥
IsMade n (Some node) = node.czxid ≡ n

made_regrouped : (n z : ℕ) (o : Option Node) → IsMade n (option_map (regrouped z) o) → IsMade n o
made_regrouped n z None h = absurd h
made_regrouped n z (Some node) h = h

made_written : (n z : ℕ) (t : ℤ) (content : Option (List ℕ)) (o : Option Node) → IsMade n (option_map (written z t content) o) → IsMade n o
made_written n z t content None h = absurd h
made_written n z t content (Some node) h = h

made_one : (n : ℕ) (path : NodePath) (c : Change) (z : ℕ) (t : ℤ) (tree : Tree)
    → n < z → IsMade n (apply z t c tree path) → IsMade n (tree path)
made_one n path (Creates [] content owner) z t tree lt h = h
made_one n path (Creates (name ∷ above) content owner) z t tree lt h = go (path_eq path (name ∷ above)) refl (path_eq path above) refl
  where
    go : (b : Bool) → path_eq path (name ∷ above) ≡ b → (d : Bool) → path_eq path above ≡ d → IsMade n (tree path)
    go true e d f = let k : z ≡ n = rw e at h in absurd (omega arith)
    go false e true f = made_regrouped n z (tree path) (rw (e, f) at h)
    go false e false f = rw (e, f) at h
made_one n path (Sets at content) z t tree lt h = go (path_eq path at) refl
  where
    go : (b : Bool) → path_eq path at ≡ b → IsMade n (tree path)
    go true e = made_written n z t content (tree path) (rw e at h)
    go false e = rw e at h
made_one n path (Deletes []) z t tree lt h = h
made_one n path (Deletes (name ∷ above)) z t tree lt h = go (path_eq path (name ∷ above)) refl (path_eq path above) refl
  where
    go : (b : Bool) → path_eq path (name ∷ above) ≡ b → (d : Bool) → path_eq path above ≡ d → IsMade n (tree path)
    go true e d f = absurd (rw e at h)
    go false e true f = made_regrouped n z (tree path) (rw (e, f) at h)
    go false e false f = rw (e, f) at h

made_all : (n : ℕ) (path : NodePath) (cs : List Change) (z : ℕ) (t : ℤ) (tree : Tree)
    → n < z → IsMade n (apply_all z t cs tree path) → IsMade n (tree path)
made_all n path [] z t tree lt h = h
made_all n path (c ∷ cs) z t tree lt h = made_one n path c z t tree lt (made_all n path cs z t (apply z t c tree) lt h)

made_after : (n low : ℕ) (path : NodePath) (txs : List Transaction) (tree : Tree)
    → n ≤ low → AreNewer low txs → IsMade n (after txs tree path) → IsMade n (tree path)
made_after n low path [] tree le newer h = h
made_after n low path (x ∷ xs) tree le newer h =
    let above = newer.0 in
    made_all n path x.changes x.zxid x.time tree (omega arith)
    (made_after n low path xs (apply_all x.zxid x.time x.changes tree) le newer.1 h)

-- What stands at a later zxid and was made by an earlier one stood there at the earlier one.
pub made_before : (h : History) (path : NodePath) (n zxid beyond : ℕ)
    → IsHistory h → zxid ≤ beyond → n ≤ zxid → IsMade n (tree_at h beyond path) → IsMade n (tree_at h zxid path)
made_before h path n zxid beyond is le small there =
    let more = up_to_more zxid beyond 0 h.transactions le is.rising in
    let e : tree_at h beyond ≡ after more.0 (tree_at h zxid) =
    ap (λ (l : List Transaction). after l h.first) more.1 ∙ after-append (up_to zxid h.transactions) more.0 h.first in
    made_after n zxid path more.0 (tree_at h zxid) small more.2 (subst (λ (t : Tree). IsMade n (t path)) e there)
