-- Where a node comes from: it was there before a change, with the same czxid and owner, or the change makes it. So what stands at a later
-- zxid, and was made by an earlier one, stood there at the earlier one, and was the same session's.
use Rattle.std.specs.Option.{option_map}
use Rattle.std.proofs.Common.{ℕ, ℤ, ◌≡◌, ◌<◌, ◌≤◌, ◌⊎◌, inl, inr, Bool, true, false, List, [], ◌∷◌, refl, sym, ap, ◌∙◌, subst, arith}
use Rattle.std.proofs.Common.{Option, Some, None, pos, nat_le}
use Rattle.zk_turns.specs.Meaning.{Among}
use Rattle.zk_nodes.specs.Path.{NodePath, path_eq}
use Rattle.zk_nodes.specs.History.{Node, Tree, Change, Creates, Sets, Deletes, Transaction, made, written, regrouped}
use Rattle.zk_nodes.specs.History.{apply, apply_all, after}
use Rattle.zk_nodes.specs.History.{History, IsHistory, up_to, tree_at}
use Rattle.zk_nodes.proofs.PathTexts.{path_eq-true}
use Rattle.zk_laws.proofs.Stamps.{AreNewer, up_to_more, after-append}

-- the change makes a node at the path
abbrev pub Makes : NodePath → Change → Type 0
Makes path c = (content : Option (List ℕ)) × (owner : ℤ) × (c ≡ Creates path content owner)

-- what was there is this node, but for what writes change
abbrev pub WasThere : Tree → NodePath → Node → Type 0
WasThere tree path node = (old : Node) × (tree path ≡ Some old) × (old.czxid ≡ node.czxid) × (old.owner ≡ node.owner)

abbrev pub Comes : Tree → NodePath → Change → ℕ → Node → Type 0
Comes tree path c z node = WasThere tree path node ⊎ ((m : Makes path c) × (node.czxid ≡ z) × (node.owner ≡ m.1))

czxid_of : (one other : Node) → Some one ≡ Some other → one.czxid ≡ other.czxid
czxid_of one other e = ap (λ (o : Option Node). elim o [ None ↦ 0 | Some n ↦ n.czxid ]) e

owner_of : (one other : Node) → Some one ≡ Some other → one.owner ≡ other.owner
owner_of one other e = ap (λ (o : Option Node). elim o [ None ↦ pos 0 | Some n ↦ n.owner ]) e

regrouped_from : (z : ℕ) (tree : Tree) (path : NodePath) (o : Option Node) (node : Node) → tree path ≡ o
    → option_map (regrouped z) o ≡ Some node → WasThere tree path node
regrouped_from z tree path None node is e = absurd cc
regrouped_from z tree path (Some old) node is e = (old, is, czxid_of (regrouped z old) node e, owner_of (regrouped z old) node e)

written_from : (z : ℕ) (t : ℤ) (content : Option (List ℕ)) (tree : Tree) (path : NodePath) (o : Option Node) (node : Node)
    → tree path ≡ o → option_map (written z t content) o ≡ Some node → WasThere tree path node
written_from z t content tree path None node is e = absurd cc
written_from z t content tree path (Some old) node is e =
    (old, is, czxid_of (written z t content old) node e, owner_of (written z t content old) node e)

pub comes : (z : ℕ) (t : ℤ) (c : Change) (tree : Tree) (path : NodePath) (node : Node) → apply z t c tree path ≡ Some node
    → Comes tree path c z node
comes z t (Creates [] content owner) tree path node e = inl (node, e, refl, refl)
comes z t (Creates (name ∷ above) content owner) tree path node e = go (path_eq path (name ∷ above)) refl (path_eq path above) refl
  where
    go : (b : Bool) → path_eq path (name ∷ above) ≡ b → (d : Bool) → path_eq path above ≡ d
        → Comes tree path (Creates (name ∷ above) content owner) z node
    go true f d g = inr (
      (content, owner, ap (λ (p : NodePath). Creates p content owner) (sym (path_eq-true path (name ∷ above) f))),
      sym (czxid_of (made z t content owner) node (rw f at e)),
      sym (owner_of (made z t content owner) node (rw f at e)),
    )
    go false f true g = inl (regrouped_from z tree path (tree path) node refl (rw (f, g) at e))
    go false f false g = inl (node, rw (f, g) at e, refl, refl)
comes z t (Sets at content) tree path node e = go (path_eq path at) refl
  where
    go : (b : Bool) → path_eq path at ≡ b → Comes tree path (Sets at content) z node
    go true f = inl (written_from z t content tree path (tree path) node refl (rw f at e))
    go false f = inl (node, rw f at e, refl, refl)
comes z t (Deletes []) tree path node e = inl (node, e, refl, refl)
comes z t (Deletes (name ∷ above)) tree path node e = go (path_eq path (name ∷ above)) refl (path_eq path above) refl
  where
    go : (b : Bool) → path_eq path (name ∷ above) ≡ b → (d : Bool) → path_eq path above ≡ d
        → Comes tree path (Deletes (name ∷ above)) z node
    go true f d g = let k : None ≡ Some node = rw f at e in absurd cc
    go false f true g = inl (regrouped_from z tree path (tree path) node refl (rw (f, g) at e))
    go false f false g = inl (node, rw (f, g) at e, refl, refl)

-- ---- through newer changes

further : (tree : Tree) (path : NodePath) (node : Node) (next : WasThere tree path node) (before : Tree)
    → WasThere before path next.0 → WasThere before path node
further tree path node next before old = (old.0, old.1, old.2 ∙ next.2, old.3 ∙ next.3)

stood_all : (path : NodePath) (cs : List Change) (z : ℕ) (t : ℤ) (tree : Tree) (node : Node)
    → node.czxid < z → apply_all z t cs tree path ≡ Some node → WasThere tree path node
stood_all path [] z t tree node lt e = (node, e, refl, refl)
stood_all path (c ∷ cs) z t tree node lt e =
    let next = stood_all path cs z t (apply z t c tree) node lt e in
    go next (comes z t c tree path next.0 next.1)
  where
    go : (next : WasThere (apply z t c tree) path node) → Comes tree path c z next.0 → WasThere tree path node
    go next (inl old) = further (apply z t c tree) path node next tree old
    go next (inr new) = let a = next.2 in let b = new.1 in absurd (omega (arith, a, b, lt))

stood_after : (low : ℕ) (path : NodePath) (txs : List Transaction) (tree : Tree) (node : Node)
    → node.czxid ≤ low → AreNewer low txs → after txs tree path ≡ Some node → WasThere tree path node
stood_after low path [] tree node le newer e = (node, e, refl, refl)
stood_after low path (x ∷ xs) tree node le newer e =
    let above = newer.0 in
    let next = stood_after low path xs (apply_all x.zxid x.time x.changes tree) node le newer.1 e in
    let same = next.2 in
    further (apply_all x.zxid x.time x.changes tree) path node next tree
    (stood_all path x.changes x.zxid x.time tree next.0 (omega (arith, above, same, le)) next.1)

-- What stands at a later zxid, and was made by an earlier one, stood there at the earlier one.
pub stood_at : (h : History) (path : NodePath) (zxid beyond : ℕ) (node : Node) → IsHistory h → zxid ≤ beyond → node.czxid ≤ zxid
    → tree_at h beyond path ≡ Some node → WasThere (tree_at h zxid) path node
stood_at h path zxid beyond node is le small there =
    let more = up_to_more zxid beyond 0 h.transactions le is.rising in
    let e : tree_at h beyond ≡ after more.0 (tree_at h zxid) =
    ap (λ (l : List Transaction). after l h.first) more.1 ∙ after-append (up_to zxid h.transactions) more.0 h.first in
    stood_after zxid path more.0 (tree_at h zxid) node small more.2 (subst (λ (t : Tree). t path ≡ Some node) e there)

-- ---- from the first tree on

-- one of these transactions makes a node at the path, at this zxid, for this owner
pub record IsMadeBy (path : NodePath) (czxid : ℕ) (owner : ℤ) (txs : List Transaction) : Type 0 where
  pub one : Transaction
  pub there : Among one txs
  pub content : Option (List ℕ)
  pub change : Among (Creates path content owner) one.changes
  pub at : czxid ≡ one.zxid

abbrev MadeThere : NodePath → ℕ → ℤ → ℕ → List Change → Type 0
MadeThere path czxid owner z cs = (content : Option (List ℕ)) × Among (Creates path content owner) cs × (czxid ≡ z)

from_changes : (path : NodePath) (cs : List Change) (z : ℕ) (t : ℤ) (tree : Tree) (node : Node) → apply_all z t cs tree path ≡ Some node
    → WasThere tree path node ⊎ MadeThere path node.czxid node.owner z cs
from_changes path [] z t tree node e = inl (node, e, refl, refl)
from_changes path (c ∷ cs) z t tree node e = go (from_changes path cs z t (apply z t c tree) node e)
  where
    come : (next : WasThere (apply z t c tree) path node) → Comes tree path c z next.0
        → WasThere tree path node ⊎ MadeThere path node.czxid node.owner z (c ∷ cs)
    come next (inl old) = inl (further (apply z t c tree) path node next tree old)
    come next (inr new) = inr (
      new.0.0,
      inl (ap (λ (o : ℤ). Creates path new.0.0 o) (sym next.3 ∙ new.2) ∙ sym new.0.2),
      sym next.2 ∙ new.1,
    )

    go : WasThere (apply z t c tree) path node ⊎ MadeThere path node.czxid node.owner z cs
        → WasThere tree path node ⊎ MadeThere path node.czxid node.owner z (c ∷ cs)
    go (inl next) = come next (comes z t c tree path next.0 next.1)
    go (inr made) = inr (made.0, inr made.1, made.2)

pub from_transactions : (z : ℕ) (path : NodePath) (txs : List Transaction) (tree : Tree) (node : Node)
    → after (up_to z txs) tree path ≡ Some node → WasThere tree path node ⊎ IsMadeBy path node.czxid node.owner txs
from_transactions z path [] tree node e = inl (node, e, refl, refl)
from_transactions z path (x ∷ xs) tree node e =
    go (λ t k. from_transactions z path xs t node k) (nat_le x.zxid z) refl
  where
    later : IsMadeBy path node.czxid node.owner xs → IsMadeBy path node.czxid node.owner (x ∷ xs)
    later m = record { one = m.one; there = inr m.there; content = m.content; change = m.change; at = m.at }

    here : (next : WasThere (apply_all x.zxid x.time x.changes tree) path node)
        → WasThere tree path next.0 ⊎ MadeThere path next.0.czxid next.0.owner x.zxid x.changes
        → WasThere tree path node ⊎ IsMadeBy path node.czxid node.owner (x ∷ xs)
    here next (inl old) = inl (further (apply_all x.zxid x.time x.changes tree) path node next tree old)
    here next (inr made) = inr (record {
      one = x;
      there = inl refl;
      content = made.0;
      change = subst (λ (o : ℤ). Among (Creates path made.0 o) x.changes) next.3 made.1;
      at = sym next.2 ∙ made.2;
    })

    through : WasThere (apply_all x.zxid x.time x.changes tree) path node ⊎ IsMadeBy path node.czxid node.owner xs
        → WasThere tree path node ⊎ IsMadeBy path node.czxid node.owner (x ∷ xs)
    through (inl next) = here next (from_changes path x.changes x.zxid x.time tree next.0 next.1)
    through (inr made) = inr (later made)

    beyond : WasThere tree path node ⊎ IsMadeBy path node.czxid node.owner xs
        → WasThere tree path node ⊎ IsMadeBy path node.czxid node.owner (x ∷ xs)
    beyond (inl old) = inl old
    beyond (inr made) = inr (later made)

    go : ((t : Tree) → after (up_to z xs) t path ≡ Some node → WasThere t path node ⊎ IsMadeBy path node.czxid node.owner xs)
        → (b : Bool) → nat_le x.zxid z ≡ b → WasThere tree path node ⊎ IsMadeBy path node.czxid node.owner (x ∷ xs)
    go more true f = through (more (apply_all x.zxid x.time x.changes tree) (rw f at e))
    go more false f = beyond (more tree (rw f at e))
