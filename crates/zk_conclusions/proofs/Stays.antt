-- Who stands first stays first while its node is there, and where numbers rise with creation no token falls: a node that is still there has
-- the czxid with which it was made, and a rival of it that stands first later was made no earlier.
use Rattle.std.proofs.Common.{ℕ, ℤ, pos, ◌≡◌, ◌≤◌, ◌<◌, ◌≤ℤ◌, ◌⊎◌, inl, inr, Bool, true, false, ◌∷◌, Option, Some, None, refl, sym, ap}
use Rattle.std.proofs.Common.{subst, arith, nat_le, ◌∙◌}
use Rattle.std.specs.Prelude.{is_some}
use Rattle.std.proofs.lemmas.Bool.Decides.{nat_tests}
use Rattle.std.proofs.lemmas.Int.{ints}
use Rattle.zk_nodes.specs.Path.{Name, NodePath}
use Rattle.zk_nodes.specs.History.{Node, Tree, History, IsHistory, tree_at}
use Rattle.zk_conclusions.proofs.Made.{IsMade, made_before}
use Rattle.zk_laws.proofs.Stamps.{IsAtMost, made_by}
use Rattle.zk_conclusions.specs.Numbers.{Kind, is_before, is_rival}
use Rattle.zk_conclusions.specs.Standings.{IsStanding, NumbersRise, FirstStays, OneStands, StandingTokensRise}
use Rattle.zk_conclusions.proofs.Numbered.{before_or_same, own_is_one, rival_is_one}

some_node : (found : Option Node) → is_some found ≡ true → (node : Node) × (found ≡ Some node)
some_node None e = absurd cc
some_node (Some node) e = (node, refl)

pub is_there : (n : ℕ) (found : Option Node) → IsMade n found → is_some found ≡ true
is_there n None made = absurd made
is_there n (Some node) made = refl

pub is_made : (found : Option Node) (node : Node) → found ≡ Some node → IsMade node.czxid found
is_made found node e = subst (IsMade node.czxid) (sym e) refl

made_node : (n : ℕ) (found : Option Node) → IsMade n found → (node : Node) × (found ≡ Some node) × (node.czxid ≡ n)
made_node n None made = absurd made
made_node n (Some node) made = (node, refl, made)

is_by : (z : ℕ) (found : Option Node) (node : Node) → found ≡ Some node → IsAtMost (λ n. n.czxid) z found → node.czxid ≤ z
is_by z found node e by = subst (IsAtMost (λ n. n.czxid) z) e by

the_node : (one other : Node) → Some one ≡ Some other → one ≡ other
the_node one other e = ap (λ (o : Option Node). elim o [ None ↦ one | Some node ↦ node ]) e

pub first_stays : FirstStays
first_stays h dir kind own node listed seen is rises le numbered first there made name found rival = go (is_before name own) refl
  where
    go : (b : Bool) → is_before name own ≡ b → b ≡ false
    go false e = refl
    go true e =
        let its = some_node (tree_at h seen (name ∷ dir)) found in
        let old : its.0.czxid ≤ node.czxid =
        rises seen name own its.0 node its.1 there (rival_is_one kind name rival) (own_is_one kind own numbered) e in
        let small : its.0.czxid ≤ listed = omega arith in
        let then_too = made_before h (name ∷ dir) its.0.czxid listed seen is le small (is_made (tree_at h seen (name ∷ dir)) its.0 its.1) in
        let k = first name (is_there its.0.czxid (tree_at h listed (name ∷ dir)) then_too) rival in
        absurd cc

-- the node under its name
there_of : (tree : Tree) (dir : NodePath) (kind : Kind) (path : NodePath) (session token : ℤ)
    (m : IsStanding tree dir kind path session token) → tree (m.own ∷ dir) ≡ Some m.node
there_of tree dir kind path session token m = subst (λ (p : NodePath). tree p ≡ Some m.node) m.below m.there

pub one_stands : OneStands
one_stands tree dir kind its path other session yours token later m y rival back =
    go (before_or_same m.own y.own (m.first y.own (ap is_some (there_of tree dir its other yours later y)) rival))
  where
    go : (is_before m.own y.own ≡ true) ⊎ (m.own ≡ y.own) → (path ≡ other) × (session ≡ yours) × (token ≡ later)
    go (inl before) = let k = y.first m.own (ap is_some (there_of tree dir kind path session token m)) back in absurd cc
    go (inr same) =
        let paths : path ≡ other = m.below ∙ ap (λ (n : Name). n ∷ dir) same ∙ sym y.below in
        let node : m.node ≡ y.node = the_node m.node y.node (sym m.there ∙ ap tree paths ∙ y.there) in
        (paths, sym m.owner ∙ ap (λ (n : Node). n.owner) node ∙ y.owner, sym m.made ∙ ap (λ (n : Node). pos n.czxid) node ∙ y.made)

rises_to : (h : History) (dir : NodePath) (kind its : Kind) (path other : NodePath) (session yours token later : ℤ) (zxid beyond : ℕ)
    → IsHistory h → NumbersRise h dir kind → zxid ≤ beyond
    → (m : IsStanding (tree_at h zxid) dir kind path session token) → (y : IsStanding (tree_at h beyond) dir its other yours later)
    → is_rival kind y.own ≡ true → m.node.czxid ≤ y.node.czxid
rises_to h dir kind its path other session yours token later zxid beyond is rises le m y rival = go (nat_le y.node.czxid zxid) refl
  where
    mine : tree_at h zxid (m.own ∷ dir) ≡ Some m.node
    mine = there_of (tree_at h zxid) dir kind path session token m

    go : (b : Bool) → nat_le y.node.czxid zxid ≡ b → m.node.czxid ≤ y.node.czxid
    go true e =
        let small : y.node.czxid ≤ zxid = grind (arith, nat_tests) in
        let found = there_of (tree_at h beyond) dir its other yours later y in
        let was = made_node y.node.czxid (tree_at h zxid (y.own ∷ dir))
        (made_before h (y.own ∷ dir) y.node.czxid zxid beyond is le small (is_made (tree_at h beyond (y.own ∷ dir)) y.node found)) in
        step was (before_or_same m.own y.own (m.first y.own (ap is_some was.1) rival))
      where
        step : ((old : Node) × (tree_at h zxid (y.own ∷ dir) ≡ Some old) × (old.czxid ≡ y.node.czxid))
            → (is_before m.own y.own ≡ true) ⊎ (m.own ≡ y.own) → m.node.czxid ≤ y.node.czxid
        step was (inl before) =
            let k : m.node.czxid ≤ was.0.czxid =
            rises zxid m.own y.own m.node was.0 mine was.1 (own_is_one kind m.own m.numbered) (rival_is_one kind y.own rival) before in
            let l : was.0.czxid ≡ y.node.czxid = was.2 in
            omega arith
        step was (inr same) =
            let k : m.node ≡ was.0 = the_node m.node was.0 (sym mine ∙ ap (λ (n : Name). tree_at h zxid (n ∷ dir)) same ∙ was.1) in
            let l : m.node.czxid ≡ y.node.czxid = ap (λ (n : Node). n.czxid) k ∙ was.2 in
            omega arith
    go false e =
        let above : zxid < y.node.czxid = grind (arith, nat_tests) in
        let l : m.node.czxid ≤ zxid = is_by zxid (tree_at h zxid path) m.node m.there (made_by h path zxid is) in
        omega arith

pub tokens_rise : StandingTokensRise
tokens_rise h dir kind its path other session yours token later zxid beyond is rises le m y rival =
    let k : m.node.czxid ≤ y.node.czxid = rises_to h dir kind its path other session yours token later zxid beyond is rises le m y rival in
    subst (λ (z : ℤ). z ≤ℤ later) m.made (subst (λ (z : ℤ). pos m.node.czxid ≤ℤ z) y.made (grind (arith, ints)))
