-- Who holds by what a client shows, in one tree, and in a later one: the holder's name is the first, and its token is its czxid, so where
-- names rise with creation a later holder's token is not smaller.
use Rattle.std.proofs.Common.{◌≡◌, ◌≢◌, ◌≤◌, ◌<◌, ◌≤ℤ◌, ◌⊎◌, ℕ, ℤ, pos, Bool, true, false, ◌&&◌, not, nat_le, ◌∷◌, Option, Some, None, refl}
use Rattle.std.proofs.Common.{ap, sym, ◌∙◌, subst, inl, inr, arith}
use Rattle.std.proofs.lemmas.Bool.{and_parts}
use Rattle.std.proofs.lemmas.Bool.Decides.{nat_tests, Decides-int_eq}
use Rattle.std.proofs.lemmas.Int.{ints}
use Rattle.std.specs.Prelude.{is_some}
use Rattle.std.specs.Ordering.{int_eq}
use Rattle.zk_nodes.specs.Path.{Name, NodePath, path_of}
use Rattle.zk_nodes.specs.History.{Node, Tree, History, IsHistory, tree_at, contents_of, node_fields}
use Rattle.zk_nodes.specs.declared.data_stat.DataStat.{DataStat}
use Rattle.zk_cache.specs.Kept.{Answer, Absent, Known, Full, as_good}
use Rattle.zk_laws.specs.Server.{Fits}
use Rattle.zk_laws.specs.Messages.{from_zero}
use Rattle.zk_conclusions.specs.Seen.{IsEither, tree_seen}
use Rattle.zk_conclusions.specs.Holders.{HasPrefix, is_before, IsHolder, token_of, token_in, HeldIsTrue, OneHolds, OneShows, NamesRise}
use Rattle.zk_conclusions.specs.Holders.{TokensRise, LaterTokens}
use Rattle.zk_conclusions.proofs.Truths.{coherent, names_there}
use Rattle.zk_conclusions.proofs.Orders.{before_or_same}
use Rattle.zk_conclusions.proofs.Made.{IsMade, made_before}
use Rattle.zk_laws.proofs.Stamps.{IsAtMost, made_by}

pub the_one : {X : Type 0} (x y : X) → Some x ≡ Some y → x ≡ y
the_one {X} x y e = ap (λ (o : Option X). elim o [ None ↦ x | Some z ↦ z ]) e

-- what a token says of the fields that it comes from
pub record IsOwned (session token : ℤ) (fields : DataStat) : Type 0 where
  pub owner : fields.ephemeral_owner ≡ session
  pub owned : session ≢ pos 0
  pub made : fields.czxid ≡ token

no_token : (token : ℤ) (none : Option ℤ) → none ≡ None → none ≡ Some token → ⊥
no_token token rest e f = absurd cc

owned_by : (session token : ℤ) (fields : DataStat) → token_of session fields ≡ Some token → IsOwned session token fields
owned_by session token fields e = go (int_eq fields.ephemeral_owner session && not (int_eq session (pos 0))) refl
  where
    go : (b : Bool) → (int_eq fields.ephemeral_owner session && not (int_eq session (pos 0))) ≡ b → IsOwned session token fields
    go true f =
        let parts = and_parts (int_eq fields.ephemeral_owner session) (not (int_eq session (pos 0))) f in
        record {
          owner = (Decides-int_eq fields.ephemeral_owner session).0 parts.0;
          owned = λ z. (let k : int_eq session (pos 0) ≡ true = (Decides-int_eq session (pos 0)).1 z in let l : not (int_eq session (pos 0))
              ≡ true = parts.1 in absurd cc);
          made = the_one fields.czxid token (rw f at e);
        }
    go false f = absurd (no_token token None refl (rw f at e))

-- an answer with a token that fits what there is to see is of a node that is there
pub node_of : (session token : ℤ) (answer : Answer) (found : Option Node)
    → token_in session answer ≡ Some token → Fits answer (contents_of found)
    → (node : Node) × (found ≡ Some node) × IsOwned session token (node_fields node)
node_of session token Absent found e fits = absurd cc
node_of session token (Known fields) None e fits = absurd fits
node_of session token (Known fields) (Some node) e fits = (node, refl, subst (IsOwned session token) fits (owned_by session token fields e))
node_of session token (Full bytes fields) None e fits = absurd fits
node_of session token (Full bytes fields) (Some node) e fits =
    (node, refl, subst (IsOwned session token) fits.1 (owned_by session token fields e))

pub held_here : HeldIsTrue
held_here h view dir prefix path token seen shows =
    let tree : Tree = tree_seen h view in
    let true_of = coherent (IsEither dir path) h view seen in
    let found = node_of view.saved.session.session token shows.answer (tree (path_of path)) shows.made
    (true_of.nodes path (inr refl) (as_good shows.answer) shows.nodes refl) in
    let listed =
    names_there shows.names tree (path_of dir) (tree (path_of dir))
    (true_of.children dir (inl refl) (as_good shows.names) shows.children refl) in
    record {
      own = shows.own;
      below = shows.below;
      begins = shows.begins;
      node = found.0;
      there = found.1;
      owner = found.2.owner;
      owned = found.2.owned;
      made = found.2.made;
      first = λ name there begins. shows.first name (listed name there) begins;
    }

-- the node of one that holds is there, under its name
there_of : (tree : Tree) (dir : NodePath) (prefix : Name) (path : NodePath) (session token : ℤ)
    (m : IsHolder tree dir prefix path session token) → is_some (tree (m.own ∷ dir)) ≡ true
there_of tree dir prefix path session token m = subst (λ (p : NodePath). is_some (tree p) ≡ true) m.below (ap is_some m.there)

pub one_holds : OneHolds
one_holds tree dir prefix path other session yours token later m y =
    go (before_or_same m.own y.own (m.first y.own (there_of tree dir prefix other yours later y) y.begins))
  where
    go : (is_before m.own y.own ≡ true) ⊎ (m.own ≡ y.own) → (path ≡ other) × (session ≡ yours) × (token ≡ later)
    go (inl before) = let k = y.first m.own (there_of tree dir prefix path session token m) m.begins in absurd cc
    go (inr same) =
        let paths : path ≡ other = m.below ∙ ap (λ (n : Name). n ∷ dir) same ∙ sym y.below in
        let node : m.node ≡ y.node = the_one m.node y.node (sym m.there ∙ ap tree paths ∙ y.there) in
        (paths, sym m.owner ∙ ap (λ (n : Node). n.owner) node ∙ y.owner, sym m.made ∙ ap (λ (n : Node). pos n.czxid) node ∙ y.made)

pub one_shows : OneShows
one_shows h one other dir prefix path its token later seen seen_too at shows shows_too =
    let mine = held_here h one dir prefix path token seen shows in
    let yours = held_here h other dir prefix its later seen_too shows_too in
    let same : IsHolder (tree_seen h other) (path_of dir) prefix (path_of path) one.saved.session.session token =
    subst (λ (z : ℤ). IsHolder (tree_at h (from_zero z)) (path_of dir) prefix (path_of path) one.saved.session.session token) at mine in
    one_holds (tree_seen h other) (path_of dir) prefix (path_of path)
    (path_of its) one.saved.session.session other.saved.session.session token later same yours

-- the node that is there was made so
made_node : (n : ℕ) (found : Option Node) → IsMade n found → (node : Node) × (found ≡ Some node) × (node.czxid ≡ n)
made_node n None made = absurd made
made_node n (Some node) made = (node, refl, made)

is_made : (found : Option Node) (node : Node) → found ≡ Some node → IsMade node.czxid found
is_made found node e = subst (IsMade node.czxid) (sym e) refl

is_by : (z : ℕ) (found : Option Node) (node : Node) → found ≡ Some node → IsAtMost (λ n. n.czxid) z found → node.czxid ≤ z
is_by z found node e by = subst (IsAtMost (λ n. n.czxid) z) e by

-- of two nodes that are there at once, the first was not made after the other
first_made : (h : History) (dir : NodePath) (prefix : Name) (path other : NodePath) (session token : ℤ) (zxid : ℕ) (own : Name) (its : Node)
    → NamesRise h dir prefix → (m : IsHolder (tree_at h zxid) dir prefix path session token) → other ≡ own ∷ dir → HasPrefix prefix own
    → tree_at h zxid other ≡ Some its → m.node.czxid ≤ its.czxid
first_made h dir prefix path other session token zxid own its rises m below begins there =
    go (before_or_same m.own own (m.first own (ap is_some found) begins))
  where
    found : tree_at h zxid (own ∷ dir) ≡ Some its
    found = subst (λ (p : NodePath). tree_at h zxid p ≡ Some its) below there

    mine : tree_at h zxid (m.own ∷ dir) ≡ Some m.node
    mine = subst (λ (p : NodePath). tree_at h zxid p ≡ Some m.node) m.below m.there

    go : (is_before m.own own ≡ true) ⊎ (m.own ≡ own) → m.node.czxid ≤ its.czxid
    go (inl before) = rises zxid m.own own m.node its mine found m.begins begins before
    go (inr same) =
        let e : m.node ≡ its = the_one m.node its (sym mine ∙ ap (λ (n : Name). tree_at h zxid (n ∷ dir)) same ∙ found) in
        let k : m.node.czxid ≡ its.czxid = ap (λ (n : Node). n.czxid) e in
        omega arith

rises_to : (h : History) (dir : NodePath) (prefix : Name) (path other : NodePath) (session yours token later : ℤ) (zxid beyond : ℕ)
    → IsHistory h → NamesRise h dir prefix → zxid ≤ beyond
    → (m : IsHolder (tree_at h zxid) dir prefix path session token) → (y : IsHolder (tree_at h beyond) dir prefix other yours later)
    → m.node.czxid ≤ y.node.czxid
rises_to h dir prefix path other session yours token later zxid beyond is rises le m y = go (nat_le y.node.czxid zxid) refl
  where
    go : (b : Bool) → nat_le y.node.czxid zxid ≡ b → m.node.czxid ≤ y.node.czxid
    go true e =
        let small : y.node.czxid ≤ zxid = grind (arith, nat_tests) in
        let k = made_node y.node.czxid (tree_at h zxid other)
        (made_before h other y.node.czxid zxid beyond is le small (is_made (tree_at h beyond other) y.node y.there)) in
        let l : m.node.czxid ≤ k.0.czxid = first_made h dir prefix path other session token zxid y.own k.0 rises m y.below y.begins k.1 in
        let e = k.2 in
        omega arith
    go false e =
        let above : zxid < y.node.czxid = grind (arith, nat_tests) in
        let l : m.node.czxid ≤ zxid = is_by zxid (tree_at h zxid path) m.node m.there (made_by h path zxid is) in
        omega arith

pub tokens_rise : TokensRise
tokens_rise h dir prefix path other session yours token later zxid beyond is rises le m y =
    let k : m.node.czxid ≤ y.node.czxid = rises_to h dir prefix path other session yours token later zxid beyond is rises le m y in
    subst (λ (z : ℤ). z ≤ℤ later) m.made (subst (λ (z : ℤ). pos m.node.czxid ≤ℤ z) y.made (grind (arith, ints)))

pub later_tokens : LaterTokens
later_tokens h one other dir prefix path its token later seen seen_too rises le shows shows_too =
    tokens_rise h (path_of dir) prefix (path_of path) (path_of its) one.saved.session.session other.saved.session.session token later
    (from_zero one.saved.last) (from_zero other.saved.last)
    seen.history rises le (held_here h one dir prefix path token seen shows) (held_here h other dir prefix its later seen_too shows_too)
