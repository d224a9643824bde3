-- Who is among the first: by one last rival after the other of a listing, and in each later tree of the history.
use Rattle.std.proofs.Common.{ℕ, zero, suc, ℤ, pos, ◌≡◌, ◌≤◌, negsuc, ◌≤ℤ◌, ◌⊎◌, inl, inr, Bool, true, false, List, [], ◌∷◌}
use Rattle.std.proofs.Common.{Option, Some, None, is_some, refl, sym, ap, subst, ◌∙◌, true≢false, arith}
use Rattle.std.proofs.lemmas.Int.{ints}
use Rattle.zk_nodes.specs.Path.{Text, Name, NodePath, path_of, name_of}
use Rattle.zk_nodes.specs.History.{Node, Tree, History, IsHistory, tree_at}
use Rattle.zk_turns.specs.Meaning.{Among}
use Rattle.zk_turns.specs.View.{View}
use Rattle.zk_laws.specs.Messages.{from_zero}
use Rattle.zk_conclusions.specs.Numbers.{Kind, is_before, is_numbered, is_rival}
use Rattle.zk_conclusions.specs.Predecessors.{IsPredecessor}
use Rattle.zk_conclusions.specs.Seen.{Is, tree_seen}
use Rattle.zk_conclusions.specs.Standings.{NumbersRise, IsFirstOf, ShowsStanding}
use Rattle.zk_conclusions.proofs.Holding.{node_of}
use Rattle.zk_conclusions.proofs.Made.{made_before}
use Rattle.zk_conclusions.proofs.Numbered.{before_or_same, before_trans, own_is_one, rival_is_one}
use Rattle.zk_conclusions.proofs.Stays.{is_there, is_made}
use Rattle.zk_conclusions.proofs.Truths.{data_fits}
use Rattle.zk_contend.specs.declared.naming.Naming.{Naming}
use Rattle.zk_contend.specs.Leases.{AreBefore, IsAmongOf, ShowsLease, StandsBy, AmongStays, LeaseIsTrue, OneIsFirst}
use Rattle.zk_contend.specs.Namings.{is_mixed, kind_in, most_in}

-- ---- one last rival after the other

-- those before a name are before each that is after it
pub nearer : (IsThere : Name → Type 0) (kind : Kind) (one other : Name) (count : ℕ) → is_before one other ≡ true
    → AreBefore IsThere kind one count → AreBefore IsThere kind other count
nearer IsThere kind one other zero before are = tt
nearer IsThere kind one other (suc count) before are =
    (are.0, are.1, are.2, before_trans are.0 one other are.3 before, are.4)

module _ (kind : Kind) (names : List Name) where
  abbrev Listed : Name → Type 0
  Listed name = Among name names

  -- the last rival, and those before it
  pub with_last : (own name : Name) (count : ℕ) → IsPredecessor kind names own name → AreBefore Listed kind name count
      → AreBefore Listed kind own (suc count)
  with_last own name count is are = (name, is.among, is.rival, is.before, are)

  pub without_last : (own name : Name) (count : ℕ) → IsPredecessor kind names own name → AreBefore Listed kind own (suc count)
      → AreBefore Listed kind name count
  without_last own name count is are = go (before_or_same are.0 name (is.last are.0 are.1 are.2 are.3))
    where
      go : (is_before are.0 name ≡ true) ⊎ (are.0 ≡ name) → AreBefore Listed kind name count
      go (inl before) = nearer Listed kind are.0 name count before are.4
      go (inr same) = subst (λ (n : Name). AreBefore Listed kind n count) same are.4

  -- no rival is before the first
  pub never_more : (own : Name) (count : ℕ) → IsFirstOf kind names own → AreBefore Listed kind own (suc count) → ⊥
  never_more own count first are = true≢false (sym are.3 ∙ first are.0 are.1 are.2)

-- The place of a lease is the first among no rivals.
pub stands_alone : (view : View) (dir : Text) (kind : Kind) (most : ℕ) (names : List Name) (listed : ℤ) (path : Text) (token : ℤ)
    → ShowsLease view dir kind most names listed path token
    → ShowsStanding view dir (record { own = kind.own; against = [] }) names listed path token
stands_alone view dir kind most names listed path token shows = record {
  own = shows.own;
  below = shows.below;
  numbered = shows.numbered;
  answer = shows.answer;
  nodes = shows.nodes;
  made = shows.made;
  first = λ name among rival. absurd (true≢false (sym rival));
  after = shows.after;
  seen = shows.seen;
}

name_same : (one other : Name) → Some one ≡ Some other → one ≡ other
name_same one other e = ap (λ (o : Option Name). elim o [ None ↦ one | Some name ↦ name ]) e

-- And its name is that of its path.
pub among_alone : (view : View) (dir : Text) (kind : Kind) (most : ℕ) (names : List Name) (listed : ℤ) (path : Text) (token : ℤ)
    (own : Name) → Some own ≡ name_of (path_of path) → IsAmongOf kind most names own
    → ShowsStanding view dir (record { own = kind.own; against = [] }) names listed path token
    → ShowsLease view dir kind most names listed path token
among_alone view dir kind most names listed path token own named among shows =
    let same : own ≡ shows.own = name_same own shows.own (named ∙ ap name_of shows.below) in record {
      own = shows.own;
      below = shows.below;
      numbered = shows.numbered;
      answer = shows.answer;
      nodes = shows.nodes;
      made = shows.made;
      among = subst (λ (n : Name). IsAmongOf kind most names n) same among;
      after = shows.after;
      seen = shows.seen;
    }

-- ---- beside its own family

module _ (view : View) (dir : Text) (naming : Naming) (names : List Name) (listed : ℤ) (path : Text) (token : ℤ) where
  abbrev Stands : Type 0
  Stands = StandsBy view dir naming names listed path token

  pub unnamed_never : None ≡ name_of (path_of path) → Stands → ⊥
  unnamed_never none stands = true≢false (sym (ap is_some (none ∙ ap name_of stands.shows.below)))

  module _ (kind : Kind) (most : ℕ) (own : Name) (is : kind ≡ kind_in naming) (as_many : most ≡ most_in naming)
      (named : Some own ≡ name_of (path_of path)) where
    pub lease_by : Stands → ShowsLease view dir kind most names listed path token
    lease_by stands =
        subst (λ (m : ℕ). ShowsLease view dir kind m names listed path token) (sym as_many)
        (subst (λ (k : Kind). ShowsLease view dir k (most_in naming) names listed path token) (sym is) stands.shows)

    -- as many are before it
    pub before_never : AreBefore (λ name. Among name names) kind own most → Stands → ⊥
    before_never are stands =
        let lease = lease_by stands in
        let same : own ≡ lease.own = name_same own lease.own (named ∙ ap name_of lease.below) in
        lease.among (subst (λ (n : Name). AreBefore (λ name. Among name names) kind n most) same are)

    -- fewer are, and it stands first among no rivals
    pub stands_among : is_mixed naming names ≡ false → IsAmongOf kind most names own
        → ShowsStanding view dir (record { own = kind.own; against = [] }) names listed path token → Stands
    stands_among unmixed among shows = record {
      unmixed = unmixed;
      shows = subst (λ (k : Kind). ShowsLease view dir k (most_in naming) names listed path token) is
          (subst (λ (m : ℕ). ShowsLease view dir kind m names listed path token) as_many
          (among_alone view dir kind most names listed path token own named among shows));
    }

-- ---- one may hold at once

first_of_one : (IsThere : Name → Type 0) (kind : Kind) (own : Name) → ¬ (AreBefore IsThere kind own 1)
    → (name : Name) → IsThere name → is_rival kind name ≡ true → is_before name own ≡ false
first_of_one IsThere kind own none name there rival = go (is_before name own) refl
  where
    go : (b : Bool) → is_before name own ≡ b → is_before name own ≡ false
    go false e = e
    go true e = absurd (none (name, there, rival, e, tt))

pub one_is_first : OneIsFirst
one_is_first = (
  (λ view dir kind names listed path token shows. record {
    own = shows.own;
    below = shows.below;
    numbered = shows.numbered;
    answer = shows.answer;
    nodes = shows.nodes;
    made = shows.made;
    first = first_of_one (λ name. Among name names) kind shows.own shows.among;
    after = shows.after;
    seen = shows.seen;
  }),
  (λ tree dir kind path session token lease. record {
    own = lease.own;
    below = lease.below;
    numbered = lease.numbered;
    node = lease.node;
    there = lease.there;
    owner = lease.owner;
    owned = lease.owned;
    made = lease.made;
    first = first_of_one (λ name. is_some (tree (name ∷ dir)) ≡ true) kind lease.own lease.among;
  }),
)

-- ---- in the history

some_node : (found : Option Node) → is_some found ≡ true → (node : Node) × (found ≡ Some node)
some_node None e = absurd (true≢false (sym e))
some_node (Some node) e = (node, refl)

module _ (h : History) (dir : NodePath) (kind : Kind) (own : Name) (node : Node) (listed seen : ℕ) where
  -- a rival that is there later, before one that was made by then, was there then
  was_there : IsHistory h → NumbersRise h dir kind → listed ≤ seen → is_numbered kind.own own ≡ true
      → tree_at h seen (own ∷ dir) ≡ Some node → node.czxid ≤ listed
      → (name : Name) → is_some (tree_at h seen (name ∷ dir)) ≡ true → is_rival kind name ≡ true → is_before name own ≡ true
      → is_some (tree_at h listed (name ∷ dir)) ≡ true
  was_there is rises le numbered there made name found rival before =
      let its = some_node (tree_at h seen (name ∷ dir)) found in
      let old : its.0.czxid ≤ node.czxid =
      rises seen name own its.0 node its.1 there (rival_is_one kind name rival) (own_is_one kind own numbered) before in
      let small : its.0.czxid ≤ listed = omega arith in
      is_there its.0.czxid (tree_at h listed (name ∷ dir))
      (made_before h (name ∷ dir) its.0.czxid listed seen is le small (is_made (tree_at h seen (name ∷ dir)) its.0 its.1))

-- Those before a name that are there still were there.
were_before : (Then Now : Name → Type 0) (kind : Kind) (own : Name)
    → ((name : Name) → Now name → is_rival kind name ≡ true → is_before name own ≡ true → Then name)
    → (name : Name) (count : ℕ) → (name ≡ own) ⊎ (is_before name own ≡ true) → AreBefore Now kind name count → AreBefore Then kind name
    count
were_before Then Now kind own were name zero at are = tt
were_before Then Now kind own were name (suc count) at are =
    let before : is_before are.0 own ≡ true = go at in
    (are.0, were are.0 are.1 are.2 before, are.2, are.3, were_before Then Now kind own were are.0 count (inr before) are.4)
  where
    go : (name ≡ own) ⊎ (is_before name own ≡ true) → is_before are.0 own ≡ true
    go (inl same) = subst (λ (n : Name). is_before are.0 n ≡ true) same are.3
    go (inr before) = before_trans are.0 name own are.3 before

pub among_stays : AmongStays
among_stays h dir kind most own node listed seen is rises le numbered among there made are =
    among (were_before (λ name. is_some (tree_at h listed (name ∷ dir)) ≡ true) (λ name. is_some (tree_at h seen (name ∷ dir)) ≡ true) kind
    own (was_there h dir kind own node listed seen is rises le numbered there made) own most (inl refl) are)

-- zxids as numbers from 0 on
below_it : (n : ℕ) (z : ℤ) → pos n ≤ℤ z → n ≤ from_zero z
below_it n (pos m) le = grind (arith, ints)
below_it n (negsuc m) le = absurd (grind (arith, ints))

kept_order : (y z : ℤ) → y ≤ℤ z → from_zero y ≤ from_zero z
kept_order (pos n) z le = below_it n z le
kept_order (negsuc n) z le = omega arith

-- Those that are there are listed.
are_listed : (IsThere : Name → Type 0) (kind : Kind) (names : List Name) → ((name : Name) → IsThere name → Among name names)
    → (own : Name) (count : ℕ) → AreBefore IsThere kind own count → AreBefore (λ name. Among name names) kind own count
are_listed IsThere kind names all own zero are = tt
are_listed IsThere kind names all own (suc count) are =
    (are.0, all are.0 are.1, are.2, are.3, are_listed IsThere kind names all are.0 count are.4)

pub lease_here : LeaseIsTrue
lease_here h view dir kind most names listed path token seen rises all shows =
    let tree : Tree = tree_seen h view in
    let found = node_of view.saved.session.session token shows.answer (tree (path_of path)) shows.made
    (data_fits (Is path) h view path shows.answer seen refl shows.nodes) in
    let there : tree (shows.own ∷ path_of dir) ≡ Some found.0 = subst (λ (p : NodePath). tree p ≡ Some found.0) shows.below found.1 in
    let early : pos found.0.czxid ≤ℤ listed = subst (λ (z : ℤ). z ≤ℤ listed) (sym found.2.made) shows.after in
    record {
      own = shows.own;
      below = shows.below;
      numbered = shows.numbered;
      node = found.0;
      there = found.1;
      owner = found.2.owner;
      owned = found.2.owned;
      made = found.2.made;
      among = among_stays h (path_of dir) kind most shows.own found.0 (from_zero listed) (from_zero view.saved.last) seen.history rises
          (kept_order listed view.saved.last shows.seen) shows.numbered
          (λ are. shows.among (are_listed (λ name. is_some (tree_at h (from_zero listed) (name ∷ path_of dir)) ≡ true) kind names all
          shows.own most are)) there (below_it found.0.czxid listed early);
    }
