-- Two wait in line, one after the other, and their names rise: transaction by transaction of the history, which is computed.
use Rattle.std.proofs.Common.{◌≡◌, ◌≤◌, ℕ, ℤ, pos, Bool, true, false, ◌&&◌, cond, [], ◌∷◌, ◌++◌, refl, sym, ap, ◌∙◌, subst, arith}
use Rattle.std.proofs.Common.{inl, inr, ◌⊎◌, Option, Some, None, is_some}
use Rattle.std.specs.Prelude.{bytes_eq, nat_le}
use Rattle.std.proofs.lemmas.Slice.Eq.{bytes_eq-Decides}
use Rattle.zk_nodes.specs.Path.{Name, NodePath}
use Rattle.zk_nodes.specs.History.{Node, Tree, made, apply_all, after, tree_at, IsHistory}
use Rattle.theory_messages.specs.Example.{root_alone}
use Rattle.theory_messages.proofs.Shown.{is_history}
use Rattle.zk_conclusions.specs.Holders.{is_before, IsHolder, NamesRise}
use Rattle.zk_conclusions.specs.Numbers as by_number
use Rattle.zk_conclusions.specs.Standings.{IsStanding, ListsAll, NumbersRise}
use Rattle.zk_conclusions.specs.Tags.{AreMadeBy}
use Rattle.theory_witnesses.specs.Rising.{line, in_line, numbered, first_name, second_name, first_comes, second_comes, first_goes}
use Rattle.theory_witnesses.specs.Rising.{two_in_line}

-- what is there in the line, and since when
abbrev IsMade : Name → Node → Type 0
IsMade name node = ((name ≡ first_name) × (node.czxid ≡ 5)) ⊎ ((name ≡ second_name) × (node.czxid ≡ 6))

abbrev AllMade : Tree → Type 0
AllMade tree = (name : Name) (node : Node) → tree (name ∷ line) ≡ Some node → IsMade name node

none_made : AllMade root_alone
none_made name node e = absurd cc

same_node : (node its : Node) → Some node ≡ Some its → node ≡ its
same_node node its e = ap (λ (o : Option Node). elim o [ None ↦ node | Some n ↦ n ]) e

-- one more is made
one_made : (own : Name) (fresh : Node) → IsMade own fresh → (tree : Tree) → AllMade tree → (name : Name) (node : Node)
    → cond (bytes_eq name own && true) (Some fresh) (tree (name ∷ line)) ≡ Some node → IsMade name node
one_made own fresh is tree all name node e = go (bytes_eq name own) refl e
  where
    go : (b : Bool) → bytes_eq name own ≡ b → cond (b && true) (Some fresh) (tree (name ∷ line)) ≡ Some node → IsMade name node
    go true same e = subst (λ (n : Name). IsMade n node) (sym ((bytes_eq-Decides name own).0 same))
        (subst (λ (it : Node). IsMade own it) (same_node fresh node e) is)
    go false apart e = all name node e

first_made : (tree : Tree) → AllMade tree → AllMade (apply_all 5 (pos 1000) first_comes.changes tree)
first_made tree all = one_made first_name (made 5 (pos 1000) None (pos 7)) (inl (refl, refl)) tree all

second_made : (tree : Tree) → AllMade tree → AllMade (apply_all 6 (pos 2000) second_comes.changes tree)
second_made tree all = one_made second_name (made 6 (pos 2000) None (pos 8)) (inr (refl, refl)) tree all

first_gone : (tree : Tree) → AllMade tree → AllMade (apply_all 9 (pos 3000) first_goes.changes tree)
first_gone tree all name node e = go (bytes_eq name first_name) e
  where
    go : (b : Bool) → cond (b && true) None (tree (name ∷ line)) ≡ Some node → IsMade name node
    go true e = absurd cc
    go false e = all name node e

abbrev with_first : Tree → Tree
with_first tree = apply_all 5 (pos 1000) first_comes.changes tree

abbrev with_second : Tree → Tree
with_second tree = apply_all 6 (pos 2000) second_comes.changes tree

-- at whichever zxid
made_at : (zxid : ℕ) → AllMade (tree_at two_in_line zxid)
made_at zxid = go (nat_le 5 zxid) (nat_le 6 zxid) (nat_le 9 zxid)
  where
    go : (a b c : Bool)
        → AllMade (after (cond a (first_comes ∷ cond b (second_comes ∷ cond c (first_goes ∷ []) []) (cond c (first_goes ∷ []) []))
        (cond b (second_comes ∷ cond c (first_goes ∷ []) []) (cond c (first_goes ∷ []) []))) root_alone)
    go true true true =
        first_gone (with_second (with_first root_alone)) (second_made (with_first root_alone) (first_made root_alone none_made))
    go true true false = second_made (with_first root_alone) (first_made root_alone none_made)
    go true false true = first_gone (with_first root_alone) (first_made root_alone none_made)
    go true false false = first_made root_alone none_made
    go false true true = first_gone (with_second root_alone) (second_made root_alone none_made)
    go false true false = second_made root_alone none_made
    go false false true = first_gone root_alone none_made
    go false false false = none_made

-- by an order in which the second is not before the first, whoever is before the other was not made after it
rise : (before : Name → Name → Bool) → before second_name first_name ≡ false → (zxid : ℕ) (one other : Name) (node its : Node)
    → tree_at two_in_line zxid (one ∷ line) ≡ Some node → tree_at two_in_line zxid (other ∷ line) ≡ Some its → before one other ≡ true
    → node.czxid ≤ its.czxid
rise before apart zxid one other node its e f earlier = go (made_at zxid one node e) (made_at zxid other its f)
  where
    go : IsMade one node → IsMade other its → node.czxid ≤ its.czxid
    go (inl a) (inl b) = let x = a.1 in let y = b.1 in omega (arith, x, y)
    go (inl a) (inr b) = let x = a.1 in let y = b.1 in omega (arith, x, y)
    go (inr a) (inl b) =
        let wrong : before second_name first_name ≡ true =
        subst (λ (n : Name). before second_name n ≡ true) b.0 (subst (λ (n : Name). before n other ≡ true) a.0 earlier) in
        let k : true ≡ false = sym wrong ∙ apart in absurd cc
    go (inr a) (inr b) = let x = a.1 in let y = b.1 in omega (arith, x, y)

pub names_rise : NamesRise two_in_line line in_line
names_rise zxid one other node its e f p q before = rise is_before refl zxid one other node its e f before

pub numbers_rise : NumbersRise two_in_line line numbered
numbers_rise zxid one other node its e f p q before = rise by_number.is_before refl zxid one other node its e f before

-- which names are there at a zxid
names_at : (zxid : ℕ) (name : Name) → is_some (tree_at two_in_line zxid (name ∷ line)) ≡ true → (name ≡ first_name) ⊎ (name ≡ second_name)
names_at zxid name there = go (tree_at two_in_line zxid (name ∷ line)) refl there
  where
    of_made : (node : Node) → IsMade name node → (name ≡ first_name) ⊎ (name ≡ second_name)
    of_made node (inl a) = inl a.0
    of_made node (inr b) = inr b.0

    go : (found : Option Node)
        → tree_at two_in_line zxid (name ∷ line) ≡ found → is_some found ≡ true → (name ≡ first_name) ⊎ (name ≡ second_name)
    go None e s = absurd cc
    go (Some node) e s = of_made node (made_at zxid name node e)

-- at 6 none is before the first
none_before : (before : Name → Name → Bool) → before first_name first_name ≡ false → before second_name first_name ≡ false
    → (name : Name) → is_some (tree_at two_in_line 6 (name ∷ line)) ≡ true → before name first_name ≡ false
none_before before itself apart name there = go (names_at 6 name there)
  where
    go : (name ≡ first_name) ⊎ (name ≡ second_name) → before name first_name ≡ false
    go (inl e) = ap (λ (n : Name). before n first_name) e ∙ itself
    go (inr e) = ap (λ (n : Name). before n first_name) e ∙ apart

-- at 9 the second is there alone
second_alone : (name : Name) → is_some (tree_at two_in_line 9 (name ∷ line)) ≡ true → name ≡ second_name
second_alone name there = go (names_at 9 name there)
  where
    go : (name ≡ first_name) ⊎ (name ≡ second_name) → name ≡ second_name
    go (inl e) = let gone : is_some (tree_at two_in_line 9 (first_name ∷ line)) ≡ true =
        subst (λ (n : Name). is_some (tree_at two_in_line 9 (n ∷ line)) ≡ true) e there in absurd cc
    go (inr e) = e

-- a node in line, before which no other is
holder : (zxid : ℕ) (own digits : Name) (node : Node) → own ≡ in_line ++ digits → tree_at two_in_line zxid (own ∷ line) ≡ Some node
    → (node.owner ≡ pos 0 → ⊥) → ((name : Name) → is_some (tree_at two_in_line zxid (name ∷ line)) ≡ true → is_before name own ≡ false)
    → IsHolder (tree_at two_in_line zxid) line in_line (own ∷ line) node.owner (pos node.czxid)
holder zxid own digits node begins there owned first = record {
  own = own;
  below = refl;
  begins = (digits, begins);
  node = node;
  there = there;
  owner = refl;
  owned = owned;
  made = refl;
  first = λ name there begins. first name there;
}

pub first_holds : IsHolder (tree_at two_in_line 6) line in_line (first_name ∷ line) (pos 7) (pos 5)
first_holds = holder 6 first_name _ (made 5 (pos 1000) None (pos 7)) refl refl (λ e. absurd cc) (none_before is_before refl refl)

pub second_holds : IsHolder (tree_at two_in_line 9) line in_line (second_name ∷ line) (pos 8) (pos 6)
second_holds = holder 9 second_name _ (made 6 (pos 2000) None (pos 8)) refl refl (λ e. absurd cc)
    (λ name there. ap (λ (n : Name). is_before n second_name) (second_alone name there))

-- ---- by numbers

-- who holds stands first, where none is before it by the numbers
stands : (tree : Tree) (path : NodePath) (session token : ℤ) (holds : IsHolder tree line in_line path session token)
    → by_number.is_numbered in_line holds.own ≡ true
    → ((name : Name) → is_some (tree (name ∷ line)) ≡ true → by_number.is_before name holds.own ≡ false)
    → IsStanding tree line numbered path session token
stands tree path session token holds is first = record {
  own = holds.own;
  below = holds.below;
  numbered = is;
  node = holds.node;
  there = holds.there;
  owner = holds.owner;
  owned = holds.owned;
  made = holds.made;
  first = λ name there rival. first name there;
}

pub first_stands : IsStanding (tree_at two_in_line 6) line numbered (first_name ∷ line) (pos 7) (pos 5)
unfolding first_holds holder
first_stands = stands (tree_at two_in_line 6) (first_name ∷ line) (pos 7) (pos 5) first_holds refl
    (none_before by_number.is_before refl refl)

pub second_stands : IsStanding (tree_at two_in_line 9) line numbered (second_name ∷ line) (pos 8) (pos 6)
unfolding second_holds holder
second_stands = stands (tree_at two_in_line 9) (second_name ∷ line) (pos 8) (pos 6) second_holds refl
    (λ name there. ap (λ (n : Name). by_number.is_before n second_name) (second_alone name there))

pub second_listed : ListsAll (tree_at two_in_line 9) line (second_name ∷ [])
second_listed name there = inl (second_alone name there)

pub all_made_by : AreMadeBy two_in_line line in_line (pos 8) 6
all_made_by zxid name node e tagged owner = go (made_at zxid name node e)
  where
    go : IsMade name node → node.czxid ≤ 6
    go (inl a) = let x = a.1 in omega (arith, x)
    go (inr a) = let x = a.1 in omega (arith, x)

childless : (child : Name) → after (first_comes ∷ second_comes ∷ []) root_alone (child ∷ first_name ∷ line) ≡ None
childless child = go (bytes_eq child second_name) (bytes_eq child first_name) _ _
  where
    go : (b c : Bool) (x y : Option Node) → cond (b && false) x (cond (c && false) y None) ≡ None
    go true true x y = refl
    go true false x y = refl
    go false true x y = refl
    go false false x y = refl

pub line_history : IsHistory two_in_line
line_history = record {
  root = refl;
  parents = λ name path e. absurd cc;
  zeros = is_history.zeros;
  rising = (omega arith, omega arith, (omega arith, omega arith, (omega arith, omega arith, tt)));
  legal = (((refl, refl), tt), (((refl, refl), tt), (((refl, childless), tt), tt)));
}
