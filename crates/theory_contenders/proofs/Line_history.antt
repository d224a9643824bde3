-- The history of the two places: it is one, its names come from sequential creates, and what is there was made by one of its creates.
use Rattle.std.proofs.Common.{◌≡◌, ◌≤◌, ◌&&◌, ℕ, ℤ, pos, Bool, true, false, List, [], ◌∷◌, refl, sym, ap, subst, arith, inl, inr, ◌⊎◌, ◌∙◌}
use Rattle.std.proofs.Common.{Option, Some, None, length, ◌+◌}
use Rattle.std.specs.Prelude.{is_some, bytes_eq, take, ◌^◌}
use Rattle.std.proofs.lemmas.Bool.{and_parts, ltb-true}
use lib.Dec.{ltb}
use Rattle.zk_turns.specs.Meaning.{Among}
use Rattle.zk_nodes.specs.Path.{Name}
use Rattle.zk_nodes.specs.History.{Node, Creates, Transaction, IsHistory, AreRising, AllLegal, tree_at, after}
use Rattle.theory_messages.specs.Example.{root_alone}
use Rattle.theory_messages.proofs.Shown.{is_history}
use Rattle.zk_conclusions.specs.Holders.{HasPrefix}
use Rattle.zk_conclusions.specs.Numbers.{Kind, is_numbered, is_one}
use Rattle.zk_conclusions.specs.Standings.{ListsAll}
use Rattle.zk_conclusions.specs.Tags.{AreMadeBy}
use Rattle.theory_contenders.specs.Sequences.{MadeInSequence, AreNumberedOnly, alone}
use Rattle.theory_contenders.specs.Line_example.{lock, marker, first_name, note_name, second_name, places, all_three}
use Rattle.theory_contenders.specs.Line_example.{two_places, made_again}
use Rattle.theory_contenders.proofs.Coming.{IsMadeBy, WasThere, from_transactions}

pub and_false : (b : Bool) → (b && false) ≡ false
and_false true = refl
and_false false = refl

-- do the zxids rise, and lie in range
abbrev rise : ℕ → List Transaction → Bool
rise low [] = true
rise low (one ∷ more) = ltb low one.zxid && (ltb one.zxid (2 ^ 63) && rise one.zxid more)

risen : (low : ℕ) (transactions : List Transaction) → rise low transactions ≡ true → AreRising low transactions
risen low [] e = tt
risen low (one ∷ more) e =
    let a = and_parts (ltb low one.zxid) (ltb one.zxid (2 ^ 63) && rise one.zxid more) e in
    let b = and_parts (ltb one.zxid (2 ^ 63)) (rise one.zxid more) a.1 in
    (ltb-true low one.zxid a.0, ltb-true one.zxid (2 ^ 63) b.0, risen one.zxid more b.1)

-- from a tree that has a root alone
history_of : (transactions : List Transaction) → rise 0 transactions ≡ true → AllLegal transactions root_alone
    → IsHistory (record { first = root_alone; transactions = transactions })
history_of transactions rising legal = record {
  root = refl;
  parents = λ name path e. absurd cc;
  zeros = is_history.zeros;
  rising = risen 0 transactions rising;
  legal = legal;
}

pub line_history : IsHistory two_places
line_history = history_of two_places.transactions refl (
  ((refl, refl), tt),
  (
    ((refl, refl), tt),
    (((refl, refl), tt), (((refl, refl), tt), (((_, refl, omega arith), tt), (((refl, λ child. simp and_false), tt), tt)))),
  ),
)

-- of each kind of which the note is none
sequence_of : (kind : Kind) → is_one kind note_name ≡ false → MadeInSequence two_places lock kind
sequence_of kind none = record {
  counter = 0;
  first = λ name there one. absurd cc;
  made = (
    (λ below. absurd cc, tt),
    (
      (λ below one. record { small = omega arith; asked = marker; made = refl }, tt),
      (
        (λ below one. let k : true ≡ false = sym one ∙ none in absurd cc, tt),
        ((λ below one. record { small = omega arith; asked = marker; made = refl }, tt), ((tt, tt), ((tt, tt), tt))),
      ),
    ),
  );
}

pub line_sequence : MadeInSequence two_places lock places
line_sequence = sequence_of places refl

pub alone_sequence : MadeInSequence two_places lock (alone marker)
alone_sequence = sequence_of (alone marker) refl

nothing_left : (child : Name) → after (take 3 made_again.transactions) made_again.first (child ∷ lock) ≡ None
nothing_left child = go (bytes_eq child first_name) refl
  where
    go : (b : Bool) → bytes_eq child first_name ≡ b → after (take 3 made_again.transactions) made_again.first (child ∷ lock) ≡ None
    go true e = simp (e, and_false)
    go false e = simp (e, and_false)

pub again_history : IsHistory made_again
again_history = history_of made_again.transactions refl (
  ((refl, refl), tt),
  (
    ((refl, refl), tt),
    (((refl, λ child. simp and_false), tt), (((refl, nothing_left), tt), (((refl, refl), tt), (((refl, refl), tt), tt)))),
  ),
)

pub again_sequence : MadeInSequence made_again lock places
again_sequence = record {
  counter = 0;
  first = λ name there one. absurd cc;
  made = (
    (λ below. absurd cc, tt),
    (
      (λ below one. record { small = omega arith; asked = marker; made = refl }, tt),
      (
        (tt, tt),
        (
          (tt, tt),
          ((λ below. absurd cc, tt), ((λ below one. record { small = omega arith; asked = marker; made = refl }, tt), tt)),
        ),
      ),
    ),
  );
}

-- ---- what is there

abbrev IsIts : Name → Node → (name : Name) → (zxid : ℕ) → (session : ℤ) → Type 0
IsIts own node name zxid session = (own ≡ name) × (node.czxid ≡ zxid) × (node.owner ≡ session)

abbrev IsThere : Name → Node → Type 0
IsThere own node =
    IsIts own node first_name 6 (pos 7) ⊎ (IsIts own node note_name 7 (pos 0) ⊎ IsIts own node second_name 8 (pos 8))

same_name : (own name : Name) (content its : Option (List ℕ)) (owner session : ℤ)
    → Creates (own ∷ lock) content owner ≡ Creates (name ∷ lock) its session → (own ≡ name) × (owner ≡ session)
same_name own name content its owner session e = (cc, cc)

no_lock : (own : Name) (content its : Option (List ℕ)) (owner session : ℤ)
    → Creates (own ∷ lock) content owner ≡ Creates lock its session → ⊥
no_lock own content its owner session e = cc

what_is_there : (zxid : ℕ) (own : Name) (node : Node) → tree_at two_places zxid (own ∷ lock) ≡ Some node → IsThere own node
what_is_there zxid own node e = go (from_transactions zxid (own ∷ lock) two_places.transactions two_places.first node e)
  where
    its : (name : Name) (content its : Option (List ℕ)) (session : ℤ) (at : ℕ) → Creates (own ∷ lock) content node.owner
        ≡ Creates (name ∷ lock) its session → node.czxid ≡ at → IsIts own node name at session
    its name content given session at same made = let k = same_name own name content given node.owner session same in (k.0, made, k.1)

    by : (one : Transaction) (content : Option (List ℕ)) → Among one two_places.transactions
        → Among (Creates (own ∷ lock) content node.owner) one.changes → node.czxid ≡ one.zxid → IsThere own node
    by one content (inl same) change at =
        elim (subst (λ (t : Transaction). Among (Creates (own ∷ lock) content node.owner) t.changes) same change)
        [ inl e ↦ absurd (no_lock own content None node.owner (pos 0) e) | inr none ↦ absurd none ]
    by one content (inr (inl same)) change at =
        elim (subst (λ (t : Transaction). Among (Creates (own ∷ lock) content node.owner) t.changes) same change) [
          | inl e ↦ inl (its first_name content None (pos 7) 6 e (at ∙ ap (λ (t : Transaction). t.zxid) same))
          | inr none ↦ absurd none
        ]
    by one content (inr (inr (inl same))) change at =
        elim (subst (λ (t : Transaction). Among (Creates (own ∷ lock) content node.owner) t.changes) same change) [
          | inl e ↦ inr (inl (its note_name content None (pos 0) 7 e (at ∙ ap (λ (t : Transaction). t.zxid) same)))
          | inr none ↦ absurd none
        ]
    by one content (inr (inr (inr (inl same)))) change at =
        elim (subst (λ (t : Transaction). Among (Creates (own ∷ lock) content node.owner) t.changes) same change) [
          | inl e ↦ inr (inr (its second_name content None (pos 8) 8 e (at ∙ ap (λ (t : Transaction). t.zxid) same)))
          | inr none ↦ absurd none
        ]
    by one content (inr (inr (inr (inr (inl same))))) change at =
        elim (subst (λ (t : Transaction). Among (Creates (own ∷ lock) content node.owner) t.changes) same change)
        [ inl e ↦ absurd cc | inr none ↦ absurd none ]
    by one content (inr (inr (inr (inr (inr (inl same)))))) change at =
        elim (subst (λ (t : Transaction). Among (Creates (own ∷ lock) content node.owner) t.changes) same change)
        [ inl e ↦ absurd cc | inr none ↦ absurd none ]
    by one content (inr (inr (inr (inr (inr (inr none)))))) change at = absurd none

    go : WasThere two_places.first (own ∷ lock) node ⊎ IsMadeBy (own ∷ lock) node.czxid node.owner two_places.transactions
        → IsThere own node
    go (inl old) = let k : None ≡ Some old.0 = old.1 in absurd cc
    go (inr made) = by made.one made.content made.there made.change made.at

-- ---- what is said of it

abbrev second_byte : Name → ℕ
second_byte [] = 0
second_byte (byte ∷ []) = 0
second_byte (byte ∷ next ∷ bytes) = next

-- the note begins otherwise
pub no_note : (name : Name) → name ≡ note_name → HasPrefix marker name → ⊥
no_note name e has = let k : 111 ≡ 45 = sym (ap second_byte e) ∙ ap second_byte has.1 in absurd (omega (arith, k))

pub only_numbered : AreNumberedOnly two_places lock marker
only_numbered zxid name there has = go (tree_at two_places zxid (name ∷ lock)) refl there
  where
    is_so : (own : Name) → name ≡ own → (length own ≡ 12) × (is_numbered marker own ≡ true)
        → (length name ≡ length marker + 10) × (is_numbered marker name ≡ true)
    is_so own same so = subst (λ (n : Name). (length n ≡ 12) × (is_numbered marker n ≡ true)) (sym same) so

    of_it : (node : Node) → IsThere name node → (length name ≡ length marker + 10) × (is_numbered marker name ≡ true)
    of_it node (inl a) = is_so first_name a.0 (refl, refl)
    of_it node (inr (inl a)) = absurd (no_note name a.0 has)
    of_it node (inr (inr a)) = is_so second_name a.0 (refl, refl)

    go : (found : Option Node) → tree_at two_places zxid (name ∷ lock) ≡ found → is_some found ≡ true
        → (length name ≡ length marker + 10) × (is_numbered marker name ≡ true)
    go None e s = absurd cc
    go (Some node) e s = of_it node (what_is_there zxid name node e)

pub made_by_first : AreMadeBy two_places lock marker (pos 7) 6
made_by_first zxid name node e tagged owner = go (what_is_there zxid name node e)
  where
    go : IsThere name node → node.czxid ≤ 6
    go (inl a) = let x = a.1 in omega (arith, x)
    go (inr (inl a)) = let k : pos 7 ≡ pos 0 = sym owner ∙ a.2 in absurd cc
    go (inr (inr a)) = let k : pos 7 ≡ pos 8 = sym owner ∙ a.2 in absurd cc

pub made_by_second : AreMadeBy two_places lock marker (pos 8) 8
made_by_second zxid name node e tagged owner = go (what_is_there zxid name node e)
  where
    go : IsThere name node → node.czxid ≤ 8
    go (inl a) = let x = a.1 in omega (arith, x)
    go (inr (inl a)) = let x = a.1 in omega (arith, x)
    go (inr (inr a)) = let x = a.1 in omega (arith, x)

pub all_listed : ListsAll (tree_at two_places 8) lock all_three
all_listed name there = go (tree_at two_places 8 (name ∷ lock)) refl there
  where
    of_it : (node : Node) → IsThere name node → Among name all_three
    of_it node (inl a) = inl a.0
    of_it node (inr (inl a)) = inr (inl a.0)
    of_it node (inr (inr a)) = inr (inr (inl a.0))

    go : (found : Option Node) → tree_at two_places 8 (name ∷ lock) ≡ found → is_some found ≡ true → Among name all_three
    go None e s = absurd cc
    go (Some node) e s = of_it node (what_is_there 8 name node e)
