-- The last rival before a name, found name by name: what was found so far is the last of the names gone through.
use Rattle.std.proofs.Common.{ℕ, zero, suc, ◌≡◌, ◌<◌, ◌≤◌, ◌⊎◌, inl, inr, Bool, true, false, ◌&&◌, List, [], ◌∷◌, length, take, get_or}
use Rattle.std.proofs.Common.{Option, Some, None, refl, sym, subst, arith}
use Rattle.std.proofs.lemmas.Bool.{and_parts}
use Rattle.std.specs.Prelude.{IfSome}
use Rattle.zk_turns.specs.Meaning.{Among}
use Rattle.zk_nodes.specs.Path.{Name}
use Rattle.zk_conclusions.specs.Numbers.{Kind, is_before, is_rival}
use Rattle.zk_conclusions.specs.Standings.{IsFirstOf}
use Rattle.zk_conclusions.specs.Predecessors.{IsPredecessor}
use Rattle.zk_conclusions.specs.inner.Predecessors.{IsLastOf, Found, name_at, is_after, is_later}
use Rattle.zk_conclusions.proofs.Numbered.{before_trans, never_before}

pub none_taken : (names : List Name) (name : Name) → Among name (take 0 names) → ⊥
none_taken [] name there = there
none_taken (one ∷ more) name there = there

pub one_more : (names : List Name) (n : ℕ) (name : Name) → n < length names → Among name (take (suc n) names)
    → Among name (take n names) ⊎ (name ≡ get_or names n [])
one_more [] n name lt there = absurd (omega arith)
one_more (one ∷ more) zero name lt (inl e) = inr e
one_more (one ∷ more) zero name lt (inr there) = absurd there
one_more (one ∷ more) (suc n) name lt (inl e) = inl (inl e)
one_more (one ∷ more) (suc n) name lt (inr there) = elim (one_more more n name (omega arith) there) [ inl a ↦ inl (inr a) | inr b ↦ inr b ]

pub taken_all : (names : List Name) (n : ℕ) (name : Name) → length names ≤ n → Among name names → Among name (take n names)
taken_all [] n name le there = absurd there
taken_all (one ∷ more) zero name le there = absurd (omega arith)
taken_all (one ∷ more) (suc n) name le (inl e) = inl e
taken_all (one ∷ more) (suc n) name le (inr there) = inr (taken_all more n name (omega arith) there)

-- the name at a place is one of the list's
pub name_among : (names : List Name) (at : ℕ) → at < length names → Among (name_at names at) names
name_among [] at lt = absurd (omega arith)
name_among (one ∷ more) zero lt = inl refl
name_among (one ∷ more) (suc at) lt = inr (name_among more at (omega arith))

-- at the beginning
pub found_none : (kind : Kind) (names : List Name) (own : Name) → Found kind names own 0 None
found_none kind names own name there rival = absurd (none_taken names name there)

-- a place that was found is one of the list's
pub found_within : (kind : Kind) (names : List Name) (own : Name) (count : ℕ) (last : Option ℕ) (room : ℕ)
    → Found kind names own count last → count < room → IfSome last (λ at. at < room)
found_within kind names own count None room found lt = tt
found_within kind names own count (Some at) room found lt = let k = found.within in omega arith

pub found_at_end : (kind : Kind) (names : List Name) (own : Name) (count : ℕ) (last : Option ℕ) (room : ℕ)
    → Found kind names own count last → count ≤ room → IfSome last (λ at. at < room)
found_at_end kind names own count None room found le = tt
found_at_end kind names own count (Some at) room found le = let k = found.within in omega arith

both_false : (a b : Bool) → (a && b) ≡ false → a ≡ true → b ≡ true → ⊥
both_false true b e s t = absurd cc
both_false false b e s t = absurd cc

either_false : (a b : Bool) → (a && b) ≡ false → (a ≡ false) ⊎ (b ≡ false)
either_false true b e = inr e
either_false false b e = inl refl

not_before : (b : Bool) → (b ≡ true → ⊥) → b ≡ false
not_before true f = absurd (f refl)
not_before false f = refl

true_both : (a b : Bool) → a ≡ true → b ≡ true → (a && b) ≡ true
true_both a b e f = rw e f

-- One name more, which is not later: all stays.
pub found_still : (kind : Kind) (names : List Name) (own : Name) (count : ℕ) (last : Option ℕ)
    → count < length names → Found kind names own count last
    → is_later kind names own last (name_at names count) ≡ false → Found kind names own (suc count) last
found_still kind names own count None lt found none = λ name there rival. elim (one_more names count name lt there) [
  | inl old ↦ found name old rival
  | inr new ↦ not_before (is_before name own) (λ t. (
      let r : is_rival kind (name_at names count) ≡ true = subst (λ (n : Name). is_rival kind n ≡ true) new rival in
      let b : is_before (name_at names count) own ≡ true = subst (λ (n : Name). is_before n own ≡ true) new t in
      both_false (is_rival kind (name_at names count) && is_before (name_at names count) own) true none
      (true_both (is_rival kind (name_at names count)) (is_before (name_at names count) own) r b) refl))
]
found_still kind names own count (Some at) lt found none = record {
  within = let k = found.within in omega arith;
  rival = found.rival;
  before = found.before;
  last = λ name there rival before. elim (one_more names count name lt there) [
    | inl old ↦ found.last name old rival before
    | inr new ↦ not_before (is_before (name_at names at) name) (λ t. (
        let r : is_rival kind (name_at names count) ≡ true = subst (λ (n : Name). is_rival kind n ≡ true) new rival in
        let b : is_before (name_at names count) own ≡ true = subst (λ (n : Name). is_before n own ≡ true) new before in
        let l : is_before (name_at names at) (name_at names count) ≡ true =
        subst (λ (n : Name). is_before (name_at names at) n ≡ true) new t in
        both_false (is_rival kind (name_at names count) && is_before (name_at names count) own) (is_before (name_at names at)
        (name_at names count)) none (true_both (is_rival kind (name_at names count)) (is_before (name_at names count) own) r b) l))
  ];
}

-- what was found so far stands before one that is later
before_later : (kind : Kind) (names : List Name) (own : Name) (count : ℕ) (last : Option ℕ) (new : Name)
    → Found kind names own count last → is_after names last new ≡ true
    → (name : Name) → Among name (take count names) → is_rival kind name ≡ true → is_before name own ≡ true → is_before new name ≡ false
before_later kind names own count None new found behind name there rival before = let k = found name there rival in absurd cc
before_later kind names own count (Some at) new found behind name there rival before = not_before (is_before new name) (λ t. (
    let k : is_before (name_at names at) name ≡ true = before_trans (name_at names at) new name behind t in
    let l : is_before (name_at names at) name ≡ false = found.last name there rival before in
    absurd cc))

-- One name more, which is later: it is the last.
pub found_here : (kind : Kind) (names : List Name) (own : Name) (count : ℕ) (last : Option ℕ)
    → count < length names → Found kind names own count last
    → is_later kind names own last (name_at names count) ≡ true → IsLastOf kind names own (suc count) count
found_here kind names own count last lt found later =
    let parts = and_parts (is_rival kind (name_at names count) && is_before (name_at names count) own)
    (is_after names last (name_at names count)) later in
    let own_parts = and_parts (is_rival kind (name_at names count)) (is_before (name_at names count) own) parts.0 in
    record {
      within = omega arith;
      rival = own_parts.0;
      before = own_parts.1;
      last = λ name there rival before. elim (one_more names count name lt there) [
        | inl old ↦ before_later kind names own count last (name_at names count) found parts.1 name old rival before
        | inr new ↦ subst (λ (n : Name). is_before (name_at names count) n ≡ false) (sym new) (never_before (name_at names count))
      ];
    }

-- At the end.
pub found_some : (kind : Kind) (names : List Name) (own : Name) (count : ℕ) (last : Option ℕ)
    → count ≡ length names → Found kind names own count last
    → IfSome last (λ at. IsPredecessor kind names own (name_at names at))
found_some kind names own count None e found = tt
found_some kind names own count (Some at) e found = record {
  among = name_among names at (let k = found.within in omega arith);
  rival = found.rival;
  before = found.before;
  last = λ name there rival before. found.last name (taken_all names count name (omega arith) there) rival before;
}

pub found_first : (kind : Kind) (names : List Name) (own : Name) (count : ℕ) (last : Option ℕ)
    → count ≡ length names → Found kind names own count last → last ≡ None → IsFirstOf kind names own
found_first kind names own count None e found is = λ name there rival. found name (taken_all names count name (omega arith) there) rival
found_first kind names own count (Some at) e found is = absurd cc
