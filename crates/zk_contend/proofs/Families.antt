-- Whether names of several families are listed. A name of ten digits is before ten bytes after each digit, so the last one before those is
-- one of another family, if there is one.
use Rattle.std.proofs.Common.{ℕ, ◌≡◌, ◌≤◌, ◌<◌, ◌-◌, ◌⊎◌, inl, inr, Bool, true, false, ◌||◌, not, List, [], ◌∷◌, length, drop}
use Rattle.std.proofs.Common.{refl, sym, ap, ◌∙◌, true≢false, arith, length-drop, nat_le, nat_lt}
use Rattle.std.proofs.lemmas.Bool.{and_parts}
use Rattle.std.proofs.lemmas.Bool.Decides.{nat_tests}
use Rattle.std.specs.Prelude.{codes, nat_eq}
use Rattle.std.specs.List.{ends_with, list_all, list_any}
use Rattle.std.specs.Cmp.{ranks}
use Rattle.std.specs.Ordering.{is_lt, nat_cmp, ordering_then, MatchOrdering}
use Rattle.std.specs.declared.cmp.Ordering.{Ordering}
use Rattle.std.specs.declared.cmp.Ordering.TheVariants.{Less, Equal, Greater}
use Rattle.zk_nodes.specs.Path.{Name}
use Rattle.zk_nodes.specs.Names.{name_cmp}
use Rattle.zk_turns.specs.Meaning.{Among}
use Rattle.zk_conclusions.specs.Numbers.{Kind, by_number, front_of, is_before, is_digit, is_numbered, is_rival, number_of}
use Rattle.zk_conclusions.specs.Predecessors.{IsPredecessor}
use Rattle.zk_conclusions.specs.Standings.{IsFirstOf}

-- ---- names that pass a test

pub left_none : (a b : Bool) → (a || b) ≡ false → a ≡ false
left_none true b e = absurd (true≢false e)
left_none false b e = refl

right_none : (a b : Bool) → (a || b) ≡ false → b ≡ false
right_none true b e = absurd (true≢false e)
right_none false b e = e

pub left_one : (a b : Bool) → (a || b) ≡ true → b ≡ false → a ≡ true
left_one true b e none = refl
left_one false b e none = absurd (true≢false (sym e ∙ none))

or_one : (a b : Bool) → (a ≡ true) ⊎ (b ≡ true) → (a || b) ≡ true
or_one true b one = refl
or_one false b (inl e) = absurd (true≢false (sym e))
or_one false b (inr e) = e

or_none : (a b : Bool) → a ≡ false → b ≡ false → (a || b) ≡ false
or_none true b e f = absurd (true≢false e)
or_none false b e f = f

pub none_of : (test : Name → Bool) (names : List Name) (name : Name) → list_any test names ≡ false → Among name names
    → test name ≡ false
none_of test [] name none there = absurd there
none_of test (one ∷ names) name none (inl same) = ap test same ∙ left_none (test one) (list_any test names) none
none_of test (one ∷ names) name none (inr there) = none_of test names name (right_none (test one) (list_any test names) none) there

pub any_of : (test : Name → Bool) (names : List Name) (name : Name) → Among name names → test name ≡ true → list_any test names ≡ true
any_of test [] name there is = absurd there
any_of test (one ∷ names) name (inl same) is = or_one (test one) (list_any test names) (inl (ap test (sym same) ∙ is))
any_of test (one ∷ names) name (inr there) is = or_one (test one) (list_any test names) (inr (any_of test names name there is))

pub none_any : (test : Name → Bool) (names : List Name) → ((name : Name) → Among name names → test name ≡ false)
    → list_any test names ≡ false
none_any test [] none = refl
none_any test (one ∷ names) none =
    or_none (test one) (list_any test names) (none one (inl refl)) (none_any test names (λ name there. none name (inr there)))

-- ---- numbers

-- ten colons, which are after each digit
abbrev pub beyond : Name
beyond = codes "::::::::::"

digit_low : (byte : ℕ) → is_digit byte ≡ true → byte ≤ 57
digit_low byte e = let parts = and_parts (nat_le 48 byte) (nat_le byte 57) e in grind (arith, nat_tests)

digit_first : (byte : ℕ) → is_digit byte ≡ true → nat_cmp byte 58 ≡ Less
digit_first byte e = go (nat_cmp byte 58) refl (ranks byte 58)
  where
    go : (o : Ordering) → nat_cmp byte 58 ≡ o → MatchOrdering o (byte < 58) (byte ≡ 58) (58 < byte) → nat_cmp byte 58 ≡ Less
    go Less is ranked = is
    go Equal is ranked = let low = digit_low byte e in absurd (omega (arith, low, ranked))
    go Greater is ranked = let low = digit_low byte e in absurd (omega (arith, low, ranked))

digits_first : (bytes : Name) → length bytes ≡ 10 → list_all is_digit bytes ≡ true → name_cmp bytes beyond ≡ Less
digits_first [] long e = absurd (omega (arith, long))
digits_first (byte ∷ bytes) long e =
    ap (λ (o : Ordering). ordering_then o (name_cmp bytes (drop 1 beyond)))
    (digit_first byte (and_parts (is_digit byte) (list_all is_digit bytes) e).0)

not_below : (n : ℕ) → not (nat_lt n 10) ≡ true → 10 ≤ n
not_below n e = grind (arith, nat_tests)

numbered_first : (marker name : Name) → is_numbered marker name ≡ true → is_before name beyond ≡ true
numbered_first marker name e =
    let parts = and_parts (not (nat_lt (length name) 10)) _ e in
    let ends = and_parts (list_all is_digit (number_of name)) (ends_with nat_eq (front_of name) marker) parts.1 in
    let long : 10 ≤ length name = not_below (length name) parts.0 in
    let ten : length (number_of name) ≡ 10 = length-drop (length name - 10) name ∙ omega (arith, long) in
    ap (λ (o : Ordering). by_number o (is_lt (name_cmp name beyond))) (digits_first (number_of name) ten ends.0)

any_first : (markers : List Name) (name : Name) → list_any (λ marker. is_numbered marker name) markers ≡ true
    → is_before name beyond ≡ true
any_first [] name e = absurd (true≢false (sym e))
any_first (marker ∷ markers) name e = go (is_numbered marker name) refl (any_first markers name)
  where
    go : (b : Bool) → is_numbered marker name ≡ b
        → (list_any (λ marker. is_numbered marker name) markers ≡ true → is_before name beyond ≡ true) → is_before name beyond ≡ true
    go true is more = numbered_first marker name is
    go false is more = more (sym (ap (λ b. b || list_any (λ marker. is_numbered marker name) markers) is) ∙ e)

rival_first : (kind : Kind) (name : Name) → is_rival kind name ≡ true → is_before name beyond ≡ true
rival_first kind name e = any_first kind.against name e

-- ---- the last one before ten colons

pub one_found : (kind : Kind) (names : List Name) (name : Name) → IsPredecessor kind names beyond name
    → list_any (is_rival kind) names ≡ true
one_found kind names name is = any_of (is_rival kind) names name is.among is.rival

pub none_found : (kind : Kind) (names : List Name) → IsFirstOf kind names beyond → list_any (is_rival kind) names ≡ false
none_found kind names first = none_any (is_rival kind) names (λ name there. go name there (is_rival kind name) refl)
  where
    go : (name : Name) → Among name names → (b : Bool) → is_rival kind name ≡ b → is_rival kind name ≡ false
    go name there false is = is
    go name there true is = absurd (true≢false (sym (rival_first kind name is) ∙ first name there is))
