-- Ten digits are ordered as their numbers are: where the first different digit is smaller, what is read is, whatever follows.
use Rattle.std.proofs.Common.{ℕ, zero, suc, ◌≡◌, ◌<◌, ◌≤◌, ◌+◌, ◌-◌, ◌*◌, ◌/◌, ◌%◌, Bool, true, false, ◌&&◌, not, List, [], ◌∷◌}
use Rattle.std.proofs.Common.{◌++◌, refl, sym, ap, ap₂}
use Rattle.std.proofs.lemmas.Cmp.{nat_cmp_total}
use Rattle.std.proofs.Common.{◌∙◌, subst, arith, length, drop, length-append, length-drop, nat_le, nat_lt}
use Rattle.std.proofs.lemmas.Bool.{and_parts}
use Rattle.std.proofs.lemmas.Bool.Decides.{nat_tests}
use Rattle.std.proofs.Math.Seq.{drop-append_seam}
use Rattle.std.specs.List.{list_all, list_any, ends_with}
use Rattle.std.specs.Prelude.{nat_eq}
use Rattle.std.specs.Ordering.{MatchOrdering, is_lt, nat_cmp, ordering_reverse, ordering_then}
use Rattle.std.specs.declared.cmp.Ordering.{Ordering}
use Rattle.std.specs.declared.cmp.Ordering.TheVariants.{Less, Equal, Greater}
use Rattle.std.proofs.lemmas.Map.Lookups.{exact_unsigned}
use Rattle.std.proofs.Math.Nat.{div-add-mod'}
use Rattle.std.specs.Cmp.{ranks}
use Rattle.zk_nodes.specs.Path.{Name}
use Rattle.zk_nodes.specs.Names.{name_cmp}
use Rattle.zk_conclusions.specs.Holders.{HasPrefix}
use Rattle.zk_conclusions.specs.Holders as in_bytes
use Rattle.zk_conclusions.specs.Numbers.{Kind, is_digit, number_of, front_of, is_numbered, by_number, is_before, is_one}
use Rattle.theory_contenders.specs.Sequences.{digits, HasNumber}

-- what digits say, after those read so far
abbrev pub read : ℕ → Name → ℕ
read before [] = before
read before (byte ∷ bytes) = read (10 * before + (byte - 48)) bytes

-- what the last ten bytes of a name say
abbrev pub value : Name → ℕ
value name = read 0 (number_of name)

-- ---- the order

digit_bounds : (byte : ℕ) → is_digit byte ≡ true → (48 ≤ byte) × (byte ≤ 57)
digit_bounds byte e = let parts = and_parts (nat_le 48 byte) (nat_le byte 57) e in (grind (arith, nat_tests), grind (arith, nat_tests))

more_before : (a b : ℕ) (ones others : Name) → a < b → list_all is_digit ones ≡ true → list_all is_digit others ≡ true
    → length ones ≡ length others → read a ones < read b others
more_before a b [] [] lt p q same = lt
more_before a b [] (y ∷ ys) lt p q same = absurd (omega arith)
more_before a b (x ∷ xs) [] lt p q same = absurd (omega arith)
more_before a b (x ∷ xs) (y ∷ ys) lt p q same =
    let here = and_parts (is_digit x) (list_all is_digit xs) p in
    let there = and_parts (is_digit y) (list_all is_digit ys) q in
    let low = digit_bounds x here.0 in
    let high = digit_bounds y there.0 in
    let step : 10 * a + (x - 48) < 10 * b + (y - 48) = omega (arith, low.0, low.1, high.0, high.1) in
    let tail : length xs ≡ length ys = omega arith in
    more_before (10 * a + (x - 48)) (10 * b + (y - 48)) xs ys step here.1 there.1 tail

less_is : (x y : ℕ) → nat_cmp x y ≡ Less → x < y
less_is x y e = subst (λ (r : Ordering). MatchOrdering r (x < y) (x ≡ y) (y < x)) e (ranks x y)

not_greater : (a : ℕ) (ones others : Name) → list_all is_digit ones ≡ true → list_all is_digit others ≡ true
    → length ones ≡ length others → (name_cmp ones others ≡ Greater → ⊥) → read a ones ≤ read a others
not_greater a [] [] p q same less = omega arith
not_greater a [] (y ∷ ys) p q same less = absurd (omega arith)
not_greater a (x ∷ xs) [] p q same less = absurd (omega arith)
not_greater a (x ∷ xs) (y ∷ ys) p q same less =
    let here = and_parts (is_digit x) (list_all is_digit xs) p in
    let there = and_parts (is_digit y) (list_all is_digit ys) q in
    go (λ tail none. not_greater (10 * a + (x - 48)) xs ys here.1 there.1 tail none) here there (omega arith) (nat_cmp x y) refl
  where
    go : (length xs ≡ length ys → (name_cmp xs ys ≡ Greater → ⊥) → read (10 * a + (x - 48)) xs ≤ read (10 * a + (x - 48)) ys)
        → (is_digit x ≡ true) × (list_all is_digit xs ≡ true) → (is_digit y ≡ true) × (list_all is_digit ys ≡ true)
        → length xs ≡ length ys → (o : Ordering) → nat_cmp x y ≡ o → read a (x ∷ xs) ≤ read a (y ∷ ys)
    go more here there tail Less e =
        let low = digit_bounds x here.0 in
        let high = digit_bounds y there.0 in
        let lt : x < y = less_is x y e in
        let step : 10 * a + (x - 48) < 10 * a + (y - 48) = omega (arith, low.0, high.0, lt) in
        let rest : read (10 * a + (x - 48)) xs < read (10 * a + (y - 48)) ys =
        more_before (10 * a + (x - 48)) (10 * a + (y - 48)) xs ys step here.1 there.1 tail in
        omega (arith, rest)
    go more here there tail Equal e =
        let same_digit : x ≡ y = exact_unsigned x y e in
        let same_end : name_cmp (x ∷ xs) (y ∷ ys) ≡ name_cmp xs ys = ap (λ (o : Ordering). ordering_then o (name_cmp xs ys)) e in
        let rest : read (10 * a + (x - 48)) xs ≤ read (10 * a + (x - 48)) ys = more tail (λ g. less (same_end ∙ g)) in
        subst (λ (d : ℕ). read (10 * a + (x - 48)) xs ≤ read (10 * a + (d - 48)) ys) same_digit rest
    go more here there tail Greater e = absurd (less (ap (λ (o : Ordering). ordering_then o (name_cmp xs ys)) e))

-- ---- names of a kind

any_digits : (markers : List Name) (name : Name) → list_any (λ marker. is_numbered marker name) markers ≡ true
    → (marker : Name) × (is_numbered marker name ≡ true)
any_digits [] name e = absurd cc
any_digits (marker ∷ markers) name e = go (any_digits markers name) (is_numbered marker name) refl
  where
    go : (list_any (λ marker. is_numbered marker name) markers ≡ true → (one : Name) × (is_numbered one name ≡ true)) → (b : Bool)
        → is_numbered marker name ≡ b → (one : Name) × (is_numbered one name ≡ true)
    go more true f = (marker, f)
    go more false f = more (rw f at e)

some_marker : (kind : Kind) (name : Name) → is_one kind name ≡ true → (marker : Name) × (is_numbered marker name ≡ true)
some_marker kind name e = go (is_numbered kind.own name) refl
  where
    go : (b : Bool) → is_numbered kind.own name ≡ b → (one : Name) × (is_numbered one name ≡ true)
    go true f = (kind.own, f)
    go false f = any_digits kind.against name (rw f at e)

not_below : (n : ℕ) → not (nat_lt n 10) ≡ true → 10 ≤ n
not_below n e = grind (arith, nat_tests)

-- the last ten bytes of a name of the kind are digits
ten : (kind : Kind) (name : Name) → is_one kind name ≡ true → (list_all is_digit (number_of name) ≡ true) × (length (number_of name) ≡ 10)
ten kind name e =
    let found = some_marker kind name e in
    let parts = and_parts (not (nat_lt (length name) 10))
    (list_all is_digit (number_of name) && ends_with nat_eq (front_of name) found.0) found.1 in
    let ends = and_parts (list_all is_digit (number_of name)) (ends_with nat_eq (front_of name) found.0) parts.1 in (
      ends.0,
      length-drop (length name - 10) name ∙ (
          let long : 10 ≤ length name = not_below (length name) parts.0 in omega (arith, long)),
    )

-- Of two names of the kind, the one that is before the other has no greater number.
pub no_greater : (kind : Kind) (one other : Name) → is_one kind one ≡ true → is_one kind other ≡ true → is_before one other ≡ true
    → value one ≤ value other
no_greater kind one other p q before =
    let mine = ten kind one p in
    let its = ten kind other q in
    not_greater 0 (number_of one) (number_of other) mine.0 its.0 (mine.1 ∙ sym its.1) (λ g. (
    let k : is_before one other ≡ false = ap (λ (o : Ordering). by_number o (is_lt (name_cmp one other))) g in absurd cc))

-- ---- names with one prefix

self_equal : (x : ℕ) → nat_cmp x x ≡ Equal
self_equal x = go (nat_cmp x x) refl (nat_cmp_total.antisymm x x)
  where
    go : (o : Ordering) → nat_cmp x x ≡ o → nat_cmp x x ≡ ordering_reverse (nat_cmp x x) → nat_cmp x x ≡ Equal
    go Less e back = let k : Less ≡ ordering_reverse Less = sym e ∙ (back ∙ ap ordering_reverse e) in absurd cc
    go Equal e back = e
    go Greater e back = let k : Greater ≡ ordering_reverse Greater = sym e ∙ (back ∙ ap ordering_reverse e) in absurd cc

same_front : (front one other : Name) → name_cmp (front ++ one) (front ++ other) ≡ name_cmp one other
same_front [] one other = refl
same_front (x ∷ xs) one other =
    ap (λ (o : Ordering). ordering_then o (name_cmp (xs ++ one) (xs ++ other))) (self_equal x) ∙ same_front xs one other

-- the number of a name that is the prefix and ten bytes
number_behind : (prefix rest name : Name) → name ≡ prefix ++ rest → length name ≡ length prefix + 10 → number_of name ≡ rest
number_behind prefix rest name e long =
    let front : length name - 10 ≡ length prefix = omega (arith, long) in
    ap (λ (n : ℕ). drop n name) front ∙ (ap (λ (m : Name). drop (length prefix) m) e ∙ drop-append_seam prefix rest)

-- Of two such names, the one that is before the other in the order of bytes has no greater number.
pub no_greater_by_prefix : (kind : Kind) (prefix one other : Name) → is_one kind one ≡ true → is_one kind other ≡ true
    → (mine : HasPrefix prefix one) → (its : HasPrefix prefix other) → length one ≡ length prefix + 10 → length other ≡ length prefix + 10
    → in_bytes.is_before one other ≡ true → value one ≤ value other
no_greater_by_prefix kind prefix one other p q mine its long as_long before =
    let digits_mine = ten kind one p in
    let digits_its = ten kind other q in
    not_greater 0 (number_of one) (number_of other) digits_mine.0 digits_its.0 (digits_mine.1 ∙ sym digits_its.1) (λ g. (
    let a : number_of one ≡ mine.0 = number_behind prefix mine.0 one mine.1 long in
    let b : number_of other ≡ its.0 = number_behind prefix its.0 other its.1 as_long in
    let behind : name_cmp mine.0 its.0 ≡ Greater = sym (ap₂ name_cmp a b) ∙ g in
    let whole : name_cmp one other ≡ Greater = ap₂ name_cmp mine.1 its.1 ∙ (same_front prefix mine.0 its.0 ∙ behind) in
    let k : in_bytes.is_before one other ≡ false = ap is_lt whole in
    absurd cc))

-- ---- what a sequential create writes is read again

read_more : (a : ℕ) (bytes : Name) (byte : ℕ) → read a (bytes ++ byte ∷ []) ≡ 10 * read a bytes + (byte - 48)
read_more a [] byte = refl
read_more a (x ∷ xs) byte = read_more (10 * a + (x - 48)) xs byte

length_digits : (count number : ℕ) → length (digits count number) ≡ count
length_digits zero number = refl
length_digits (suc count) number =
    length-append (digits count (number / 10)) ((48 + number % 10) ∷ []) ∙ (let k = length_digits count (number / 10) in omega (arith, k))

-- the number has no more digits than these
abbrev Fits : ℕ → ℕ → Type 0
Fits zero number = number ≡ 0
Fits (suc count) number = Fits count (number / 10)

read_back : (count number : ℕ) → Fits count number → read 0 (digits count number) ≡ number
read_back zero number fits = sym fits
read_back (suc count) number fits =
    let whole : number / 10 * 10 + number % 10 ≡ number = div-add-mod' number 10 in
    let front : read 0 (digits count (number / 10)) ≡ number / 10 = read_back count (number / 10) fits in
    read_more 0 (digits count (number / 10)) (48 + number % 10)
    ∙ (let k : 10 * read 0 (digits count (number / 10)) + (48 + number % 10 - 48) ≡ number = omega (arith, whole, front) in k)

tenth : (n k : ℕ) → n ≤ 10 * k + 9 → n / 10 ≤ k
tenth n k le = let whole : n / 10 * 10 + n % 10 ≡ n = div-add-mod' n 10 in omega (arith, whole)

fits_ten : (number : ℕ) → number ≤ 2147483647 → Fits 10 number
fits_ten number a =
    let b = tenth number 214748364 (omega arith) in
    let c = tenth (number / 10) 21474836 (omega (arith, b)) in
    let d = tenth (number / 10 / 10) 2147483 (omega (arith, c)) in
    let e = tenth (number / 10 / 10 / 10) 214748 (omega (arith, d)) in
    let f = tenth (number / 10 / 10 / 10 / 10) 21474 (omega (arith, e)) in
    let g = tenth (number / 10 / 10 / 10 / 10 / 10) 2147 (omega (arith, f)) in
    let h = tenth (number / 10 / 10 / 10 / 10 / 10 / 10) 214 (omega (arith, g)) in
    let i = tenth (number / 10 / 10 / 10 / 10 / 10 / 10 / 10) 21 (omega (arith, h)) in
    let j = tenth (number / 10 / 10 / 10 / 10 / 10 / 10 / 10 / 10) 2 (omega (arith, i)) in
    let k = tenth (number / 10 / 10 / 10 / 10 / 10 / 10 / 10 / 10 / 10) 0 (omega (arith, j)) in
    omega (arith, k)

-- The number of a name that a sequential create makes is the one that it was given.
pub numbered_so : (number : ℕ) (name : Name) → HasNumber number name → value name ≡ number
numbered_so number name has =
    let ten_long : length (digits 10 number) ≡ 10 = length_digits 10 number in
    let long : length (has.asked ++ digits 10 number) ≡ length has.asked + length (digits 10 number) =
    length-append has.asked (digits 10 number) in
    let front : length (has.asked ++ digits 10 number) - 10 ≡ length has.asked = omega (arith, ten_long, long) in
    ap value has.made
    ∙ (ap (λ (n : ℕ). read 0 (drop n (has.asked ++ digits 10 number))) front
    ∙ (ap (read 0) (drop-append_seam has.asked (digits 10 number)) ∙ read_back 10 number (fits_ten number has.small)))
