-- From the mask of bytes that are looked at together to each of them.
use Rattle.std.proofs.Common.{◌≡◌, ℕ, zero, suc, ◌+◌, ◌-◌, ◌%◌, ◌^◌, ◌<◌, ◌≤◌, Bool, true, false, ◌&&◌, ◌||◌, cond, eqb, ltb, bit_and}
use Rattle.std.proofs.Common.{bit_or, List, [], ◌∷◌, map, length, get_or, replicate, refl, sym, ap, ap₂, ◌∙◌, arith}
use Rattle.std.proofs.lemmas.Bool.Decides.{nat_tests}
use Rattle.std.proofs.lemmas.Simd.{mask_l-mod, length-chunk, get_or-chunk, length-zip2}
use Rattle.std.proofs.lemmas.List.{length-map}
use Rattle.zk_nodes.specs.inner.Plain.{may_follow, ArePlain}
use lib.Lanes.{chunk, zip2, mask_l, top}

-- a lane of a comparison
abbrev set : Bool → ℕ
set b = cond b 255 0

abbrev stops : ℕ → ℕ → Bool
stops byte before = (ltb byte 32 || ltb 126 byte) || ((eqb byte 46 || eqb byte 47) && eqb before 47)

either : (a b : Bool) → bit_or (set a) (set b) ≡ set (a || b)
either true true = refl
either true false = refl
either false true = refl
either false false = refl

both : (a b : Bool) → bit_and (set a) (set b) ≡ set (a && b)
both true true = refl
both true false = refl
both false true = refl
both false false = refl

top_set : (b : Bool) → top 7 (set b) ≡ b
top_set true = refl
top_set false = refl

-- what the vectors of the code are, by the bytes and those before them
abbrev pub lanes : List ℕ → List ℕ → ℕ → List ℕ
lanes bytes before n =
    zip2 bit_or (zip2 bit_or (zip2 (λ a b. set (ltb a b)) bytes (replicate n 32)) (zip2 (λ a b. set (ltb a b)) (replicate n 126) bytes))
    (zip2 bit_and (zip2 bit_or (zip2 (λ a b. set (eqb a b)) bytes (replicate n 46)) (zip2 (λ a b. set (eqb a b)) bytes (replicate n 47)))
    (zip2 (λ a b. set (eqb a b)) before (replicate n 47)))

lane : (x y : ℕ) → bit_or (bit_or (set (ltb x 32)) (set (ltb 126 x)))
    (bit_and (bit_or (set (eqb x 46)) (set (eqb x 47))) (set (eqb y 47))) ≡ set (stops x y)
lane x y =
    ap₂ bit_or (either (ltb x 32) (ltb 126 x))
    (ap (λ v. bit_and v (set (eqb y 47))) (either (eqb x 46) (eqb x 47)) ∙ both (eqb x 46 || eqb x 47) (eqb y 47))
    ∙ either (ltb x 32 || ltb 126 x) ((eqb x 46 || eqb x 47) && eqb y 47)

lanes_are : (bytes before : List ℕ) (n : ℕ)
    → length bytes ≡ n → length before ≡ n → lanes bytes before n ≡ zip2 (λ x y. set (stops x y)) bytes before
lanes_are [] before n p q = refl
lanes_are (x ∷ xs) [] n p q = absurd (omega (arith, p, q))
lanes_are (x ∷ xs) (y ∷ ys) zero p q = absurd (omega (arith, p))
lanes_are (x ∷ xs) (y ∷ ys) (suc n) p q = ap₂ (λ b bs. b ∷ bs) (lane x y) (lanes_are xs ys n (omega (arith, p)) (omega (arith, q)))

none_set : (ms : List Bool) → mask_l ms ≡ 0 → (k : ℕ) → get_or ms k false ≡ false
none_set [] e k = refl
none_set (true ∷ ms) e k = absurd (omega (arith, e))
none_set (false ∷ ms) e zero = refl
none_set (false ∷ ms) e (suc k) = none_set ms (omega (arith, e)) k

lane_at : (bytes before : List ℕ) (k : ℕ) → k < length bytes → k < length before
    → get_or (map (top 7) (zip2 (λ x y. set (stops x y)) bytes before)) k false ≡ stops (get_or bytes k 0) (get_or before k 0)
lane_at [] before k l m = absurd (omega (arith, l))
lane_at (x ∷ xs) [] k l m = absurd (omega (arith, m))
lane_at (x ∷ xs) (y ∷ ys) zero l m = top_set (stops x y)
lane_at (x ∷ xs) (y ∷ ys) (suc k) l m = lane_at xs ys k (omega (arith, l)) (omega (arith, m))

goes_on : (x y : ℕ) → stops x y ≡ false → may_follow y x ≡ true
goes_on x y e = grind (arith, nat_tests, e)

-- where no bit is set, each byte may follow the one before it
pub unset_are_plain : (text : List ℕ) (at n : ℕ) → 0 < at → at + n ≤ length text → n ≤ 64
    → mask_l (map (top 7) (lanes (chunk at n text) (chunk (at - 1) n text) n)) % 2 ^ 64 ≡ 0 → ArePlain text at (at + n)
unset_are_plain text at n some room few none = λ k from to.
    let bytes = chunk at n text in
    let before = chunk (at - 1) n text in
    let p : length bytes ≡ n = length-chunk at n text room in
    let q : length before ≡ n = length-chunk (at - 1) n text (omega arith) in
    let ms = map (top 7) (zip2 (λ x y. set (stops x y)) bytes before) in
    let long : length ms ≤ 64 = omega (
      arith,
      length-map (zip2 (λ x y. set (stops x y)) bytes before) (top 7),
      length-zip2 (λ x y. set (stops x y)) bytes before (p ∙ sym q),
      p,
      few,
    ) in
    let empty : mask_l ms ≡ 0 =
    sym (mask_l-mod ms 64 long) ∙ ap (λ l. mask_l (map (top 7) l) % 2 ^ 64) (sym (lanes_are bytes before n p q)) ∙ none in
    let off = sym (lane_at bytes before (k - at) (omega (arith, p)) (omega (arith, q))) ∙ none_set ms empty (k - at) in
    let byte : get_or bytes (k - at) 0 ≡ get_or text k 0 =
    get_or-chunk at n text (k - at) 0 (omega arith) ∙ ap (λ j. get_or text j 0) (omega arith) in
    let last : get_or before (k - at) 0 ≡ get_or text (k - 1) 0 =
    get_or-chunk (at - 1) n text (k - at) 0 (omega arith) ∙ ap (λ j. get_or text j 0) (omega arith) in
    goes_on (get_or text k 0) (get_or text (k - 1) 0) (ap₂ stops (sym byte) (sym last) ∙ off)
