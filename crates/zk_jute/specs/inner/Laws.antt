-- What is read is spelled so, and what is spelled so is read, for each layout. So no spelling begins another.
use Rattle.std.proofs.Common.{◌≡◌, ℕ, zero, suc, ◌+◌, ◌^◌, ◌<◌, ◌≤◌, Bool, true, false, cond, ltb, List, [], ◌∷◌, ◌++◌, length, get_or}
use Rattle.std.proofs.Common.{take, drop, Option, Some, None, Result, Ok, Err, refl, sym, ap, subst, ◌∙◌, append_assoc, arith, inl, inr, ℤ}
use Rattle.std.proofs.Common.{pos, negsuc}
use Rattle.std.specs.Prelude.{IfSome, FitsSigned}
use Rattle.std.specs.List.{flat_map, AllByRecursion}
use Rattle.std.specs.Int.{Width, w32, w64, byte_len, from_be_bytes, to_be_bytes, cast_signed, cast_unsigned}
use Rattle.std.specs.Str.{is_utf8}
use Rattle.std.proofs.lemmas.Bool.{cases_lt, ltb-false, le-ltb}
use Rattle.std.proofs.lemmas.List.{take_at, drop_at, take-append-drop, length-append, length-take, get_or-drop, get_or-take, get_or_past}
use Rattle.std.proofs.lemmas.List.Concat.{flat_map-cons}
use Rattle.std.proofs.lemmas.Nat.{be_bytes_4, be_bytes_8, from_be_bytes-to_be_bytes_4, from_be_bytes-to_be_bytes_8}
use Rattle.std.proofs.lemmas.Bool.Decides.{nat_tests}
use mir.Val.{bits}
use Rattle.std.proofs.Math.Facts.{sfits_to_z, Fits-of_lt}
use Rattle.std.proofs.lemmas.Int.{to_z-of_z, of_z-to_z, ints}
use Rattle.zk_jute.specs.declared.fault.TakeError.{TakeError}
use Rattle.zk_jute.specs.declared.fault.TakeError.TheVariants.{Short, BadBool, NotUtf8}
use Rattle.zk_jute.specs.Layout.{Layout, nothing, int, long, boolean, buffer, ustring, vector, ◌⨾◌, Value}
use Rattle.zk_jute.specs.Spelling.{IsBytes, int_bytes, long_bytes, boolean_bytes, counted_bytes, spelling, HasLength, Fits}
use Rattle.zk_jute.specs.inner.Spelling.{number_of}
use Rattle.zk_jute.specs.Reading.{◌>>=◌, place_of, bytes_at, int_at, long_at, boolean_of, boolean_at, length_of, length_at, unless_null}
use Rattle.zk_jute.specs.Reading.{counted_at, text_bytes_at, elements_at, reading}

-- ---- tools

IsBytes-drop : (n : ℕ) (bytes : List ℕ) → IsBytes bytes → IsBytes (drop n bytes)
IsBytes-drop n bytes h i = rw get_or-drop (h (n + i))

IsBytes-take : (n : ℕ) (bytes : List ℕ) → IsBytes bytes → IsBytes (take n bytes)
IsBytes-take n bytes h i =
    elim (cases_lt i n) [
      | inl lt ↦ rw (get_or-take n bytes i 0 lt) (h i)
      | inr le ↦ rw (get_or_past (take n bytes) i 0 (omega (arith, length-take n bytes))) (omega arith)
    ]

-- the value of a step that did not fail
pub bind_ok : {A B : Type 0} (r : Result A TakeError) (f : A → Result B TakeError) (y : B)
    → (r >>= f) ≡ Ok y → (x : A) × (r ≡ Ok x) × (f x ≡ Ok y)
bind_ok (Ok x) f y e = (x, refl, e)
bind_ok (Err d) f y e = absurd cc

-- a test that did not fail
guard_ok : {A : Type 0} (b : Bool) (d : TakeError) (x y : A) → cond b (Err d) (Ok x) ≡ Ok y → (b ≡ false) × (x ≡ y)
guard_ok true d x y e = absurd cc
guard_ok false d x y e = (refl, cc)

passed_ok : {A : Type 0} (b : Bool) (d : TakeError) (x y : A) → cond b (Ok x) (Err d) ≡ Ok y → (b ≡ true) × (x ≡ y)
passed_ok true d x y e = (refl, cc)
passed_ok false d x y e = absurd cc

abbrev pub done : {A : Type 0} → A → Result A TakeError
done x = Ok x

pub ok_is : {A : Type 0} (x y : A) → done x ≡ done y → x ≡ y
ok_is x y e = cc

-- what a reader took from the front
pub record Takes (bytes text rest : List ℕ) : Type 0 where
  pub parts : bytes ≡ text ++ rest
  pub rest_fits : IsBytes rest

Takes-then : (a x b y c : List ℕ) → Takes a x b → Takes b y c → Takes a (x ++ y) c
Takes-then a x b y c p q =
    record { parts = p.parts ∙ ap (λ (t : List ℕ). x ++ t) q.parts ∙ sym (append_assoc x y c); rest_fits = q.rest_fits }

-- ---- bytes

bytes_take : (count end : ℕ) (bytes text rest : List ℕ) → IsBytes bytes → bytes_at count end bytes ≡ Ok (text, rest)
    → Takes bytes text rest × (length text ≡ count) × IsBytes text
unfolding bytes_at
bytes_take count end bytes text rest fits e =
    let g = guard_ok (ltb (length bytes) count) (Short (place_of end bytes)) (take count bytes, drop count bytes) (text, rest) e in
    let long_enough : count ≤ length bytes = ltb-false _ _ g.0 in
    let len : length (take count bytes) ≡ count = omega (arith, length-take count bytes) in
    subst (λ (p : List ℕ × List ℕ). Takes bytes p.0 p.1 × (length p.0 ≡ count) × IsBytes p.0) g.1
    (record { parts = sym (take-append-drop count bytes); rest_fits = IsBytes-drop count bytes fits }, len, IsBytes-take count bytes fits)

bytes_again : (end : ℕ) (text rest : List ℕ) (count : ℕ) → length text ≡ count → bytes_at count end (text ++ rest) ≡ Ok (text, rest)
unfolding bytes_at
bytes_again end text rest count len =
    let long_enough : ltb (length (text ++ rest)) count ≡ false = le-ltb _ _ (omega (arith, length-append text rest)) in
    rw (long_enough, take_at text rest count len, drop_at text rest count len) refl

-- ---- numbers

record IsWide (w : Width) : Type 0 where
  len : (n : ℕ) → length (to_be_bytes w n) ≡ byte_len w
  back : (bytes : List ℕ) → length bytes ≡ byte_len w → IsBytes bytes → to_be_bytes w (from_be_bytes w bytes) ≡ bytes
  again : (n : ℕ) → n < 2 ^ bits w → from_be_bytes w (to_be_bytes w n) ≡ n
  below : (bytes : List ℕ) → IsBytes bytes → from_be_bytes w bytes < 2 ^ bits w
  cast : (z : ℤ) → FitsSigned w z → cast_unsigned w z < 2 ^ bits w

wide32 : IsWide w32
wide32 = record {
  len = λ n. refl;
  back = λ bytes len fits. be_bytes_4 bytes _ len fits refl;
  again = λ n lt. from_be_bytes-to_be_bytes_4 n lt;
  below = λ bytes fits. omega (arith, fits 0, fits 1, fits 2, fits 3);
  cast = λ z fits. omega (arith, ints);
}

wide64 : IsWide w64
wide64 = record {
  len = λ n. refl;
  back = λ bytes len fits. be_bytes_8 bytes _ len fits refl;
  again = λ n lt. from_be_bytes-to_be_bytes_8 n lt;
  below = λ bytes fits. omega (arith, fits 0, fits 1, fits 2, fits 3, fits 4, fits 5, fits 6, fits 7);
  cast = λ z fits. omega (arith, ints);
}

abbrev signed_bytes : Width → ℤ → List ℕ
signed_bytes w z = to_be_bytes w (cast_unsigned w z)

abbrev signed_at : Width → ℕ → List ℕ → Result (ℤ × List ℕ) TakeError
signed_at w end bytes = bytes_at (byte_len w) end bytes >>= λ found. Ok (cast_signed w (from_be_bytes w found.0), found.1)

signed_takes : (w : Width) (wide : IsWide w) (end : ℕ) (bytes : List ℕ) (z : ℤ) (rest : List ℕ)
    → IsBytes bytes → signed_at w end bytes ≡ Ok (z, rest) → Takes bytes (signed_bytes w z) rest × FitsSigned w z
signed_takes w wide end bytes z rest fits e =
    let a = bind_ok (bytes_at (byte_len w) end bytes) (λ found. Ok (cast_signed w (from_be_bytes w found.0), found.1)) (z, rest) e in
    let t = bytes_take (byte_len w) end bytes a.0.0 a.0.1 fits a.1 in
    let n : ℕ = from_be_bytes w a.0.0 in
    let below : n < 2 ^ bits w = wide.below a.0.0 t.2 in
    let text : signed_bytes w (cast_signed w n) ≡ a.0.0 = ap (to_be_bytes w) (of_z-to_z w n below) ∙ wide.back a.0.0 t.1 t.2 in
    let taken : Takes bytes (signed_bytes w (cast_signed w n)) a.0.1 = rw text t.0 in
    subst (λ (p : ℤ × List ℕ). Takes bytes (signed_bytes w p.0) p.1 × FitsSigned w p.0) (ok_is (cast_signed w n, a.0.1) (z, rest) a.2)
    (taken, sfits_to_z (Fits-of_lt below))

signed_again : (w : Width) (wide : IsWide w) (end : ℕ) (z : ℤ) (rest : List ℕ)
    → FitsSigned w z → signed_at w end (signed_bytes w z ++ rest) ≡ Ok (z, rest)
signed_again w wide end z rest fits =
    let below : cast_unsigned w z < 2 ^ bits w = wide.cast z fits in
    let back : from_be_bytes w (signed_bytes w z) ≡ cast_unsigned w z = wide.again (cast_unsigned w z) below in
    let same : cast_signed w (from_be_bytes w (signed_bytes w z)) ≡ z = ap (cast_signed w) back ∙ to_z-of_z w z fits in
    ap (λ r. r >>= λ found. Ok (cast_signed w (from_be_bytes w found.0), found.1))
    (bytes_again end (signed_bytes w z) rest (byte_len w) (wide.len (cast_unsigned w z)))
    ∙ ap (λ n. done (n, rest)) same

int_takes : (end : ℕ) (bytes : List ℕ) (z : ℤ) (rest : List ℕ) → IsBytes bytes → int_at end bytes ≡ Ok (z, rest)
    → Takes bytes (int_bytes z) rest × FitsSigned w32 z
unfolding int_at int_bytes
int_takes = signed_takes w32 wide32

int_again : (end : ℕ) (z : ℤ) (rest : List ℕ) → FitsSigned w32 z → int_at end (int_bytes z ++ rest) ≡ Ok (z, rest)
unfolding int_at int_bytes
int_again = signed_again w32 wide32

long_takes : (end : ℕ) (bytes : List ℕ) (z : ℤ) (rest : List ℕ) → IsBytes bytes → long_at end bytes ≡ Ok (z, rest)
    → Takes bytes (long_bytes z) rest × FitsSigned w64 z
unfolding long_at long_bytes
long_takes = signed_takes w64 wide64

long_again : (end : ℕ) (z : ℤ) (rest : List ℕ) → FitsSigned w64 z → long_at end (long_bytes z ++ rest) ≡ Ok (z, rest)
unfolding long_at long_bytes
long_again = signed_again w64 wide64

-- ---- booleans

one_byte : (bytes : List ℕ) → length bytes ≡ 1 → bytes ≡ get_or bytes 0 0 ∷ []
one_byte [] len = absurd (omega arith)
one_byte (b ∷ []) len = refl
one_byte (b ∷ c ∷ bytes) len = absurd (omega arith)

boolean_of_other : (place byte : ℕ) → 2 ≤ byte → boolean_of place byte ≡ Err (BadBool place)
boolean_of_other place byte le = grind (arith, nat_tests)

boolean_is : (place byte : ℕ) (value : Bool) → boolean_of place byte ≡ Ok value → boolean_bytes value ≡ byte ∷ []
boolean_is place zero value e = ap boolean_bytes (sym (ok_is false value e))
boolean_is place (suc zero) value e = ap boolean_bytes (sym (ok_is true value e))
boolean_is place (suc (suc b)) value e = let refused = boolean_of_other place (suc (suc b)) (omega arith) in absurd (cc (e, refused))

boolean_takes : (end : ℕ) (bytes : List ℕ) (value : Bool) (rest : List ℕ) → IsBytes bytes → boolean_at end bytes ≡ Ok (value, rest)
    → Takes bytes (boolean_bytes value) rest
unfolding boolean_at
boolean_takes end bytes value rest fits e =
    let a = bind_ok (bytes_at 1 end bytes)
    (λ one. boolean_of (place_of end bytes) (get_or one.0 0 0) >>= λ found. Ok (found, one.1)) (value, rest) e in
    let b = bind_ok (boolean_of (place_of end bytes) (get_or a.0.0 0 0)) (λ found. Ok (found, a.0.1)) (value, rest) a.2 in
    let t = bytes_take 1 end bytes a.0.0 a.0.1 fits a.1 in
    let text : boolean_bytes b.0 ≡ a.0.0 = boolean_is (place_of end bytes) (get_or a.0.0 0 0) b.0 b.1 ∙ sym (one_byte a.0.0 t.1) in
    let taken : Takes bytes (boolean_bytes b.0) a.0.1 = rw text t.0 in
    subst (λ (p : Bool × List ℕ). Takes bytes (boolean_bytes p.0) p.1) (ok_is (b.0, a.0.1) (value, rest) b.2) taken

boolean_again : (end : ℕ) (value : Bool) (rest : List ℕ) → boolean_at end (boolean_bytes value ++ rest) ≡ Ok (value, rest)
unfolding boolean_at
boolean_again end false rest = rw (bytes_again end (0 ∷ []) rest 1 refl) refl
boolean_again end true rest = rw (bytes_again end (1 ∷ []) rest 1 refl) refl

-- ---- lengths and counts

length_of_is : (place : ℕ) (z : ℤ) (count : Option ℕ) → length_of place z ≡ Ok count → z ≡ number_of count
unfolding length_of
length_of_is place (pos n) count e = ap number_of (ok_is (Some n) count e)
length_of_is place (negsuc zero) count e = ap number_of (ok_is None count e)
length_of_is place (negsuc (suc n)) count e = absurd cc

length_of_again : (place : ℕ) (count : Option ℕ) → length_of place (number_of count) ≡ Ok count
unfolding length_of
length_of_again place None = refl
length_of_again place (Some n) = refl

IsCount : Option ℕ → Type 0
IsCount count = IfSome count (λ n. n < 2 ^ 31)

count_from_fits : (count : Option ℕ) → FitsSigned w32 (number_of count) → IsCount count
unfolding IsCount
count_from_fits None fits = tt
count_from_fits (Some n) fits = omega (arith, ints)

fits_from_count : (count : Option ℕ) → IsCount count → FitsSigned w32 (number_of count)
unfolding IsCount
fits_from_count None small = omega (arith, ints)
fits_from_count (Some n) small = omega (arith, ints)

length_takes : (end : ℕ) (bytes : List ℕ) (count : Option ℕ) (rest : List ℕ) → IsBytes bytes → length_at end bytes ≡ Ok (count, rest)
    → Takes bytes (int_bytes (number_of count)) rest × IsCount count
unfolding length_at
length_takes end bytes count rest fits e =
    let a =
    bind_ok (int_at end bytes) (λ number. length_of (place_of end bytes) number.0 >>= λ found. Ok (found, number.1)) (count, rest) e in
    let b = bind_ok (length_of (place_of end bytes) a.0.0) (λ found. Ok (found, a.0.1)) (count, rest) a.2 in
    let t = int_takes end bytes a.0.0 a.0.1 fits a.1 in
    let z : a.0.0 ≡ number_of b.0 = length_of_is (place_of end bytes) a.0.0 b.0 b.1 in
    let both : Takes bytes (int_bytes (number_of b.0)) a.0.1 × FitsSigned w32 (number_of b.0) = rw (← z) t in
    subst (λ (p : Option ℕ × List ℕ). Takes bytes (int_bytes (number_of p.0)) p.1 × IsCount p.0) (ok_is (b.0, a.0.1) (count, rest) b.2)
    (both.0, count_from_fits b.0 both.1)

length_again : (end : ℕ) (count : Option ℕ) (rest : List ℕ)
    → IsCount count → length_at end (int_bytes (number_of count) ++ rest) ≡ Ok (count, rest)
unfolding length_at
length_again end count rest small =
    let place : ℕ = place_of end (int_bytes (number_of count) ++ rest) in
    ap (λ r. r >>= λ number. length_of place number.0 >>= λ found. Ok (found, number.1))
    (int_again end (number_of count) rest (fits_from_count count small))
    ∙ ap (λ r. r >>= λ found. Ok (found, rest)) (length_of_again place count)

-- ---- what stands after a length or a count

-- what is known of the contents that a reader finds
record ReadsContents {X : Type 0} (text : List X → List ℕ) (IsGood : List X → Type 0)
    (read : ℕ → List ℕ → Result (List X × List ℕ) TakeError) : Type 0 where
  takes : (count : ℕ) (bytes : List ℕ) (found : List X × List ℕ)
      → IsBytes bytes → read count bytes ≡ Ok found → Takes bytes (text found.0) found.1 × (length found.0 ≡ count) × IsGood found.0
  again : (values : List X) (rest : List ℕ) → IsGood values → read (length values) (text values ++ rest) ≡ Ok (values, rest)

abbrev IsCounted : {X : Type 0} → (List X → Type 0) → Option (List X) → Type 0
IsCounted IsGood values = IfSome values (λ xs. HasLength xs × IsGood xs)

unless_null_takes : {X : Type 0} (text : List X → List ℕ) (IsGood : List X → Type 0)
    (read : ℕ → List ℕ → Result (List X × List ℕ) TakeError) → ReadsContents text IsGood read
    → (count : Option ℕ) (start bytes : List ℕ) (found : Option (List X) × List ℕ) → Takes start (int_bytes (number_of count)) bytes
    → IsCount count → unless_null read count bytes ≡ Ok found
    → Takes start (counted_bytes text found.0) found.1 × IsCounted IsGood found.0
unfolding counted_bytes IsCount
unless_null_takes {X} text IsGood read reads None start bytes found taken small e =
    subst (λ (p : Option (List X) × List ℕ). Takes start (counted_bytes text p.0) p.1 × IsCounted IsGood p.0)
    (ok_is (None, bytes) found e) (taken, tt)
unless_null_takes {X} text IsGood read reads (Some count) start bytes found taken small e =
    let a = bind_ok (read count bytes) (λ x. Ok (Some x.0, x.1)) found e in
    let t = reads.takes count bytes a.0 taken.rest_fits a.1 in
    let counted : Takes start (int_bytes (pos (length a.0.0))) bytes = rw t.1 taken in
    let small_too : length a.0.0 < 2 ^ 31 = rw t.1 small in
    subst (λ (p : Option (List X) × List ℕ). Takes start (counted_bytes text p.0) p.1 × IsCounted IsGood p.0)
    (ok_is (Some a.0.0, a.0.1) found a.2)
    (Takes-then start (int_bytes (pos (length a.0.0))) bytes (text a.0.0) a.0.1 counted t.0, (small_too, t.2))

counted_takes : {X : Type 0} (text : List X → List ℕ) (IsGood : List X → Type 0) (read : ℕ → List ℕ → Result (List X × List ℕ) TakeError)
    → ReadsContents text IsGood read
    → (end : ℕ) (bytes : List ℕ) (found : Option (List X) × List ℕ) → IsBytes bytes → counted_at read end bytes ≡ Ok found
    → Takes bytes (counted_bytes text found.0) found.1 × IsCounted IsGood found.0
unfolding counted_at
counted_takes text IsGood read reads end bytes found fits e =
    let a = bind_ok (length_at end bytes) (λ count. unless_null read count.0 count.1) found e in
    let t = length_takes end bytes a.0.0 a.0.1 fits a.1 in
    unless_null_takes text IsGood read reads a.0.0 bytes a.0.1 found t.0 t.1 a.2

counted_again : {X : Type 0} (text : List X → List ℕ) (IsGood : List X → Type 0) (read : ℕ → List ℕ → Result (List X × List ℕ) TakeError)
    → ReadsContents text IsGood read
    → (end : ℕ) (values : Option (List X)) (rest : List ℕ) → IsCounted IsGood values
    → counted_at read end (counted_bytes text values ++ rest) ≡ Ok (values, rest)
unfolding counted_at counted_bytes IsCount
counted_again {X} text IsGood read reads end None rest good =
    ap (λ (r : Result (Option ℕ × List ℕ) TakeError). r >>= λ count. unless_null read count.0 count.1) (length_again end None rest tt)
counted_again {X} text IsGood read reads end (Some values) rest good =
    let regrouped = append_assoc (int_bytes (pos (length values))) (text values) rest in
    let behind : unless_null read (Some (length values)) (text values ++ rest) ≡ Ok (Some values, rest) =
    ap (λ (r : Result (List X × List ℕ) TakeError). r >>= λ x. Ok (Some x.0, x.1)) (reads.again values rest good.1) in
    ap (λ bytes. length_at end bytes >>= λ count. unless_null read count.0 count.1) regrouped
    ∙ ap (λ (r : Result (Option ℕ × List ℕ) TakeError). r >>= λ count. unless_null read count.0 count.1)
    (length_again end (Some (length values)) (text values ++ rest) good.0)
    ∙ behind

-- ---- contents

abbrev IsAny : {X : Type 0} → List X → Type 0
IsAny xs = Unit {0}

bytes_read : (end : ℕ) → ReadsContents (λ (bytes : List ℕ). bytes) IsAny (λ n rest. bytes_at n end rest)
bytes_read end = record {
  takes = λ count bytes found fits e. let t = bytes_take count end bytes found.0 found.1 fits e in (t.0, t.1, tt);
  again = λ values rest good. bytes_again end values rest (length values) refl;
}

abbrev IsText : List ℕ → Type 0
IsText bytes = is_utf8 bytes ≡ true

text_takes : (end count : ℕ) (bytes : List ℕ) (found : List ℕ × List ℕ)
    → IsBytes bytes → text_bytes_at count end bytes ≡ Ok found → Takes bytes found.0 found.1 × (length found.0 ≡ count) × IsText found.0
unfolding text_bytes_at
text_takes end count bytes found fits e =
    let a = bind_ok (bytes_at count end bytes) (λ text. cond (is_utf8 text.0) (Ok text) (Err (NotUtf8 (place_of end bytes)))) found e in
    let g = passed_ok (is_utf8 a.0.0) (NotUtf8 (place_of end bytes)) a.0 found a.2 in
    let t = bytes_take count end bytes a.0.0 a.0.1 fits a.1 in
    subst (λ (p : List ℕ × List ℕ). Takes bytes p.0 p.1 × (length p.0 ≡ count) × IsText p.0) g.1 (t.0, t.1, g.0)

text_again : (end : ℕ) (text rest : List ℕ) → IsText text → text_bytes_at (length text) end (text ++ rest) ≡ Ok (text, rest)
unfolding text_bytes_at
text_again end text rest good = rw (bytes_again end text rest (length text) refl, good) refl

text_read : (end : ℕ) → ReadsContents (λ (bytes : List ℕ). bytes) IsText (λ n rest. text_bytes_at n end rest)
text_read end = record {
  takes = λ count bytes found fits e. text_takes end count bytes found fits e;
  again = λ values rest good. text_again end values rest good;
}

-- What a reader finds is spelled so, and what is spelled so it finds.
pub record Reads {V : Type 0} (text : V → List ℕ) (IsGood : V → Type 0) (read : List ℕ → Result (V × List ℕ) TakeError) : Type 0 where
  pub takes : (bytes : List ℕ) (found : V × List ℕ)
      → IsBytes bytes → read bytes ≡ Ok found → Takes bytes (text found.0) found.1 × IsGood found.0
  pub again : (value : V) (rest : List ℕ) → IsGood value → read (text value ++ rest) ≡ Ok (value, rest)

elements_take : {V : Type 0} (text : V → List ℕ) (IsGood : V → Type 0) (read : List ℕ → Result (V × List ℕ) TakeError)
    → Reads text IsGood read
    → (count : ℕ) (bytes : List ℕ) (found : List V × List ℕ) → IsBytes bytes → elements_at read count bytes ≡ Ok found
    → Takes bytes (flat_map text found.0) found.1 × (length found.0 ≡ count) × AllByRecursion IsGood found.0
unfolding elements_at
elements_take {V} text IsGood read reads zero bytes found fits e =
    subst (λ (p : List V × List ℕ). Takes bytes (flat_map text p.0) p.1 × (length p.0 ≡ 0) × AllByRecursion IsGood p.0)
    (ok_is ([], bytes) found e) (record { parts = refl; rest_fits = fits }, refl, tt)
elements_take {V} text IsGood read reads (suc n) bytes found fits e =
    let a = bind_ok (read bytes) (λ first. elements_at read n first.1 >>= λ others. Ok (first.0 ∷ others.0, others.1)) found e in
    let b = bind_ok (elements_at read n a.0.1) (λ others. Ok (a.0.0 ∷ others.0, others.1)) found a.2 in
    let first = reads.takes bytes a.0 fits a.1 in
    let second = elements_take text IsGood read reads n a.0.1 b.0 first.0.rest_fits b.1 in
    let both = Takes-then bytes (text a.0.0) a.0.1 (flat_map text b.0.0) b.0.1 first.0 second.0 in
    subst (λ (p : List V × List ℕ). Takes bytes (flat_map text p.0) p.1 × (length p.0 ≡ suc n) × AllByRecursion IsGood p.0)
    (ok_is (a.0.0 ∷ b.0.0, b.0.1) found b.2)
    (rw flat_map-cons both, ap suc second.1, (first.1, second.2))

elements_again : {V : Type 0} (text : V → List ℕ) (IsGood : V → Type 0) (read : List ℕ → Result (V × List ℕ) TakeError)
    → Reads text IsGood read
    → (values : List V) (rest : List ℕ) → AllByRecursion IsGood values
    → elements_at read (length values) (flat_map text values ++ rest) ≡ Ok (values, rest)
unfolding elements_at
elements_again text IsGood read reads [] rest good = refl
elements_again {V} text IsGood read reads (v ∷ vs) rest good =
    let regrouped : flat_map text (v ∷ vs) ++ rest ≡ text v ++ (flat_map text vs ++ rest) =
    ap (λ (x : List ℕ). x ++ rest) (flat_map-cons text v vs) ∙ append_assoc (text v) (flat_map text vs) rest in
    ap (elements_at read (suc (length vs))) regrouped
    ∙ ap (λ (r : Result (V × List ℕ) TakeError). r >>= λ first. elements_at read (length vs) first.1
    >>= λ others. Ok (first.0 ∷ others.0, others.1)) (reads.again v (flat_map text vs ++ rest) good.0)
    ∙ ap (λ (r : Result (List V × List ℕ) TakeError). r >>= λ others. Ok (v ∷ others.0, others.1))
    (elements_again text IsGood read reads vs rest good.1)

elements_read : {V : Type 0} (text : V → List ℕ) (IsGood : V → Type 0) (read : List ℕ → Result (V × List ℕ) TakeError)
    → Reads text IsGood read
    → ReadsContents (flat_map text) (AllByRecursion IsGood) (elements_at read)
elements_read text IsGood read reads = record {
  takes = λ count bytes found fits e. elements_take text IsGood read reads count bytes found fits e;
  again = λ values rest good. elements_again text IsGood read reads values rest good;
}

any_from : {X : Type 0} (values : Option (List X)) → IfSome values HasLength → IsCounted IsAny values
any_from None small = tt
any_from (Some xs) small = (small, tt)

from_any : {X : Type 0} (values : Option (List X)) → IsCounted IsAny values → IfSome values HasLength
from_any None small = tt
from_any (Some xs) small = small.0

-- ---- one field after another

joined_read : {A B : Type 0} (text_a : A → List ℕ) (text_b : B → List ℕ) (IsGoodA : A → Type 0) (IsGoodB : B → Type 0)
    (read_a : List ℕ → Result (A × List ℕ) TakeError) (read_b : List ℕ → Result (B × List ℕ) TakeError) → Reads text_a IsGoodA read_a
    → Reads text_b IsGoodB read_b
    → Reads (λ (v : A × B). text_a v.0 ++ text_b v.1) (λ (v : A × B). IsGoodA v.0 × IsGoodB v.1)
    (λ bytes. read_a bytes >>= λ front. read_b front.1 >>= λ back. Ok ((front.0, back.0), back.1))
joined_read {A} {B} text_a text_b IsGoodA IsGoodB read_a read_b reads_a reads_b = record {
  takes = λ bytes found fits e.
      let a = bind_ok (read_a bytes) (λ front. read_b front.1 >>= λ back. Ok ((front.0, back.0), back.1)) found e in
      let b = bind_ok (read_b a.0.1) (λ back. Ok ((a.0.0, back.0), back.1)) found a.2 in
      let first = reads_a.takes bytes a.0 fits a.1 in
      let second = reads_b.takes a.0.1 b.0 first.0.rest_fits b.1 in
      let both = Takes-then bytes (text_a a.0.0) a.0.1 (text_b b.0.0) b.0.1 first.0 second.0 in
      subst (λ (p : (A × B) × List ℕ). Takes bytes (text_a p.0.0 ++ text_b p.0.1) p.1 × (IsGoodA p.0.0 × IsGoodB p.0.1))
      (ok_is ((a.0.0, b.0.0), b.0.1) found b.2) (both, (first.1, second.1));
  again = λ value rest good.
      ap (λ bytes. read_a bytes >>= λ front. read_b front.1 >>= λ back. Ok ((front.0, back.0), back.1))
      (append_assoc (text_a value.0) (text_b value.1) rest)
      ∙ ap (λ (r : Result (A × List ℕ) TakeError). r >>= λ front. read_b front.1 >>= λ back. Ok ((front.0, back.0), back.1))
      (reads_a.again value.0 (text_b value.1 ++ rest) good.0)
      ∙ ap (λ (r : Result (B × List ℕ) TakeError). r >>= λ back. Ok ((value.0, back.0), back.1)) (reads_b.again value.1 rest good.1);
}

-- ---- every layout

counted_read : {X : Type 0} (text : List X → List ℕ) (IsGood : List X → Type 0) (read : ℕ → List ℕ → Result (List X × List ℕ) TakeError)
    → ReadsContents text IsGood read
    → (end : ℕ) → Reads (counted_bytes text) (IsCounted IsGood) (counted_at read end)
counted_read text IsGood read reads end = record {
  takes = λ bytes found fits e. counted_takes text IsGood read reads end bytes found fits e;
  again = λ values rest good. counted_again text IsGood read reads end values rest good;
}

-- each layout is read as it is spelled
pub reads : (layout : Layout) (end : ℕ) → Reads (spelling layout) (Fits layout) (reading layout end)
reads nothing end = record {
  takes = λ bytes found fits e. subst (λ (p : Unit {0} × List ℕ). Takes bytes [] p.1 × Unit {0}) (ok_is (tt, bytes) found e)
      (record { parts = refl; rest_fits = fits }, tt);
  again = λ value rest good. refl;
}
reads int end = record {
  takes = λ bytes found fits e. int_takes end bytes found.0 found.1 fits e;
  again = λ value rest good. int_again end value rest good;
}
reads long end = record {
  takes = λ bytes found fits e. long_takes end bytes found.0 found.1 fits e;
  again = λ value rest good. long_again end value rest good;
}
reads boolean end = record {
  takes = λ bytes found fits e. (boolean_takes end bytes found.0 found.1 fits e, tt);
  again = λ value rest good. boolean_again end value rest;
}
reads buffer end =
    let counted = counted_read (λ (bytes : List ℕ). bytes) IsAny (λ n rest. bytes_at n end rest) (bytes_read end) end in
    record {
      takes = λ bytes found fits e. let t = counted.takes bytes found fits e in (t.0, from_any found.0 t.1);
      again = λ value rest good. counted.again value rest (any_from value good);
    }
reads ustring end = counted_read (λ (bytes : List ℕ). bytes) IsText (λ n rest. text_bytes_at n end rest) (text_read end) end
reads (vector element) end = counted_read (flat_map (spelling element)) (AllByRecursion (Fits element)) (elements_at (reading element end))
    (elements_read (spelling element) (Fits element) (reading element end) (reads element end)) end
reads (first ⨾ second) end = joined_read (spelling first) (spelling second) (Fits first) (Fits second) (reading first end)
    (reading second end) (reads first end) (reads second end)

-- No spelling begins another: where two begin the same bytes, they spell one value.
pub one_spelling : (layout : Layout) (a b : Value layout) (x y : List ℕ)
    → Fits layout a → Fits layout b → spelling layout a ++ x ≡ spelling layout b ++ y → (a ≡ b) × (x ≡ y)
one_spelling layout a b x y fits_a fits_b e =
    let same : done (a, x) ≡ done (b, y) =
    sym ((reads layout 0).again a x fits_a) ∙ ap (reading layout 0) e ∙ (reads layout 0).again b y fits_b in
    let pairs : (a, x) ≡ (b, y) = ok_is (a, x) (b, y) same in
    (ap (λ (p : Value layout × List ℕ). p.0) pairs, ap (λ (p : Value layout × List ℕ). p.1) pairs)
