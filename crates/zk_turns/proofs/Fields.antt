-- What is read of a payload is in the range of its fields, whatever its bytes are, and no longer than the payload: field by field, along
-- the layouts of a header and a response.
use Rattle.std.proofs.Common.{◌≡◌, ℕ, ℤ, pos, negsuc, suc, ◌-◌, ◌<◌, ◌≤◌, ◌^◌, Bool, true, false, cond, ltb, List, length, take, drop}
use Rattle.std.proofs.Common.{Option, Some, None, Ok, Err, refl, subst, arith, length-drop, length-take, ltb-false, ltb-true}
use Rattle.std.specs.Prelude.{FitsSigned}
use Rattle.std.specs.Int.{w32, w64, from_be_bytes, cast_signed}
use mir.Val.{sel}
use Rattle.zk_jute.specs.declared.fault.TakeError.{TakeError}
use Rattle.zk_jute.specs.declared.fault.TakeError.TheVariants.{Short}
use Rattle.zk_jute.specs.Layout.{Layout, int, long, buffer, ◌⨾◌, Value}
use Rattle.zk_jute.specs.Lenient.{or_empty}
use Rattle.zk_jute.specs.Reading.{◌>>=◌, place_of, bytes_at, int_at, long_at, length_of, length_at, unless_null, counted_at, reading}
use Rattle.zk_jute.specs.inner.Laws.{bind_ok, ok_is}
use Rattle.zk_records.specs.Layouts.{reply_header, connect_response_front}
use Rattle.zk_records.specs.Response.{Response, flag_at, response_at}
use Rattle.zk_conversation.specs.Results.{response_session, response_password}

-- ---- numbers

signed_by : (n : ℕ) (b : Bool) → ltb n (2 ^ 63) ≡ b → FitsSigned w64 (sel b (pos n) (negsuc (2 ^ 64 - suc n)))
signed_by n true e = let l : n < 2 ^ 63 = ltb-true n (2 ^ 63) e in record { sfits = l }
signed_by n false e = let l : 2 ^ 63 ≤ n = ltb-false n (2 ^ 63) e in record { sfits = omega arith }

-- bits read with their sign are in range, too many bits too
signed_fits : (n : ℕ) → FitsSigned w64 (cast_signed w64 n)
signed_fits n = signed_by n (ltb n (2 ^ 63)) refl

-- ---- fields

guard_ok : {A : Type 0} (b : Bool) (d : TakeError) (x y : A) → cond b (Err d) (Ok x) ≡ Ok y → x ≡ y
guard_ok true d x y e = absurd cc
guard_ok false d x y e = cc

bytes_ok : (count end : ℕ) (bytes : List ℕ) (found : List ℕ × List ℕ)
    → bytes_at count end bytes ≡ Ok found → (length found.0 ≤ length bytes) × (length found.1 ≤ length bytes)
unfolding bytes_at
bytes_ok count end bytes found e =
    let g = guard_ok (ltb (length bytes) count) (Short (place_of end bytes)) (take count bytes, drop count bytes) found e in
    subst (λ (p : List ℕ × List ℕ). (length p.0 ≤ length bytes) × (length p.1 ≤ length bytes)) g
    (omega (arith, length-take count bytes), omega (arith, length-drop count bytes))

int_ok : (end : ℕ) (bytes : List ℕ) (found : ℤ × List ℕ) → int_at end bytes ≡ Ok found → length found.1 ≤ length bytes
unfolding int_at
int_ok end bytes found e =
    let a = bind_ok (bytes_at 4 end bytes) (λ four. Ok (cast_signed w32 (from_be_bytes w32 four.0), four.1)) found e in
    let b = bytes_ok 4 end bytes a.0 a.1 in
    subst (λ (p : ℤ × List ℕ). length p.1 ≤ length bytes) (ok_is (cast_signed w32 (from_be_bytes w32 a.0.0), a.0.1) found a.2) b.1

long_ok : (end : ℕ) (bytes : List ℕ) (found : ℤ × List ℕ)
    → long_at end bytes ≡ Ok found → FitsSigned w64 found.0 × (length found.1 ≤ length bytes)
unfolding long_at
long_ok end bytes found e =
    let a = bind_ok (bytes_at 8 end bytes) (λ eight. Ok (cast_signed w64 (from_be_bytes w64 eight.0), eight.1)) found e in
    let b = bytes_ok 8 end bytes a.0 a.1 in
    subst (λ (p : ℤ × List ℕ). FitsSigned w64 p.0 × (length p.1 ≤ length bytes))
    (ok_is (cast_signed w64 (from_be_bytes w64 a.0.0), a.0.1) found a.2)
    (signed_fits (from_be_bytes w64 a.0.0), b.1)

length_ok : (end : ℕ) (bytes : List ℕ) (found : Option ℕ × List ℕ) → length_at end bytes ≡ Ok found → length found.1 ≤ length bytes
unfolding length_at
length_ok end bytes found e =
    let a = bind_ok (int_at end bytes) (λ number. length_of (place_of end bytes) number.0 >>= λ count. Ok (count, number.1)) found e in
    let b = bind_ok (length_of (place_of end bytes) a.0.0) (λ count. Ok (count, a.0.1)) found a.2 in
    subst (λ (p : Option ℕ × List ℕ). length p.1 ≤ length bytes) (ok_is (b.0, a.0.1) found b.2) (int_ok end bytes a.0 a.1)

null_ok : (end : ℕ) (count : Option ℕ) (bytes : List ℕ) (found : Option (List ℕ) × List ℕ)
    → unless_null (λ n rest. bytes_at n end rest) count bytes ≡ Ok found → length (or_empty found.0) ≤ length bytes
null_ok end None bytes found e =
    subst (λ (p : Option (List ℕ) × List ℕ). length (or_empty p.0) ≤ length bytes) (ok_is (None, bytes) found e) (omega arith)
null_ok end (Some n) bytes found e =
    let a = bind_ok (bytes_at n end bytes) (λ text. Ok (Some text.0, text.1)) found e in
    let b = bytes_ok n end bytes a.0 a.1 in
    subst (λ (p : Option (List ℕ) × List ℕ). length (or_empty p.0) ≤ length bytes) (ok_is (Some a.0.0, a.0.1) found a.2) b.0

buffer_ok : (end : ℕ) (bytes : List ℕ) (found : Option (List ℕ) × List ℕ)
    → reading buffer end bytes ≡ Ok found → length (or_empty found.0) ≤ length bytes
unfolding counted_at
buffer_ok end bytes found e =
    let a = bind_ok (length_at end bytes) (λ count. unless_null (λ n rest. bytes_at n end rest) count.0 count.1) found e in
    let b = length_ok end bytes a.0 a.1 in
    let c = null_ok end a.0.0 a.0.1 found a.2 in
    omega arith

-- ---- records

-- both fields were read
record AreBoth (first second : Layout) (end : ℕ) (bytes : List ℕ) (found : Value (first ⨾ second) × List ℕ) : Type 0 where
  between : List ℕ
  front : reading first end bytes ≡ Ok (found.0.0, between)
  back : reading second end between ≡ Ok (found.0.1, found.1)

both_ok : (first second : Layout) (end : ℕ) (bytes : List ℕ) (found : Value (first ⨾ second) × List ℕ)
    → reading (first ⨾ second) end bytes ≡ Ok found → AreBoth first second end bytes found
both_ok first second end bytes found e =
    let a = bind_ok (reading first end bytes) (λ front. reading second end front.1 >>= λ back. Ok ((front.0, back.0), back.1)) found e in
    let b = bind_ok (reading second end a.0.1) (λ back. Ok ((a.0.0, back.0), back.1)) found a.2 in
    subst (AreBoth first second end bytes) (ok_is ((a.0.0, b.0.0), b.0.1) found b.2)
    (record { between = a.0.1; front = a.1; back = b.1 })

-- the zxid of a header
pub header_ok : (end : ℕ) (payload : List ℕ) (found : Value reply_header × List ℕ)
    → reading reply_header end payload ≡ Ok found → FitsSigned w64 found.0.1.0
header_ok end payload found e =
    let a = both_ok int (long ⨾ int) end payload found e in
    let b = both_ok long int end a.between (found.0.1, found.1) a.back in
    (long_ok end a.between (found.0.1.0, b.between) b.front).0

-- the session and the password of a response
pub response_ok : (end : ℕ) (payload : List ℕ) (found : Response × List ℕ)
    → response_at end payload ≡ Ok found → FitsSigned w64 (response_session found.0) × (length (response_password found.0) ≤ length payload)
unfolding response_at
response_ok end payload found e =
    let r = bind_ok (reading connect_response_front end payload)
    (λ front. flag_at end front.1 >>= λ flag. Ok (record { front = front.0; read_only = flag.0 }, flag.1)) found e in
    let f = bind_ok (flag_at end r.0.1) (λ flag. Ok (record { front = r.0.0; read_only = flag.0 }, flag.1)) found r.2 in
    let a = both_ok int (int ⨾ (long ⨾ buffer)) end payload r.0 r.1 in
    let b = both_ok int (long ⨾ buffer) end a.between (r.0.0.1, r.0.1) a.back in
    let c = both_ok long buffer end b.between (r.0.0.1.1, r.0.1) b.back in
    let l = int_ok end payload (r.0.0.0, a.between) a.front in
    let m = int_ok end a.between (r.0.0.1.0, b.between) b.front in
    let n = long_ok end b.between (r.0.0.1.1.0, c.between) c.front in
    let p = buffer_ok end c.between (r.0.0.1.1.1, r.0.1) c.back in
    let made : Response × List ℕ = (record { front = r.0.0; read_only = f.0.0 }, f.0.1) in
    subst (λ (x : Response × List ℕ). FitsSigned w64 (response_session x.0) × (length (response_password x.0) ≤ length payload))
    (ok_is made found f.2)
    (n.0, let q = n.1 in omega arith)
