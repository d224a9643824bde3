-- A frame at the head of the bytes.
use Rattle.std.proofs.Common.{◌≡◌, ℕ, zero, suc, ◌+◌, ◌-◌, ◌^◌, ◌<◌, ◌≤◌, List, [], ◌∷◌, ◌++◌, lit<, length, take, drop, get_or, sym, ap}
use Rattle.std.proofs.Common.{subst}
use Rattle.std.proofs.Common.{◌∙◌, append_assoc, arith, length-take-le, length-drop, drop-drop, take-append-drop, take_all}
use Rattle.std.specs.Int.{w32, to_be_bytes}
use Rattle.std.proofs.lemmas.Nat.{be_bytes_4}
use Rattle.zk_frames.specs.Frame.{frame, length_field}
use Rattle.zk_frames.specs.inner.Next.{IsWhole}

-- the bytes of a part are bytes
pub bytes-take : (n : ℕ) (l : List ℕ) → ((i : ℕ) → get_or l i 0 < 256) → (i : ℕ) → get_or (take n l) i 0 < 256
bytes-take zero l fits i = lit< tt
bytes-take (suc n) [] fits i = lit< tt
bytes-take (suc n) (x ∷ l) fits zero = fits 0
bytes-take (suc n) (x ∷ l) fits (suc i) = bytes-take n l (λ j. fits (suc j)) i

-- four bytes, and as many more as they say, are a frame
pub frame-whole : (bytes : List ℕ) (n : ℕ) → ((i : ℕ) → get_or (take 4 bytes) i 0 < 256)
    → 4 + n ≤ length bytes → length_field bytes ≡ n → bytes ≡ frame (take n (drop 4 bytes)) ++ drop (4 + n) bytes
frame-whole bytes n fits there says =
    let payload = take n (drop 4 bytes) in
    let long : length payload ≡ n = length-take-le n (drop 4 bytes) (omega (arith, length-drop 4 bytes)) in
    let field : to_be_bytes w32 (length payload) ≡ take 4 bytes =
    be_bytes_4 (take 4 bytes) (length payload) (length-take-le 4 bytes (omega arith)) fits (long ∙ sym says) in
    let rest : drop n (drop 4 bytes) ≡ drop (4 + n) bytes = drop-drop n 4 bytes in
    sym (take-append-drop 4 bytes)
    ∙ ap (λ l. take 4 bytes ++ l) (sym (take-append-drop n (drop 4 bytes)) ∙ ap (λ l. payload ++ l) rest)
    ∙ ap (λ l. l ++ (payload ++ drop (4 + n) bytes)) (sym field)
    ∙ sym (append_assoc (to_be_bytes w32 (length payload)) payload (drop (4 + n) bytes))

-- a reader at a place, whose next frame has n bytes of payload
pub record Moves (most : ℕ) (items held : List ℕ) (place n : ℕ) : Type 0 where
  pub was : drop place items ≡ frame (take (4 + n - 4) (drop 4 held)) ++ drop (place + (4 + n)) items
  pub long : length (take (4 + n - 4) (drop 4 held)) ≡ n
  pub admitted : length (take (4 + n - 4) (drop 4 held)) ≤ most
  pub positive : length (take (4 + n - 4) (drop 4 held)) < 2 ^ 31

pub moves_past : (most : ℕ) (items held : List ℕ) (place n : ℕ)
    → held ≡ drop place items → IsWhole most held n → Moves most items held place n
moves_past most items held place n same whole =
    let size : n ≡ 4 + n - 4 = omega arith in
    let rest : drop (4 + n) held ≡ drop (place + (4 + n)) items = ap (drop (4 + n)) same ∙ drop-drop (4 + n) place items in
    let long : length (take n (drop 4 held)) ≡ n = length-take-le n (drop 4 held) (omega (arith, length-drop 4 held, whole.there)) in
    record {
      was = sym same ∙ whole.is ∙ ap (λ l. frame (take n (drop 4 held)) ++ l) rest
          ∙ ap (λ k. frame (take k (drop 4 held)) ++ drop (place + (4 + n)) items) size;
      long = subst (λ k. length (take k (drop 4 held)) ≡ n) size long;
      admitted = subst (λ k. length (take k (drop 4 held)) ≤ most) size (omega (arith, long, whole.admitted));
      positive = subst (λ k. length (take k (drop 4 held)) < 2 ^ 31) size (omega (arith, long, whole.positive));
    }

-- what lies from a place on
pub from_place : (items lent : List ℕ) (place : ℕ) → lent ≡ items → take (length lent - place) (drop place lent) ≡ drop place items
from_place items lent place same =
    take_all (length lent - place) (drop place lent) (omega (arith, length-drop place lent)) ∙ ap (drop place) same
