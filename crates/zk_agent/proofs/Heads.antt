-- The length and the xid of a frame: none of the first seven bytes ends it, and after the eighth the number is that of the eight, whatever
-- it was before.
use Rattle.std.proofs.Common.{◌≡◌, ◌<◌, ◌≤◌, ◌+◌, ◌-◌, ◌*◌, ◌/◌, ◌%◌, ◌^◌, ◌==◌, ◌&&◌, ℕ, true, false, cond, List, [], ◌∷◌}
use Rattle.std.proofs.Common.{fold, length, get_or, take, length-take-le, refl, ap, ◌∙◌, arith}
use Rattle.std.specs.Int.{w64, from_be_bytes}
use Rattle.std.specs.Prelude.{nat_lt}
use Rattle.std.proofs.lemmas.Bool.Decides.{nat_tests}
use Rattle.std.proofs.lemmas.Nat.{mod-mul-add}
use Rattle.zk_frames.proofs.Frames.{bytes-take}
use Rattle.zk_agent.specs.declared.frames.Frames.{Frames}
use Rattle.zk_agent.specs.Waits.{Waited, headed, heard_byte, heard_bytes}
use Rattle.zk_agent.specs.inner.Waits.{heard_head}
use Rattle.zk_agent.proofs.Passing.{by_place}

-- ---- the number

-- with one byte more, of the last eight bytes
abbrev more : (number byte : ℕ) → ℕ
more number byte = (number * 256 + byte) % 2 ^ 64

last_eight : (number byte : ℕ) → more (number % 2 ^ 64) byte ≡ more number byte
last_eight number byte = omega arith

at_last : (number : ℕ) (bytes : List ℕ) → fold more (number % 2 ^ 64) bytes ≡ fold (λ n byte. n * 256 + byte) number bytes % 2 ^ 64
at_last number [] = refl
at_last number (byte ∷ bytes) = ap (λ n. fold more n bytes) (last_eight number byte) ∙ at_last (number * 256 + byte) bytes

joined : (number a b c d e f g h : ℕ)
    → ((((((((number * 256 + a) * 256 + b) * 256 + c) * 256 + d) * 256 + e) * 256 + f) * 256 + g) * 256 + h)
    ≡ number * 2 ^ 64 + from_be_bytes w64 (a ∷ b ∷ c ∷ d ∷ e ∷ f ∷ g ∷ h ∷ [])
joined number a b c d e f g h = omega arith

number_of : (number : ℕ) (bytes : List ℕ) → length bytes ≡ 8 → ((i : ℕ) → get_or bytes i 0 < 256)
    → fold more number bytes ≡ from_be_bytes w64 bytes
number_of number [] eight small = absurd (omega arith)
number_of number (a ∷ []) eight small = absurd (omega arith)
number_of number (a ∷ b ∷ []) eight small = absurd (omega arith)
number_of number (a ∷ b ∷ c ∷ []) eight small = absurd (omega arith)
number_of number (a ∷ b ∷ c ∷ d ∷ []) eight small = absurd (omega arith)
number_of number (a ∷ b ∷ c ∷ d ∷ e ∷ []) eight small = absurd (omega arith)
number_of number (a ∷ b ∷ c ∷ d ∷ e ∷ f ∷ []) eight small = absurd (omega arith)
number_of number (a ∷ b ∷ c ∷ d ∷ e ∷ f ∷ g ∷ []) eight small = absurd (omega arith)
number_of number (a ∷ b ∷ c ∷ d ∷ e ∷ f ∷ g ∷ h ∷ []) eight small =
    let fits : from_be_bytes w64 (a ∷ b ∷ c ∷ d ∷ e ∷ f ∷ g ∷ h ∷ []) < 2 ^ 64 =
    omega (arith, small 0, small 1, small 2, small 3, small 4, small 5, small 6, small 7) in
    at_last (number * 256 + a) (b ∷ c ∷ d ∷ e ∷ f ∷ g ∷ h ∷ []) ∙ ap (λ n. n % 2 ^ 64) (joined number a b c d e f g h)
    ∙ mod-mul-add number (2 ^ 64) (from_be_bytes w64 (a ∷ b ∷ c ∷ d ∷ e ∷ f ∷ g ∷ h ∷ [])) fits
number_of number (a ∷ b ∷ c ∷ d ∷ e ∷ f ∷ g ∷ h ∷ i ∷ bytes) eight small = absurd (omega arith)

-- ---- where the stream is

module _ (calls pings : List ℕ) where
  abbrev within : (held number left : ℕ) → Waited
  within held number left = record { came = record { held = held; head = number; left = left }; calls = calls; pings = pings }

  one_of_seven : (held number left byte : ℕ) → held < 7
      → heard_byte (within held number left) byte ≡ within (held + 1) (more number byte) (more number byte / 2 ^ 32 - 4)
  one_of_seven held number left byte early =
      let place : Frames = record { held = held; head = number; left = left } in
      let inside : nat_lt held 8 ≡ true = grind (arith, nat_tests) in
      let unfinished : (held + 1 == 8) ≡ false = grind (arith, nat_tests) in
      by_place calls pings place (headed byte place) byte
      (ap (λ b. cond b (headed byte place) (record place { left = left - 1 })) inside)
      (ap (λ b. b && ((more number byte / 2 ^ 32 - 4) == 0)) unfinished)

  the_eighth : (number left byte : ℕ) → heard_byte (within 7 number left) byte ≡ heard_head (more number byte) (within 7 number left)
  the_eighth number left byte = refl

  all_eight : (byte : ℕ) (bytes : List ℕ) (held number left : ℕ) → held + 1 + length bytes ≡ 8
      → heard_bytes (within held number left) (byte ∷ bytes) ≡ heard_head (fold more number (byte ∷ bytes)) (within held number left)
  all_eight byte [] held number left is =
      let seven : held ≡ 7 = omega (arith, is) in
      ap (λ n. heard_byte (within n number left) byte) seven ∙ the_eighth number left byte
  all_eight byte (next ∷ bytes) held number left is =
      ap (λ w. heard_bytes w (next ∷ bytes)) (one_of_seven held number left byte (omega (arith, is)))
      ∙ all_eight next bytes (held + 1) (more number byte) (more number byte / 2 ^ 32 - 4) (omega (arith, is))

-- ---- at once

heard_of_eight : (waited : Waited) (bytes : List ℕ) → waited.came.held ≡ 0 → length bytes ≡ 8
    → heard_bytes waited bytes ≡ heard_head (fold more waited.came.head bytes) waited
heard_of_eight waited [] begins eight = absurd (omega arith)
heard_of_eight waited (byte ∷ bytes) begins eight =
    all_eight waited.calls waited.pings byte bytes waited.came.held waited.came.head waited.came.left (omega (arith, begins, eight))

pub head_heard : (waited : Waited) (bytes : List ℕ) → waited.came.held ≡ 0 → 8 ≤ length bytes → ((i : ℕ) → get_or bytes i 0 < 256)
    → heard_bytes waited (take 8 bytes) ≡ heard_head (from_be_bytes w64 (take 8 bytes)) waited
head_heard waited bytes begins there small =
    let eight : length (take 8 bytes) ≡ 8 = length-take-le 8 bytes there in
    heard_of_eight waited (take 8 bytes) begins eight
    ∙ ap (λ n. heard_head n waited) (number_of waited.came.head (take 8 bytes) eight (bytes-take 8 bytes small))
