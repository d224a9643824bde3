-- Bytes within a frame: all but its last one only make fewer of it left, so that they may be passed over at once.
use Rattle.std.proofs.Common.{◌≡◌, ◌<◌, ◌+◌, ◌-◌, ◌%◌, ◌^◌, ◌==◌, ◌&&◌, ℕ, zero, suc, Bool, true, false, cond, List, length, get_or, take}
use Rattle.std.proofs.Common.{drop, Some, None, refl, sym, ap, take-add, ◌∙◌, arith}
use Rattle.std.specs.Prelude.{nat_lt}
use Rattle.std.proofs.lemmas.Bool.Decides.{nat_tests}
use Rattle.std.proofs.lemmas.List.Sums.{fold-append, fold_more}
use Rattle.zk_agent.specs.declared.frames.Frames.{Frames}
use Rattle.zk_agent.specs.Waits.{Waited, answered_by, headed, heard_byte, heard_bytes, is_of_call, is_of_ping, is_whole, next_place}

-- with fewer bytes of the frame left
abbrev pub passed_over : (count : ℕ) → Waited → Waited
passed_over count waited = record waited { came = record waited.came { left = waited.came.left - count } }

none_passed : (count : ℕ) (waited : Waited) → count ≡ 0 → passed_over count waited ≡ waited
none_passed count waited none = let same : waited.came.left - count ≡ waited.came.left = omega (arith, none) in
    ap (λ left. record waited { came = record waited.came { left = left } }) same

-- one byte, by where the stream is after it
module _ (calls pings : List ℕ) where
  abbrev with_place : (next : Frames) → (whole : Bool) → Waited
  with_place next whole = record {
    came = cond whole (record next { held = 0 }) next;
    calls = answered_by is_of_call (cond whole (Some (next.head % 2 ^ 32)) None) calls;
    pings = answered_by is_of_ping (cond whole (Some (next.head % 2 ^ 32)) None) pings;
  }

  pub by_place : (at next : Frames) (byte : ℕ) → next_place byte at ≡ next → is_whole next ≡ false
      → heard_byte (record { came = at; calls = calls; pings = pings }) byte ≡ record { came = next; calls = calls; pings = pings }
  by_place at next byte is not_whole = ap (λ (n : Frames). with_place n (is_whole n)) is ∙ ap (with_place next) not_whole

some_left : (held left count : ℕ) → count + 1 < left → ((held == 8) && (left - count - 1 == 0)) ≡ false
some_left held left count more = by (held == 8) refl
  where
    not_none : (left - count - 1 == 0) ≡ false
    not_none = grind (arith, nat_tests)

    by : (b : Bool) → (held == 8) ≡ b → (b && (left - count - 1 == 0)) ≡ false
    by true e = not_none
    by false e = refl

one_passed : (waited : Waited) (byte count : ℕ) → waited.came.held ≡ 8 → count + 1 < waited.came.left
    → heard_byte (passed_over count waited) byte ≡ passed_over (count + 1) waited
one_passed waited byte count inside more =
    let at : Frames = record waited.came { left = waited.came.left - count } in
    let next : Frames = record waited.came { left = waited.came.left - count - 1 } in
    let here : nat_lt waited.came.held 8 ≡ false = grind (arith, nat_tests) in
    let goes : next_place byte at ≡ next = ap (λ b. cond b (headed byte at) next) here in
    let fewer : waited.came.left - count - 1 ≡ waited.came.left - (count + 1) = omega arith in
    by_place waited.calls waited.pings at next byte goes (some_left waited.came.held waited.came.left count more)
    ∙ ap (λ left. record waited { came = record waited.came { left = left } }) fewer

-- all of these bytes
module _ (first : Waited) (bytes : List ℕ) where
  passes : (count : ℕ) → (0 < count → (first.came.held ≡ 8) × (count < first.came.left)) → count < length bytes
      → heard_bytes first (take count bytes) ≡ passed_over count first
  passes zero inside there = sym (none_passed 0 first refl)
  passes (suc count) inside there =
      let all = inside (omega arith) in
      let before : count < length bytes = omega (arith, there) in
      let next : suc count ≡ count + 1 = omega arith in
      let fewer : count < first.came.left = let b = all.1 in omega (arith, b) in
      let more : count + 1 < first.came.left = let b = all.1 in omega (arith, b) in
      let so_far = passes count (λ some. (all.0, fewer)) before in
      ap (λ i. heard_bytes first (take i bytes)) next ∙ fold_more heard_byte first bytes count 0 before
      ∙ ap (λ w. heard_byte w (get_or bytes count 0)) so_far ∙ one_passed first (get_or bytes count 0) count all.0 more
      ∙ ap (λ n. passed_over n first) (sym next)

  -- and the byte after them
  pub one_more_heard : (count byte : ℕ) (passed after : Waited) → (0 < count → (first.came.held ≡ 8) × (count < first.came.left))
      → count < length bytes → passed ≡ passed_over count first → byte ≡ get_or bytes count 0 → after ≡ heard_byte passed byte
      → after ≡ heard_bytes first (take (count + 1) bytes)
  one_more_heard count byte passed after inside there is its after_is =
      let before : passed ≡ heard_bytes first (take count bytes) = is ∙ sym (passes count inside there) in
      after_is ∙ ap (λ w. heard_byte w byte) before
      ∙ ap (heard_byte (heard_bytes first (take count bytes))) its ∙ sym (fold_more heard_byte first bytes count 0 there)

-- some bytes more of all
pub some_more_heard : (first here after : Waited) (bytes : List ℕ) (at count : ℕ) → here ≡ heard_bytes first (take at bytes)
    → after ≡ heard_bytes here (take count (drop at bytes)) → after ≡ heard_bytes first (take (at + count) bytes)
some_more_heard first here after bytes at count so_far some =
    some ∙ ap (λ w. heard_bytes w (take count (drop at bytes))) so_far
    ∙ sym (fold-append heard_byte first (take at bytes) (take count (drop at bytes)))
    ∙ ap (heard_bytes first) (sym (take-add at count bytes))
