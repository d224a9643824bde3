-- The longest pause is never above the longest of all, and from five failures on it is that, since that is a second at most.
use Rattle.std.proofs.Common.{◌≡◌, ◌≤◌, ℕ, zero, suc, ◌*◌, ◌^◌, sym, arith}
use Rattle.std.proofs.Math.Nat.{min-le_left, min-eq_left}
use Rattle.std.proofs.Math.Pow.{pow_mono}
use Rattle.zk_dialler.specs.Pauses.{longest_ms}

hundreds : (m n : ℕ) → m ≤ n → 100 * 2 ^ m ≤ 100 * 2 ^ n
hundreds m n h = let p : 2 ^ m ≤ 2 ^ n = pow_mono h in omega arith

pub longest : (failures most : ℕ) → 5 ≤ failures → most ≤ 1000 → most ≡ longest_ms failures most
longest zero most h e = absurd (omega arith)
longest (suc n) most h e =
    let big : 100 * 2 ^ 4 ≤ 100 * 2 ^ n = hundreds 4 n (omega arith) in
    let enough : most ≤ 100 * 2 ^ n = omega arith in
    sym (min-eq_left enough)

pub at_most : (failures most : ℕ) → longest_ms failures most ≤ most
at_most zero most = omega arith
at_most (suc n) most = min-le_left most (100 * 2 ^ n)
