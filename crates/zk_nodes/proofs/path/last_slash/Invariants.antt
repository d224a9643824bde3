-- There is a slash at `last`, and none after it before `i`; at the end `i` is past all bytes, so it is the last slash of all.
use Rattle.std.proofs.Common.{◌≡◌, ℕ, ◌<◌, length, get_or}
use Rattle.zk_nodes.proofs.path.last_slash.Given as goal

abbrev pub invariant-loop-i : goal.invariant-loop-i
invariant-loop-i l = record {
  within : l.last < length l.bytes;
  slash : get_or l.bytes l.last 0 ≡ 47;
  after : (k : ℕ) → l.last < k → k < l.i → get_or l.bytes k 0 ≡ 47 → ⊥;
}
