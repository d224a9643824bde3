-- Texts that are seen at once to be of paths: of printable ASCII, and no name of them is empty or begins with a dot.
use Rattle.std.specs.Prelude.{ℕ, ◌-◌, ◌<◌, ◌≤◌, ◌≡◌, ◌≢◌, ◌==◌, Bool, true, ◌||◌, ◌&&◌, not, nat_le, length, slice_index}
use Rattle.zk_nodes.specs.Path.{Text}

-- a byte that may follow another: it is printable, and after a slash no slash and no dot
abbrev pub may_follow : ℕ → ℕ → Bool
may_follow before byte = nat_le 0x20 byte && nat_le byte 0x7e && (not (before == 47) || (not (byte == 46) && not (byte == 47)))

-- from the place `start` to before `end` each byte may follow the one before it
abbrev pub ArePlain : Text → ℕ → ℕ → Type 0
ArePlain text start end = (k : ℕ) → start ≤ k → k < end → may_follow (slice_index text (k - 1)) (slice_index text k) ≡ true

-- each byte may follow the one before it, and the last one is no slash, unless the text is a slash alone
abbrev pub IsPlain : Text → Type 0
IsPlain text = ArePlain text 1 (length text) × (1 < length text → slice_index text (length text - 1) ≢ 47)
