-- A whole frame is its payload's frame, and what follows: each of its bytes is below 256 (`frame-whole`, a lemma on frames).
use Rattle.std.proofs.Common.{◌≡◌, ◌+◌, ◌<◌, ◌++◌, ℕ, List, get_or, take, drop}
use Rattle.zk_frames.specs.Frame.{frame}
use Rattle.zk_frames.proofs.Frames.{bytes-take, frame-whole}
use Rattle.zk_bench.specs.Front.{IsWhole}

pub framed : (bytes : List ℕ) (count : ℕ) → ((i : ℕ) → get_or bytes i 0 < 256) → IsWhole bytes count
    → bytes ≡ frame (take count (drop 4 bytes)) ++ drop (4 + count) bytes
framed bytes count fits whole = frame-whole bytes count (bytes-take 4 bytes fits) whole.there whole.is
