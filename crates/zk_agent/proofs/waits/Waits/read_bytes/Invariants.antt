-- Of the loop over the bytes. At its end the place is that of their end, so all bytes were heard.
use Rattle.std.proofs.Common.{◌≡◌, ◌≤◌, ◌-◌, length, take}
use Rattle.zk_agent.specs.Waits.{heard_bytes, waited_of}
use Rattle.zk_agent.proofs.waits.Waits.read_bytes.Given as goal

-- the bytes so far were heard
abbrev pub invariant-loop-at : goal.invariant-loop-at
invariant-loop-at g l = record {
  fits : l.at ≤ length l.bytes;
  heard : waited_of l.self ≡ heard_bytes (waited_of l.fn.self) (take l.at l.bytes);
}

abbrev pub decreases-loop-at : goal.decreases-loop-at
decreases-loop-at g l = length l.bytes - l.at
