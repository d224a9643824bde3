-- The loop of `read_bytes`: what has come of the bytes before the index; at the end these are all.
use Rattle.std.proofs.Common.{◌≡◌, take}
use Rattle.zk_agent.specs.Credentials.{judged_in}
use Rattle.zk_agent.specs.inner.Credentials.{verdicts_of}
use Rattle.zk_agent.proofs.credentials.Credentials.read_bytes.Given as goal

-- those so far were looked at
abbrev pub invariant-loop-byte : goal.invariant-loop-byte
invariant-loop-byte g l = record {
  judging : (l.at, verdicts_of l.self l.judged.items)
      ≡ judged_in l.fn.self.written (l.fn.at, verdicts_of l.fn.self l.fn.judged.items) (take l.byte-index l.bytes);
  all : l.self.all ≡ l.fn.self.all;
  written : l.self.written ≡ l.fn.self.written;
}
