-- The loop over the frames: taking the bytes still held leads to the view, and to the outputs, that taking all of them led to at the start.
-- So at each exit it is enough to say what the bytes left do. Each turn leaves fewer bytes.
use Rattle.std.proofs.Common.{◌≡◌, [], ◌++◌, map, None, false, length}
use Rattle.zk_turns.specs.Turns.{Comes}
use Rattle.zk_turns.specs.Rule.{after_signals, says_signals}
use Rattle.zk_client.specs.Views.{said}
use Rattle.zk_client.specs.inner.Seen.{view_with, origin}
use Rattle.zk_client.specs.inner.Sound.{CoreIsSound}
use Rattle.zk_client.proofs.frames.take_frames.Given as goal

abbrev pub invariant-loop-reader : goal.invariant-loop-reader
invariant-loop-reader g l = record {
  sound : CoreIsSound l.core;
  clean : l.reader.fault ≡ None;
  goes_on : l.core.halted ≡ false;
  heard : l.core.session.moments.heard ≡ l.core.session.moments.now;
  next : after_signals (view_with [] l.core) (map Comes l.reader.bytes) ≡ after_signals (view_with [] l.fn.core)
      (map Comes l.fn.reader.bytes);
  says : said l.outputs.items ++ says_signals (view_with [] l.core)
      (map Comes l.reader.bytes) ≡ said l.fn.outputs.items ++ says_signals (view_with [] l.fn.core) (map Comes l.fn.reader.bytes);
  origin : origin l.core ≡ origin l.fn.core;
}

abbrev pub decreases-loop-reader : goal.decreases-loop-reader
decreases-loop-reader g l = length l.reader.bytes
