-- Loop over the frames: the reader has no fault, and the frames told and the bytes still held are all bytes (`SoFar`). The held bytes get
-- fewer; where they begin with no whole frame, each whole one is told.
use Rattle.std.proofs.Common.{◌≡◌, None, length}
use Rattle.std.specs.Prelude.{string_bytes}
use Rattle.script_stream.specs.Streams.{telling}
use Rattle.script_stream.proofs.StreamLemmas.{SoFar}
use Rattle.script_stream.proofs.stream.tell_frames.Given as goal

abbrev pub invariant-frames : goal.invariant-frames
invariant-frames g l = record {
  clean : l.reader.fault ≡ None;
  so_far : SoFar l.way l.initial.reader.bytes (telling l.from l.initial.asked.items (string_bytes l.initial.text)) l.reader.bytes
      (telling l.place l.asked.items (string_bytes l.text));
}

abbrev pub decreases-frames : goal.decreases-frames
decreases-frames g l = length l.reader.bytes
