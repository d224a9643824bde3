-- One more whole frame is told after those so far, and the reader has no fault: `one_more`, from what `next_frame` and `tell_frame` ensure.
use Rattle.std.proofs.Common.{refl}
use Rattle.std.specs.Prelude.{string_bytes}
use Rattle.script_stream.specs.Streams.{telling}
use Rattle.script_stream.proofs.StreamLemmas.{one_more}
use Rattle.script_stream.proofs.stream.tell_frames.Goals as goal

pub frames-preserved : goal.frames-preserved
frames-preserved g c =
    let gives = rw (c.in-Ok-Some.is, c.in-Ok-Some.field-0-is) at c.next_frame.follows.holds-at-none in
    let begun = telling c.args.from c.args.asked.now.items (string_bytes c.args.text.now) in
    let here = telling c.frames.place c.frames.asked.items (string_bytes c.frames.text) in
    let next = telling c.in_ok-place-in-Ok-Some.place c.tell_frame.new.asked.items (string_bytes c.tell_frame.new.text) in
    let does = c.in_ok-place-in-Ok-Some.ensures in
    record {
      clean = gives.reads;
      so_far = one_more c.args.way c.args.reader.now.bytes begun here next c.frames.reader.bytes c.in-Ok-Some.payload.now
          c.next_frame.follows.lender-at-none.bytes
          c.frames.invariant.so_far gives.was (rw (does.line, does.asked, does.place) refl);
    }
