-- What is shown is the transcript that `read_lines` ensures of a new stream, at the first position, rewritten for the script's lines.
use Rattle.script_stream.specs.Streams.{first_position}
use Rattle.script_stream.proofs.shown.shown_stream.Goals as goal

pub returns-in-Ok : goal.returns-in-Ok
returns-in-Ok g c =
    rw (c.new.ensures.bytes, c.as_slice.ensures.value, c.in-Ok.ensures) at
    (c.read_lines-transcript.ensures first_position c.new-stream.ensures)
