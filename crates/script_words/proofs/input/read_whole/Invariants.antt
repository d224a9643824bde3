-- Loop over the reads: the bytes so far are what the reader gave, and the room is not empty. So a read of 0 bytes is at the reader's end.
use Rattle.std.proofs.Common.{◌<◌}
use Rattle.std.specs.Prelude.{vec_len}
use Rattle.std.specs.Io.KnownBytes.{Consumes}
use Rattle.script_words.proofs.input.read_whole.Given as goal

-- the bytes so far are what the reader gave
abbrev pub invariant-loop : goal.invariant-loop
invariant-loop g l = Consumes (g.R.Read.remaining l.fn.input) (g.R.Read.remaining l.input) l.bytes.items × (0 < vec_len l.room)
