-- A line that is done goes one further (`further`); one that is not ends the transcript (`stopped`); after the last all are `all_taken`.
use Rattle.std.proofs.Common.{arith, refl}
use Rattle.std.specs.Prelude.{string_bytes}
use Rattle.script_words.specs.Scripts.{progress}
use Rattle.script_words.proofs.ScriptLemmas.{further, all_taken, stopped}
use Rattle.script_words.proofs.script.read_lines.Goals as goal

pub loop-index-init : goal.loop-index-init
loop-index-init g c = λ first stands. (first, refl, stands)

pub returns-in-Err : goal.returns-in-Err
returns-in-Err g c = λ first stands.
    let so_far = c.loop-index.invariant first stands in
    rw (c.end_at-end.ensures, c.in-Err.ensures.same)
    (stopped g.R.LineReader.rules (progress first (string_bytes c.args.told)) c.args.lines.now c.loop-index.index _ so_far.0
    (string_bytes c.loop-index.text) c.in-Err.stop (omega arith) so_far.1 (c.in-Err.ensures.err so_far.0 so_far.2))

pub loop-index-preserved : goal.loop-index-preserved
loop-index-preserved g c = λ first stands.
    let so_far = c.loop-index.invariant first stands in
    let next = c.in_default.ensures.ok so_far.0 so_far.2 in (
      next.0,
      further g.R.LineReader.rules (progress first (string_bytes c.args.told)) c.args.lines.now c.loop-index.index _
          (progress so_far.0 (string_bytes c.loop-index.text))
          (progress next.0 (string_bytes c.read_line.new.text)) (omega arith) so_far.1 next.1,
      next.2,
    )

pub returns : goal.returns
returns g c = λ first stands.
    let so_far = c.loop-index.invariant first stands in
    all_taken g.R.LineReader.rules (progress first (string_bytes c.args.told)) c.args.lines.now c.loop-index.index so_far.0
    (string_bytes c.loop-index.text) (omega arith) so_far.1
