-- The payload has 16 bytes for the header and those of the record, by `length-reply`: so what can be sent fits a frame, and `push_frame`
-- ends no connection.
use Rattle.std.proofs.Common.{arith, ◌≡◌, ◌+◌, ◌∙◌, length}
use Rattle.zk_jute.specs.Spelling.{spelling}
use Rattle.zk_bench.proofs.Staying.{lent-length, length-reply}
use Rattle.zk_bench.proofs.replies.send_result.Goals as goal

pub returns-clause-stays : goal.returns-clause-stays
returns-clause-stays g c = λ sent.
    let long : length c.deref.result.now ≡ 16 + length (spelling g.R.Record.layout (g.R.Record.view c.args.answer)) =
    lent-length _ _ _ _ c.deref.ensures.value c.in_ok-put.ensures.ok c.new-payload.ensures.items ∙ length-reply _ _ in
    c.push_frame.ensures.stays (omega (arith, long, sent.small))
