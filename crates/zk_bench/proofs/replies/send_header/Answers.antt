-- A header takes 16 bytes, by `length-header`, so it fits a frame, and `push_frame` ends no connection.
use Rattle.std.proofs.Common.{arith}
use Rattle.zk_bench.proofs.Staying.{lent-length, length-header}
use Rattle.zk_bench.proofs.replies.send_header.Goals as goal

pub returns-clause-stays : goal.returns-clause-stays
returns-clause-stays g c =
    let header = c.args.header in
    let written = lent-length _ _ _ _ c.deref.ensures.value c.in_ok-put.ensures.ok c.new-payload.ensures.items in
    c.push_frame.ensures.stays (omega (arith, written, length-header (header.xid, (header.zxid, header.err))))
