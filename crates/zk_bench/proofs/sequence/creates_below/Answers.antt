-- The count goes up to all transactions, or stops at 2^64 - 1: `saturated` and `counted_more` add one transaction, `counted_all` ends the
-- loop. The loop reaches each of them, since rising transactions are fewer than zxids (`short`).
use Rattle.std.proofs.Common.{arith, ap, ◌∙◌, ℕ, ◌+◌}
use Rattle.std.specs.Prelude.{min}
use Rattle.zk_nodes.specs.Path.{path_of}
use Rattle.zk_history.specs.Made.{change_of}
use Rattle.zk_bench.proofs.Placed.{is_room, no_room}
use Rattle.zk_bench.proofs.Written.{counted_more, counted_all, saturated, short}
use Rattle.zk_bench.proofs.sequence.creates_below.Goals as goal

pub loop-n-preserved : goal.loop-n-preserved
loop-n-preserved g c =
    let ts = c.args.history.now.transactions in
    let parent = path_of c.args.parent.now in
    let room = is_room ts c.loop-n.n _ c.in-Some.ensures in
    let more = counted_more parent ts c.loop-n.n _ _ change_of c.in-Some.changes.now c.in-Some.ensures in
    record {
      within = omega (arith, room);
      counted = saturated _ _ _ _ _ _ c.loop-n.invariant.counted
          (c.saturating_add-count.ensures ∙ ap (λ (x : ℕ). min (c.loop-n.count + x) 18446744073709551615) c.creates_in.ensures) more;
    }

pub returns-in_default : goal.returns-in_default
returns-in_default g c =
    let none = no_room c.args.history.now.transactions c.loop-n.n c.in_default.ensures in
    counted_all (path_of c.args.parent.now) c.args.history.now.transactions c.loop-n.n c.loop-n.count none c.loop-n.invariant.counted

pub returns-after-loop-n : goal.returns-after-loop-n
returns-after-loop-n g c =
    let few = short 0 c.args.history.now.transactions (omega arith) c.last_zxid-last.ensures.history.rising in
    counted_all (path_of c.args.parent.now) c.args.history.now.transactions c.loop-n.n c.loop-n.count
    (omega (arith, few, c.loop-n-test.false)) c.loop-n.invariant.counted
