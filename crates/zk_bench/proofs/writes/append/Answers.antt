-- The outcome of `change` is that of the append: `append_accepted` where the tree takes the change, and `append_told` where it refuses.
-- `room_left` says, by arithmetic on zxid and time, that there is room for one more.
use Rattle.std.proofs.Common.{arith, ◌≡◌, ◌<◌, ◌≤◌, false}
use Rattle.std.proofs.lemmas.Int.{ints}
use Rattle.zk_nodes.specs.History.{newest}
use Rattle.zk_history.specs.Made.{change_of}
use Rattle.zk_bench.specs.inner.Writing.{is_over}
use Rattle.zk_bench.proofs.Written.{append_told, append_accepted, room_left}
use Rattle.zk_bench.proofs.writes.append.Goals as goal

pub returns-clause-accepted : goal.returns-clause-accepted
returns-clause-accepted g c =
    append_accepted c.change.result c.args.history.now _ _ _ (change_of c.args.change) c.in_default.ensures.ok c.change.ensures.accepted

pub returns-clause-told : goal.returns-clause-told
returns-clause-told g c =
    let low : newest 0 c.args.history.now.transactions < 9223372036854775807 = let v = c.last_zxid-last.ensures.value in
    let n = c.if-last-eq9223372036854775807.false in omega (arith, ints) in
    let early : c.args.time ≤ 9223372036854775807 = omega arith in
    let room : is_over c.args.history.now c.args.time ≡ false =
    room_left (newest 0 c.args.history.now.transactions) c.args.time low early in
    append_told c.change.result c.args.history.now _ _ c.args.time _
    (change_of c.args.change) c.in_default.ensures.ok room c.change.ensures.refused
