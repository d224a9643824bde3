-- One call more is told if it has ended: `told_so_far` and `one_more_told`, from what `add_told` ensures.
use Rattle.std.proofs.Common.{◌<◌, arith, length}
use Rattle.zk_calls.proofs.Answering.{one_more_told, told_so_far}
use Rattle.zk_calls.proofs.ending.told_of.Goals as goal

pub loop-place-preserved : goal.loop-place-preserved
loop-place-preserved g c =
    let within : c.loop-place.place < length c.args.entries.now.items =
    omega (arith, c.loop-place-test.true, c.len-place-end.ensures, c.args.entries.now.ok.0) in
    told_so_far c.loop-place.told.items c.add_told.new.told.items _ _ _ c.in_ok-add_told.ensures c.loop-place.invariant
    (one_more_told c.args.ending c.args.entries.now.items c.loop-place.place c.index.result.now within c.index.ensures)
