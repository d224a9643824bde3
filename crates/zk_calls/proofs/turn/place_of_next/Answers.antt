-- A hit is the first call that waits, by the invariant: `position_is`. After the loop none waits: `position_none`.
use Rattle.std.proofs.Common.{◌<◌, ◌∙◌, length, not, sym, ap, arith}
use Rattle.zk_calls.specs.Lines.{waits_turn}
use Rattle.zk_calls.proofs.Orders.{position_is, position_none}
use Rattle.zk_calls.proofs.turn.place_of_next.Goals as goal

pub returns-then-not-index : goal.returns-then-not-index
returns-then-not-index g c =
    let entries = c.args.entries.now.items in
    let within : c.loop-place.place < length entries =
    omega (arith, c.loop-place-test.true, c.len-place-end.ensures, c.args.entries.now.ok.0) in
    sym (position_is waits_turn entries c.loop-place.place c.index.result.now within
    (λ k less. c.loop-place.invariant k c.index.result.now less)
    (ap waits_turn (sym c.index.ensures) ∙ ap not c.if-not-index.true))

pub returns : goal.returns
returns g c =
    sym (position_none waits_turn c.args.entries.now.items
    (λ k d below. c.loop-place.invariant k d
    (omega (arith, below, c.loop-place-test.false, c.len-place-end.ensures, c.args.entries.now.ok.0))))
