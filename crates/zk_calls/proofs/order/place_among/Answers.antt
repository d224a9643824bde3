-- A hit is the first one, by the invariant: `position_is`. After the loop there is none: `position_none`.
use Rattle.std.proofs.Common.{◌<◌, ◌∙◌, length, sym, ap, arith}
use Rattle.zk_calls.specs.declared.entry.Ending.TheVariants.{LostOf}
use Rattle.zk_calls.specs.Lines.{is_ended}
use Rattle.zk_calls.proofs.Orders.{position_is, position_none}
use Rattle.zk_calls.proofs.order.place_among.Goals as goal

pub returns-then-is_ended : goal.returns-then-is_ended
returns-then-is_ended g c =
    let entries = c.args.entries.now.items in
    let within : c.loop-place.place < length entries =
    omega (arith, c.loop-place-test.true, c.len-place-end.ensures, c.args.entries.now.ok.0) in
    sym (position_is (is_ended (LostOf c.args.ticket)) entries c.loop-place.place c.index.result.now within
    (λ k less. c.loop-place.invariant k c.index.result.now less)
    (ap (is_ended (LostOf c.args.ticket)) (sym c.index.ensures) ∙ sym c.is_ended.ensures ∙ c.if-is_ended.true))

pub returns : goal.returns
returns g c =
    sym (position_none (is_ended (LostOf c.args.ticket)) c.args.entries.now.items
    (λ k d below. c.loop-place.invariant k d
    (omega (arith, below, c.loop-place-test.false, c.len-place-end.ensures, c.args.entries.now.ok.0))))
