-- The first one is a hit, and there is none before it: `position_is`.
use Rattle.std.proofs.Common.{◌≡◌, ◌<◌, ◌∙◌, ℕ, zero, suc, false, length, deque_len, sym, ap, arith}
use Rattle.std.specs.Prelude.{◌==◌}
use Rattle.zk_calls.specs.declared.entry.Ending.TheVariants.{LostOf}
use Rattle.zk_calls.specs.Lines.{is_ended}
use Rattle.zk_calls.proofs.Orders.{position_is}
use Rattle.zk_calls.proofs.order.is_first.Goals as goal

positive : (n : ℕ) → (n == 0) ≡ false → 0 < n
positive zero e = absurd cc
positive (suc n) e = omega arith

pub returns : goal.returns
returns g c = λ e.
    let entries = c.args.entries.now.items in
    let some = positive (deque_len c.args.entries.now) (sym c.is_empty.ensures ∙ c.if-is_empty.false) in
    let within : 0 < length entries = omega (arith, some, c.args.entries.now.ok.0) in
    position_is (is_ended (LostOf c.args.ticket)) entries 0 c.index.result.now within (λ k less. absurd (omega (arith, less)))
    (ap (is_ended (LostOf c.args.ticket)) (sym c.index.ensures) ∙ sym c.is_ended.ensures ∙ e)
