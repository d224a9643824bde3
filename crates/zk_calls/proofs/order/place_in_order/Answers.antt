-- Since tickets rise, `partition_point` finds the first call that is not below the ticket (`tickets_parted`). If that is the call sought,
-- `found_by_search`, else no call is it: `not_found_by_search`.
use Rattle.std.proofs.Common.{rules, of_calls, ◌<◌, ◌∙◌, length, nat_lt, sym, ap, arith}
use Rattle.std.proofs.lemmas.Fn.{always_returns_same}
use Rattle.std.proofs.lemmas.List.{get_or_default}
use Rattle.zk_calls.specs.declared.entry.Entry.{Entry}
use Rattle.zk_calls.specs.declared.entry.Ending.TheVariants.{LostOf}
use Rattle.zk_calls.specs.Lines.{is_ended}
use Rattle.zk_calls.proofs.Rising.{found_by_search, not_found_by_search, tickets_parted}
use Rattle.zk_calls.proofs.order.place_in_order.Goals.{else-place-len-via-then-place-len+else-is_ended, else-place-len-via-else-place-len}
use Rattle.zk_calls.proofs.order.place_in_order.Goals as goal

pub returns-then-is_ended : goal.returns-then-is_ended
returns-then-is_ended g c =
    let entries = c.args.entries.now.items in
    let point = c.partition_point-place.ensures.partitioned (λ (e : Entry g.row.A.Denot). nat_lt e.ticket c.args.ticket)
    (always_returns_same _ _ _ (λ a r f k. search (rules, of_calls)))
    (tickets_parted c.args.ticket entries c.requires) in
    let below : c.partition_point-place.result < length entries =
    omega (arith, c.if-place-len.true, c.len.ensures, c.args.entries.now.ok.0) in
    found_by_search c.args.ticket entries c.requires c.partition_point-place.result point c.index.result.now below c.index.ensures
    (sym c.is_ended.ensures ∙ c.if-is_ended.true)

pub returns : goal.returns
returns g c =
    let entries = c.args.entries.now.items in
    let point = c.partition_point-place.ensures.partitioned (λ (e : Entry g.row.A.Denot). nat_lt e.ticket c.args.ticket)
    (always_returns_same _ _ _ (λ a r f k. search (rules, of_calls)))
    (tickets_parted c.args.ticket entries c.requires) in
    not_found_by_search c.args.ticket entries c.requires c.partition_point-place.result point
    (λ d below. elim c.else-place-len.branch [
      | else-place-len-via-then-place-len+else-is_ended w ↦ ap (is_ended (LostOf c.args.ticket))
          (get_or_default entries c.partition_point-place.result d w.index.result.now below ∙ sym w.index.ensures)
          ∙ sym w.is_ended.ensures ∙ w.if-is_ended.false
      | else-place-len-via-else-place-len w ↦ absurd (omega (arith, w.if-place-len.false, c.len.ensures, c.args.entries.now.ok.0, below))
    ])
