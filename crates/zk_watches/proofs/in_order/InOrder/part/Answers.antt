-- The three windows are one run of the three lists in order: `lent`, where each list's start and end are less by the lengths of those
-- before it.
use Rattle.std.proofs.Common.{ap, map, take, drop, ◌∙◌}
use Rattle.zk_watches.specs.Parts.{watches_of}
use Rattle.zk_watches.proofs.PartsLemmas.{lent}
use Rattle.zk_watches.proofs.in_order.InOrder.part.Goals as goal

pub returns-clause-watches : goal.returns-clause-watches
returns-clause-watches g c =
    lent (λ text. text.now) c.as_slice-data.result.now c.as_slice-exist.result.now c.as_slice-child.result.now _ _ _ c.args.start
    c.args.end _ _ _ _ c.requires
    c.window.ensures c.saturating_sub.ensures c.saturating_sub-2.ensures c.window-2.ensures c.saturating_sub-3.ensures
    c.saturating_sub-4.ensures c.window-3.ensures
    ∙ (λ i. drop c.args.start (take c.args.end (watches_of (record {
      data_watches = map (λ text. text.now) (c.as_slice-data.ensures.value i);
      exist_watches = map (λ text. text.now) (c.as_slice-exist.ensures.value i);
      child_watches = map (λ text. text.now) (c.as_slice-child.ensures.value i);
    }))))
    ∙ ap (λ l. drop c.args.start (take c.args.end (watches_of l))) c.self.view_is
