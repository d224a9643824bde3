-- A line with no calls is in order, and none has a limit.
use Rattle.std.proofs.Common.{◌≡◌, ◌∙◌, List, true, refl, subst, sym, ap, arith}
use Rattle.zk_calls.specs.declared.entry.Entry.{Entry}
use Rattle.zk_calls.specs.Orders.{in_order, is_below}
use Rattle.zk_calls.proofs.Soonest.{many}
use Rattle.zk_calls.proofs.line.Line.new.Goals as goal

pub invariant_of-result : goal.invariant_of-result
invariant_of-result g c = record {
  first_ones = (omega arith, λ k d below. absurd (omega arith));
  by_ticket = λ rise. subst (λ (es : List (Entry g.row.A.Denot)). in_order is_below es ≡ true) (sym c.new.ensures.items) refl;
  by_limit = λ limit. c.new-2.ensures limit ∙ sym (ap (many limit) c.new.ensures.items);
}
