-- Where it is known that none ends, all are left: `all_left`. Else the calls that are left keep their order (`in_order-filter`), and as
-- `handed` is 0, nothing is claimed of the first ones.
use Rattle.std.proofs.Common.{◌≡◌, ◌∙◌, ap, List, not, true, subst, sym, arith}
use Rattle.zk_calls.specs.declared.entry.Entry.{Entry}
use Rattle.zk_calls.specs.Lines.{is_ended}
use Rattle.zk_calls.specs.Orders.{in_order, is_below}
use Rattle.zk_calls.proofs.Soonest.{many}
use Rattle.zk_calls.proofs.Orders.{all_left, in_order-filter}
use Rattle.zk_calls.proofs.line.Line.end.Goals as goal

pub returns-then-has_none-clause-entries : goal.returns-then-has_none-clause-entries
returns-then-has_none-clause-entries g c =
    sym (all_left (is_ended c.args.ending) c.args.self.now.entries.items (c.has_none.ensures c.if-has_none.true))

pub invariant_of-self : goal.invariant_of-self
invariant_of-self g c =
    let entries = c.args.self.now.entries.items in
    let kept = λ (entry : Entry g.row.A.Denot). not (is_ended c.args.ending entry) in
    record {
      first_ones = (omega arith, λ k d below. absurd (omega arith));
      by_ticket = λ rise. subst (λ (es : List (Entry g.row.A.Denot)). in_order is_below es ≡ true) (sym c.remove.ensures)
          (in_order-filter is_below kept entries (c.args.self.now.by_ticket rise));
      by_limit = λ limit. c.release.ensures limit ∙ sym (ap (many limit) c.remove.ensures);
    }
