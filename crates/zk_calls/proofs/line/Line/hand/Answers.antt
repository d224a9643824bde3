-- Handing a call over leaves the order by ticket and the limits: `handed_in_order`, from what `turn`'s `hand` ensures.
use Rattle.std.proofs.Common.{◌≡◌, List, true, refl, subst, sym}
use Rattle.zk_calls.specs.declared.entry.Entry.{Entry}
use Rattle.zk_calls.specs.Orders.{in_order, is_below}
use Rattle.zk_calls.proofs.Rising.{handed_in_order}
use Rattle.zk_calls.proofs.line.Line.hand.Goals as goal

pub invariant_of-self : goal.invariant_of-self
invariant_of-self g c =
    let entries = c.args.self.now.entries.items in
    record {
      first_ones = c.hand.ensures.handed;
      by_ticket = λ rise. subst (λ (es : List (Entry g.row.A.Denot)). in_order is_below es ≡ true) (sym c.hand.ensures.entries)
          (handed_in_order is_below entries (λ entry. refl) (λ other entry. refl) (c.args.self.now.by_ticket rise));
      by_limit = c.hand.ensures.limits c.args.self.now.limits c.args.self.now.by_limit;
    }
