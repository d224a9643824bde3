-- An answer keeps the order by ticket and the limits: `answered_in_order`, from what `settle` ensures. Where no call has this ticket, the
-- line is as it was and nobody is told: `as_it_was` and `nobody_told`.
use Rattle.std.proofs.Common.{◌≡◌, ◌∙◌, List, true, refl, subst, sym}
use Rattle.zk_client.specs.Views.{outcome_view}
use Rattle.zk_calls.specs.declared.entry.Entry.{Entry}
use Rattle.zk_calls.specs.Orders.{in_order, is_below}
use Rattle.zk_calls.proofs.Answering.{as_it_was, nobody_told}
use Rattle.zk_calls.proofs.Rising.{answered_in_order}
use Rattle.zk_calls.proofs.line.Line.answer.Goals as goal

pub invariant_of-self : goal.invariant_of-self
invariant_of-self g c =
    let entries = c.args.self.now.entries.items in
    record {
      first_ones = c.settle.ensures.handed;
      by_ticket = λ rise. subst (λ (es : List (Entry g.row.A.Denot)). in_order is_below es ≡ true) (sym c.settle.ensures.entries)
          (answered_in_order is_below entries (λ entry. refl) (λ other entry. refl) c.args.ticket (outcome_view c.args.outcome)
          (c.args.self.now.by_ticket rise));
      by_limit = c.settle.ensures.limits;
    }

pub returns-in-None-clause-entries : goal.returns-in-None-clause-entries
returns-in-None-clause-entries g c =
    as_it_was c.args.ticket (outcome_view c.args.outcome) c.args.self.now.entries.items (sym c.place_of-place.ensures ∙ c.in-None.is)

pub returns-in-None-clause-told : goal.returns-in-None-clause-told
returns-in-None-clause-told g c =
    nobody_told c.args.ticket (outcome_view c.args.outcome) c.args.self.now.entries.items (sym c.place_of-place.ensures ∙ c.in-None.is)
