-- No call of the ticket is found, so none ends (`none_by_ticket`); or the first limit has not come, so none is late (`none_by_limit`).
use Rattle.std.proofs.Common.{◌∙◌, ap, not}
use Rattle.zk_calls.proofs.Rising.{none_by_limit, none_by_ticket}
use Rattle.zk_calls.proofs.line.Line.has_none.Goals as goal

pub returns-then-self : goal.returns-then-self
returns-then-self g c = λ none. none_by_ticket c.args.ending c.in-LostOf.ticket c.place_of.result c.args.self.now.entries.items
    c.in-LostOf.is c.place_of.ensures (c.is_none.ensures ∙ ap not none)

pub returns-in-Late : goal.returns-in-Late
returns-in-Late g c = λ none. none_by_limit c.args.ending c.in-Late.now c.deadline.result c.has_come.result c.args.self.now.entries.items
    c.in-Late.is c.deadline.ensures c.has_come.ensures none
