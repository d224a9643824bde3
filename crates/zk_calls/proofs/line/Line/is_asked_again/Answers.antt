-- By whether a call has the ticket: it is the one that is looked at (`asked_again_there`), or there is none (`none_asked_again`).
use Rattle.std.proofs.Common.{◌∙◌, sym}
use Rattle.zk_calls.proofs.Answering.{asked_again_there, none_asked_again}
use Rattle.zk_calls.proofs.line.Line.is_asked_again.Goals as goal

pub returns-in-Some : goal.returns-in-Some
returns-in-Some g c =
    c.is_read.ensures
    ∙ asked_again_there c.args.ticket c.args.self.now.entries.items c.in-Some.place (sym c.place_of.ensures ∙ c.in-Some.is)
    c.index.result.now c.index.ensures

pub returns-in-None : goal.returns-in-None
returns-in-None g c = none_asked_again c.args.ticket c.args.self.now.entries.items (sym c.place_of.ensures ∙ c.in-None.is)
