-- Where no call waits for its turn there is no next one (`no_next`), and handing the first over changes nothing (`none_handed`).
use Rattle.std.proofs.Common.{◌∙◌, sym}
use Rattle.zk_calls.proofs.Answering.{no_next, none_handed}
use Rattle.zk_calls.proofs.line.Line.next.Goals as goal

pub returns-in_default-clause-next : goal.returns-in_default-clause-next
returns-in_default-clause-next g c = no_next c.args.self.now.entries.items (sym c.place_of_next.ensures ∙ c.in_default.is)

pub returns-in_default-clause-entries : goal.returns-in_default-clause-entries
returns-in_default-clause-entries g c =
    c.note_all.ensures ∙ none_handed c.args.self.now.entries.items (sym c.place_of_next.ensures ∙ c.in_default.is)
