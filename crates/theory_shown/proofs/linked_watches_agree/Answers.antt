-- What the streams say is what a bench does beside the watch (`linked_watch_agrees`), so what is printed agrees with its history.
use Rattle.theory_shown.proofs.Linked.{linked_end_agrees, linked_watch_agrees}
use Rattle.theory_shown.proofs.linked_watches_agree.Goals as goal

pub returns-clause-printed : goal.returns-clause-printed
returns-clause-printed g c = λ lines.
    linked_watch_agrees g.row.A.Denot (record { history = c.args.bench.now.history; lines = lines }) c.known_of.ensures

pub returns-clause-over : goal.returns-clause-over
returns-clause-over g c = λ lines.
    linked_end_agrees g.row.A.Denot (record { history = c.args.bench.now.history; lines = lines }) c.known_of.ensures
