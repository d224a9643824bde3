-- What `watch` ensures, and that it agrees with the history (`prints_past`, `watches_past`).
use Rattle.std.proofs.Common.{subst}
use Rattle.zk_nodes.specs.History.{IsHistory}
use Rattle.zk_history.specs.HistoryView.{history_of, HistoryView}
use Rattle.theory_shown.proofs.Dialled.{prints_past, watches_past}
use Rattle.theory_shown.proofs.watch_past.Goals as goal

pub returns-clause-over : goal.returns-clause-over
returns-clause-over g c = λ is. let said = c.watch.ensures.over is in (
  said.0,
  watches_past g.row.A.Denot g.K.Past.past
      (subst (λ (h : HistoryView). IsHistory (history_of h)) c.requires.past c.last_zxid.ensures.history) _ _ _ _ _ _ _ said.1,
  said.2,
)

pub returns-clause-never : goal.returns-clause-never
returns-clause-never g c = λ is. let said = c.watch.ensures.never is in (
  said.0,
  watches_past g.row.A.Denot g.K.Past.past
      (subst (λ (h : HistoryView). IsHistory (history_of h)) c.requires.past c.last_zxid.ensures.history) _ _ _ _ _ _ _ said.1,
  said.2,
)

pub returns-clause-printed : goal.returns-clause-printed
returns-clause-printed g c = λ is. let said = c.watch.ensures.printed is in (
  said.0,
  prints_past g.row.A.Denot g.K.Past.past
      (subst (λ (h : HistoryView). IsHistory (history_of h)) c.requires.past c.last_zxid.ensures.history) _ _ _ _ _ said.1,
  said.2,
)
