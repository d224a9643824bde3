-- In a connected session silence and a ping are due from a first moment on each, as `first_past` ensures, and the earlier of these is the
-- first at which either is due: `due_first`.
use Rattle.std.proofs.Common.{sym}
use Rattle.zk_session.proofs.Deadlines.{due_first}
use Rattle.zk_session.proofs.session.Session.deadline.Goals as goal

pub returns-in-Connected : goal.returns-in-Connected
returns-in-Connected g c =
    due_first _ _ c.from-in-Connected.result c.from-in-Connected-2.result c.first_past-in-Connected.result
    c.first_past-in-Connected-2.result c.earlier.result (sym c.self.view_is) c.in-Connected.is
    c.from-in-Connected.ensures c.from-in-Connected-2.ensures c.first_past-in-Connected.ensures
    c.first_past-in-Connected-2.ensures c.earlier.ensures
