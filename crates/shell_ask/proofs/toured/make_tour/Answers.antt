-- The tour begins with a new session and no connection, and walks as `walked` ensures, rewritten by what `now` and `saturating_add` ensure;
-- a call at which it stops is not done (`undone`).
use Rattle.std.proofs.Common.{ℕ, ap, subst, None, of_z, to_z, w32}
use Rattle.std.specs.Prelude.{unsigned_abs}
use Rattle.zk_agent.specs.Telling.{told_by}
use Rattle.zk_driver.specs.Flowing.{flow_of}
use Rattle.zk_driver.specs.declared.engine.Engine.{Engine}
use Rattle.shell_ask.specs.inner.Trees.{ending_view}
use Rattle.shell_ask.specs.Trees.{scope_of, WalksFrom}
use Rattle.shell_ask.proofs.Walking.{undone}
use Rattle.shell_ask.proofs.toured.make_tour.Goals as goal

pub returns-in-Ok-tour-clause-tours : goal.returns-in-Ok-tour-clause-tours
returns-in-Ok-tour-clause-tours g c =
    let scope = scope_of c.args.plan.now in
    let tour = c.in-Ok-tour.tour in
    let know = λ (e : Engine g.row.A.Denot g.row.D-Stream.Denot).
    flow_of g.D.Stream.Read.remaining g.D.Stream.Write.contents g.D.Stream.Stream.far g.D.Stream.Stream.state e None in
    let start = know c.in-Ok.driver.engine in
    let until = c.saturating_add-until.result in
    let first : WalksFrom start until scope (ending_view tour.ending) tour.printed.items
    = subst (λ (e : Engine g.row.A.Denot g.row.D-Stream.Denot).
    WalksFrom (know e) until scope (ending_view tour.ending) tour.printed.items) c.now.ensures.engine c.in-Ok-tour.ensures in
    record {
      timeout = unsigned_abs (to_z w32 (of_z w32 c.timeout_for-timeout_ms.result));
      start = start;
      begins = c.in-Ok.ensures.client;
      parted = c.in-Ok.ensures.channel;
      untold = ap told_by c.in-Ok.ensures.waiting;
      from = c.now.result;
      walks = subst (λ (u : ℕ). WalksFrom start u scope (ending_view tour.ending) tour.printed.items) c.saturating_add-until.ensures first;
    }

pub returns-in-Ok-tour-clause-undone : goal.returns-in-Ok-tour-clause-undone
returns-in-Ok-tour-clause-undone g c =
    let walks = c.in-Ok-tour.ensures in undone walks.bounds walks.last (ending_view c.in-Ok-tour.tour.ending) walks.ends
