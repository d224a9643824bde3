-- Without a close late calls wait no more, and those left are in time (`late_left`); after a close none waits (`closed`).
use Rattle.std.proofs.Common.{◌++◌, refl, sym, ap, subst, arith, ◌∙◌}
use Rattle.std.specs.Prelude.{All}
use Rattle.zk_client.specs.Clients.{view_of}
use Rattle.zk_follow.specs.declared.follower.Follower.{Follower}
use Rattle.zk_calls.specs.declared.entry.Ending.TheVariants.{Late}
use Rattle.zk_calls.specs.Lines.{left}
use Rattle.zk_agent.specs.Agents.{trail_of, GivesUp}
use Rattle.zk_agent.specs.Calls.{endings, IsInTime}
use Rattle.zk_agent.proofs.Closing.{is_shut, not_closed}
use Rattle.zk_agent.proofs.Lines.{late_left}
use Rattle.zk_agent.proofs.Moves.{closed, one, trail_eq}
use Rattle.zk_agent.proofs.Saying.{both_ok, on_ok}
use Rattle.zk_agent.proofs.agent.Agent.give_up.Goals as goal

pub returns-clause-comes : goal.returns-clause-comes
returns-clause-comes g c =
    let old = trail_of c.args.self.now c.args.actions.now.items in
    let new = trail_of (record c.args.self.now { asker = c.give_up.new.self }) c.give_up.new.actions.items in
    both_ok c.give_up.result (λ line told.
    one c.args.now (GivesUp c.args.now) old new refl refl refl
    (trail_eq (record old { line = left (Late c.args.now) old.line; told = old.told ++ endings (Late c.args.now) old.line }) new
    (ap (λ (f : Follower g.row.A.Denot). view_of f.client) c.give_up.ensures.follower)
    (ap (λ (f : Follower g.row.A.Denot). f.subjects.items) c.give_up.ensures.follower) line refl refl refl told))
    c.give_up.ensures.line c.give_up.ensures.told

pub returns-clause-limits : goal.returns-clause-limits
returns-clause-limits g c =
    on_ok _ _ c.give_up.result (λ line.
    subst (All (IsInTime c.args.now)) (sym line) (late_left c.args.now c.args.self.now.asker.line.entries.items)) c.give_up.ensures.line

pub returns-clause-closed : goal.returns-clause-closed
returns-clause-closed g c = λ is.
    absurd (not_closed (view_of c.args.self.now.asker.follower.client).standing.state (sym c.is_closed.ensures ∙ c.if-is_closed.false) is)

pub returns-then-is_closed-clause-comes : goal.returns-then-is_closed-clause-comes
returns-then-is_closed-clause-comes g c =
    let old = trail_of c.args.self.now c.args.actions.now.items in
    let new = trail_of (record c.args.self.now { asker = c.close.new.self }) c.close.new.actions.items in
    closed c.close.result c.args.now old new
    (is_shut (view_of c.args.self.now.asker.follower.client).standing.state (sym c.is_closed.ensures ∙ c.if-is_closed.true))
    (ap (λ (f : Follower g.row.A.Denot). view_of f.client) c.close.ensures.follower)
    (ap (λ (f : Follower g.row.A.Denot). f.subjects.items) c.close.ensures.follower) c.close.ensures.line refl refl refl
    c.close.ensures.told

pub returns-then-is_closed-clause-limits : goal.returns-then-is_closed-clause-limits
returns-then-is_closed-clause-limits g c =
    on_ok _ _ c.close.result (λ line. subst (All (IsInTime c.args.now)) (sym line) (λ k d below. absurd (omega arith))) c.close.ensures.line

pub returns-then-is_closed-clause-closed : goal.returns-then-is_closed-clause-closed
returns-then-is_closed-clause-closed g c = λ is. c.close.ensures.line
