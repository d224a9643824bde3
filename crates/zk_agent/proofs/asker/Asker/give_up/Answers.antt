-- The type's invariant, that each call handed over waits for its reply, holds of those that are left: they are a filter (`All-filter`).
use Rattle.std.proofs.Common.{◌++◌, ◌∙◌, ap, map, not, sym, subst}
use Rattle.std.proofs.lemmas.List.{append-nil}
use Rattle.std.specs.Prelude.{All}
use Rattle.std.proofs.lemmas.List.Elements.{All-filter}
use Rattle.zk_client.specs.Clients.{view_of}
use Rattle.zk_calls.specs.declared.entry.Entry.{Entry}
use Rattle.zk_calls.specs.declared.entry.Ending.TheVariants.{Late}
use Rattle.zk_calls.specs.Lines.{is_ended}
use Rattle.zk_agent.specs.inner.Calls.{IsAsked}
use Rattle.zk_calls.specs.Lines.{ended_of}
use Rattle.zk_calls.proofs.Orders.{all_left}
use Rattle.zk_agent.specs.Telling.{ended_told, told_by}
use Rattle.zk_agent.proofs.asker.Asker.give_up.Goals as goal

pub returns-then-is_in_time-clause-line : goal.returns-then-is_in_time-clause-line
returns-then-is_in_time-clause-line g c =
    sym (all_left (is_ended (Late c.args.now)) c.args.self.now.line.entries.items (c.is_in_time.ensures c.if-is_in_time.true))

pub returns-then-is_in_time-clause-told : goal.returns-then-is_in_time-clause-told
returns-then-is_in_time-clause-told g c =
    let before = told_by c.args.actions.now.items in
    sym (append-nil before)
    ∙ ap (λ entries. before ++ map (ended_told (Late c.args.now)) (map ended_of entries))
    (sym (c.is_in_time.ensures c.if-is_in_time.true))

pub invariant_of-self : goal.invariant_of-self
invariant_of-self g c =
    let asked = IsAsked (view_of c.args.self.now.follower.client) in
    record {
      asked = subst (All asked) (sym c.in-Ok.ensures.line)
          (All-filter (λ (entry : Entry g.row.A.Denot). not (is_ended (Late c.args.now) entry)) asked
          c.args.self.now.line.entries.items c.args.self.now.asked);
    }
