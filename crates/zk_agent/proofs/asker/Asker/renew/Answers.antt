-- An expiry ends every call (`none_at_expiry`): the line is empty, so the type's invariant about calls handed over holds of none.
use Rattle.std.proofs.Common.{◌∙◌, sym, subst, arith}
use Rattle.std.specs.Prelude.{All}
use Rattle.zk_client.specs.Clients.{view_of}
use Rattle.zk_agent.specs.inner.Calls.{IsAsked}
use Rattle.zk_agent.proofs.Lines.{none_at_expiry}
use Rattle.zk_agent.proofs.asker.Asker.renew.Goals as goal

pub invariant_of-self : goal.invariant_of-self
invariant_of-self g c =
    record {
      asked = subst (All (IsAsked (view_of c.begin.new.follower.client)))
          (sym (c.in-Ok.ensures.line ∙ none_at_expiry c.args.self.now.line.entries.items))
          (λ k d below. absurd (omega arith));
    }

pub returns-in-Ok-clause-line : goal.returns-in-Ok-clause-line
returns-in-Ok-clause-line g c = c.in-Ok.ensures.line ∙ none_at_expiry c.args.self.now.line.entries.items
