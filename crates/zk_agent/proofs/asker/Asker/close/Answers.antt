-- The type's invariant, that each call handed over waits for its reply: after a close the line is empty, so it holds of none.
use Rattle.std.proofs.Common.{sym, subst, arith}
use Rattle.std.specs.Prelude.{All}
use Rattle.zk_client.specs.Clients.{view_of}
use Rattle.zk_agent.specs.inner.Calls.{IsAsked}
use Rattle.zk_agent.proofs.asker.Asker.close.Goals as goal

pub invariant_of-self : goal.invariant_of-self
invariant_of-self g c =
    record {
      asked =
          subst (All (IsAsked (view_of c.args.self.now.follower.client))) (sym c.in-Ok.ensures.line) (λ k d below. absurd (omega arith));
    }
