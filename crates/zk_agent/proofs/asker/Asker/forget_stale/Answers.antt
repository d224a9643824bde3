-- The type's invariant, that each call handed over waits for its reply, does not read the cache, and nothing else changes.
use Rattle.std.proofs.Common.{subst, sym}
use Rattle.std.specs.Prelude.{All}
use Rattle.zk_agent.specs.inner.Calls.{IsAsked}
use Rattle.zk_agent.proofs.asker.Asker.forget_stale.Goals as goal

pub invariant_of-self : goal.invariant_of-self
invariant_of-self g c =
    let items = c.args.self.now.line.entries.items in
    record { asked = subst (λ after. All (IsAsked after) items) (sym c.forget_stale.ensures.view) c.args.self.now.asked }
