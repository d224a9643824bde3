-- The view is what the core's `forget_stale` ensures, and it stands after this item too: what `one_forget` ensures, rewritten.
use Rattle.std.proofs.Common.{subst, sym, ◌∷◌}
use Rattle.zk_turns.specs.Turns.{Forgets}
use Rattle.zk_turns.specs.View.{View}
use Rattle.zk_turns.specs.Rule.{Stands}
use Rattle.zk_client.proofs.client.Client.forget_stale.Goals as goal

pub returns-clause-view : goal.returns-clause-view
returns-clause-view g c = c.forget_stale.ensures.view c.args.self.now.reader.bytes

pub returns-clause-stands : goal.returns-clause-stands
returns-clause-stands g c = λ start items s. subst (λ (v : View). Stands start (Forgets ∷ items) v)
    (sym (c.forget_stale.ensures.view c.args.self.now.reader.bytes)) (c.one_forget.ensures start items _ s)
