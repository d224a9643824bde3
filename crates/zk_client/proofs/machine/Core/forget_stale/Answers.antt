-- The cache with its good answers alone is the forgotten one: `good-kept`, inside the view.
use Rattle.std.proofs.Common.{ap}
use Rattle.zk_turns.specs.View.{View, Cache}
use Rattle.zk_client.specs.inner.Seen.{view_with}
use Rattle.zk_client.proofs.CacheLemmas.{good-kept}
use Rattle.zk_client.proofs.machine.Core.forget_stale.Goals as goal

pub returns-clause-view : goal.returns-clause-view
returns-clause-view g c = λ held. ap (λ (kept : Cache). let view : View = record (view_with held c.args.self.now) { cache = kept } in view)
    (good-kept c.args.self.now.cache c.forget_stale.new.self c.forget_stale.ensures)
