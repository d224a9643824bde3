-- The lists stay sound without the path on side Child: what `take_out` ensures, and `sound-child_fired`.
use Rattle.zk_watches.proofs.SoundLemmas.{sound-child_fired}
use Rattle.zk_watches.proofs.registry.Registry.fire_child.Goals as goal

pub invariant_of-self : goal.invariant_of-self
invariant_of-self g c = rw c.take_out.ensures.rest (sound-child_fired _ _ c.self.invariant)
