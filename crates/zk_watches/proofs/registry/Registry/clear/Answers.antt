-- Three empty lists are sound: what `clear` of each ensures, rewritten, and `sound-none`.
use Rattle.zk_watches.proofs.SoundLemmas.{sound-none}
use Rattle.zk_watches.proofs.registry.Registry.clear.Goals as goal

pub invariant_of-self : goal.invariant_of-self
invariant_of-self g c = rw (c.clear.ensures, c.clear-2.ensures, c.clear-3.ensures) sound-none
