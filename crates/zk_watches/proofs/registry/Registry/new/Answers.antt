-- Three empty lists are sound: what `new` of each ensures, rewritten, and `sound-none`.
use Rattle.zk_watches.proofs.SoundLemmas.{sound-none}
use Rattle.zk_watches.proofs.registry.Registry.new.Goals as goal

pub invariant_of-result : goal.invariant_of-result
invariant_of-result g c = rw (c.new.ensures, c.new-2.ensures, c.new-3.ensures) sound-none
