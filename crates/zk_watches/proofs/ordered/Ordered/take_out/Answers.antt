-- The rows left are numbered below the same next number: what `take_out` of the map ensures, applied to the invariant.
use Rattle.zk_watches.proofs.ordered.Ordered.take_out.Goals as goal

pub invariant_of-self : goal.invariant_of-self
invariant_of-self g c = c.take_out.ensures.numbered _ c.self.invariant
