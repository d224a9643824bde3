-- No byte is left to be written to the new stream, by what `clear` ensures; the rest is by computation.
use Rattle.std.proofs.Common.{refl}
use Rattle.script_live.proofs.joint.Joint.hold.Goals as goal

pub returns-clause-flows : goal.returns-clause-flows
returns-clause-flows g c = (refl, refl, c.clear.ensures.items, refl)
