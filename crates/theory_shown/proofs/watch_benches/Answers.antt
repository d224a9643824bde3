-- Each of the benches is one of them.
use Rattle.std.proofs.Common.{refl}
use Rattle.theory_shown.proofs.watch_benches.Goals as goal

pub watch_past-requires-clause-left : goal.watch_past-requires-clause-left
watch_past-requires-clause-left g c = λ k d there. (c.requires k d there, λ others. others k d there refl)
