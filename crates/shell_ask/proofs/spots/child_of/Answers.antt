-- The child is a step deeper (`add-one`), and its path and its name are what the two calls of `join` ensure.
use Rattle.std.proofs.Common.{add-one}
use Rattle.shell_ask.proofs.spots.child_of.Goals as goal

pub returns-clause-ok : goal.returns-clause-ok
returns-clause-ok g c = λ i.
    record { depth = add-one c.args.spot.now.depth i; path = c.in_ok-join.ensures.path i; name = c.in_ok-join-2.ensures.path i }
