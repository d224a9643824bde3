-- Where a child has no path the walk ends as misnamed: by what `spots_below` ensures, rewritten by what `names_within` ensures.
use Rattle.std.proofs.Common.{List, refl, subst}
use Rattle.zk_nodes.specs.Path.{Text}
use Rattle.shell_ask.specs.Trees.{AreInOrder}
use Rattle.shell_ask.proofs.walk.Walk.open.Goals as goal

pub returns-then-is_of_text-clause-some : goal.returns-then-is_of_text-clause-some
returns-then-is_of_text-clause-some g c =
    let found = c.in-Err.ensures.err (c.is_of_text.ensures.text c.if-is_of_text.true) in
    (found.0, found.1, subst (λ (names : List Text). AreInOrder found.0 names) c.names_within.ensures found.2, found.3, found.4, refl, refl)
