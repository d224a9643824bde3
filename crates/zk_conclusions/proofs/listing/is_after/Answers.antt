-- Where one was found, the name is after it as `is_before` tests it: by what `is_before` and `name_at` ensure, rewritten.
use Rattle.std.proofs.Common.{ℕ, Option, sym, ap, ◌∙◌}
use Rattle.zk_nodes.specs.Path.{Name}
use Rattle.zk_conclusions.specs.Numbers.{is_before}
use Rattle.zk_conclusions.specs.inner.Predecessors.{is_after}
use Rattle.zk_conclusions.proofs.listing.is_after.Goals as goal

pub returns-in-Some : goal.returns-in-Some
returns-in-Some g c = c.is_before.ensures ∙ ap (λ (n : Name). is_before n c.args.name.now) c.name_at.ensures
    ∙ ap (λ (o : Option ℕ). is_after c.args.names.now o c.args.name.now) (sym c.in-Some.is)
