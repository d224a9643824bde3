-- What is added one after the other is there.
use Rattle.std.proofs.Common.{◌<◌, ◌∙◌, ◌||◌, ap, sym, subst, arith}
use Rattle.std.specs.Prelude.{All}
use Rattle.zk_follow.specs.Following.{is_among}
use Rattle.zk_follow.proofs.index.Index.with_those_named.Goals as goal

pub returns-clause-below : goal.returns-clause-below
returns-clause-below g c =
    c.in_ok-add_all_named.ensures.below (c.in_ok-add_below.ensures.below
    (subst (All (λ at. at < c.args.self.now.count)) (sym c.new-all.ensures.items) (λ k d within. absurd (omega (arith, within)))))

pub returns-clause-had : goal.returns-clause-had
returns-clause-had g c = λ at fits e.
    c.in_ok-add_all_named.ensures.had at fits (c.in_ok-add_below.ensures.has at fits
    (ap (λ items. is_among at items || is_among at c.args.places.now) c.new-all.ensures.items ∙ e))
