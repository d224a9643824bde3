-- What is added is there, and stays there when it is put in order.
use Rattle.std.proofs.Common.{◌<◌, arith, subst, sym}
use Rattle.std.specs.Prelude.{All}
use Rattle.zk_follow.proofs.index.Index.named_by.Goals as goal

pub returns-clause-below : goal.returns-clause-below
returns-clause-below g c =
    let count = c.args.self.now.count in
    c.put_in_order.ensures.below count
    (c.in_ok-add_named.ensures.below
    (subst (All (λ at. at < count)) (sym c.new-all.ensures.items) (λ k d within. absurd (omega (arith, within)))))

pub returns-clause-named : goal.returns-clause-named
returns-clause-named g c = λ k d fits e. c.put_in_order.ensures.has k (c.in_ok-add_named.ensures.named k d fits e)
