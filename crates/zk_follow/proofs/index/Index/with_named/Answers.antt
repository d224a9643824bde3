-- What is there stays there when it is put in order.
use Rattle.zk_follow.proofs.index.Index.with_named.Goals as goal

pub returns-clause-below : goal.returns-clause-below
returns-clause-below g c = c.put_in_order.ensures.below c.args.self.now.count c.in_ok-all.ensures.below

pub returns-clause-had : goal.returns-clause-had
returns-clause-had g c = λ at fits e. c.put_in_order.ensures.has at (c.in_ok-all.ensures.had at fits e)

pub returns-clause-named : goal.returns-clause-named
returns-clause-named g c = λ k d fits e.
    c.put_in_order.ensures.has k (c.in_ok-all.ensures.named k d fits e)
