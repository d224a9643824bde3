-- Each that is looked at is told of, as `tell_each` ensures of the slice of all of them.
use Rattle.std.proofs.Common.{ℕ, List, nat_eq, subst}
use Rattle.std.specs.List.{FoldsTo}
use Rattle.indexmap.specs.IndexMap.{get}
use Rattle.zk_client.specs.Clients.{view_of}
use Rattle.zk_contend.specs.Collections.{TellsAt}
use Rattle.zk_contend.specs.inner.Rolls.{hall}
use Rattle.zk_contend.proofs.collection.Contenders.tell.Goals as goal

pub returns-clause-tells : goal.returns-clause-tells
returns-clause-tells g c =
    subst (λ (l : List ℕ). FoldsTo (TellsAt (view_of c.args.client.now)) (hall (get nat_eq c.args.self.now.all) c.args.news.now.items) l
    (hall (get nat_eq c.tell_each.new.all) c.tell_each.new.news.items))
    c.as_slice.ensures.value c.in_ok-tell_each.ensures
