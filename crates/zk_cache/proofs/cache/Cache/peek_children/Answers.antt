-- The look-up gives what the view keeps of the path's children: `seen`, from what `peek` ensures.
use Rattle.std.proofs.Common.{◌∙◌}
use Rattle.std.specs.FinMap as finite
use Rattle.zk_cache.specs.Contents.{names_in}
use Rattle.zk_cache.proofs.LookLemmas.{seen}
use Rattle.zk_cache.proofs.cache.Cache.peek_children.Goals as goal

pub returns : goal.returns
returns g c = seen names_in (λ r. r.now) c.self.inside.child_answers c.args.path.now c.peek.result c.peek.ensures
    ∙ (λ i. finite.get (c.self.view_is i).child_answers c.args.path.now)
