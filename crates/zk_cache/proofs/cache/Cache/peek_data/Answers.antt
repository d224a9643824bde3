-- The look-up gives what the view keeps of the path's data: `seen`, from what `peek` ensures.
use Rattle.std.proofs.Common.{◌∙◌}
use Rattle.std.specs.FinMap as finite
use Rattle.zk_cache.specs.Contents.{answer_of}
use Rattle.zk_cache.proofs.LookLemmas.{seen}
use Rattle.zk_cache.proofs.cache.Cache.peek_data.Goals as goal

pub returns : goal.returns
returns g c = seen answer_of (λ r. r.now) c.self.inside.data_answers c.args.path.now c.peek.result c.peek.ensures
    ∙ (λ i. finite.get (c.self.view_is i).data_answers c.args.path.now)
