-- On each side the good answers stay: `as_map-good`, from what `keep_good` ensures.
use Rattle.std.proofs.Common.{ap, ◌∙◌}
use Rattle.zk_cache.specs.Cache.{with_good}
use Rattle.zk_cache.specs.Contents.{answer_of, names_in}
use Rattle.zk_cache.proofs.LookLemmas.{as_map-good}
use Rattle.zk_cache.proofs.cache.Cache.forget_stale.Goals as goal

pub returns : goal.returns
returns g c =
    (λ i. record {
      data_answers = as_map-good answer_of c.self.inside.data_answers c.keep_good.new.map c.keep_good.ensures i;
      child_answers = as_map-good names_in c.self.inside.child_answers c.keep_good-2.new.map c.keep_good-2.ensures i;
    })
    ∙ ap with_good c.self.view_is
