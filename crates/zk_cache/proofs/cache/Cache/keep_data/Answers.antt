-- The side of data gets the answer at the path: `as_map-with_answer`, from what `keep` ensures. By `is_kept` a kept path is in the map.
use Rattle.std.proofs.Common.{is_some, string_bytes, ◌∙◌}
use Rattle.std.specs.FinMap as finite
use Rattle.zk_cache.specs.Look.{as_map}
use Rattle.zk_cache.specs.Cache.{with_data}
use Rattle.zk_cache.specs.Contents.{answer_of, names_in, seen_by}
use Rattle.zk_cache.proofs.KeptLemmas.{on_ok, as_map-with_answer}
use Rattle.zk_cache.proofs.LookLemmas.{is_kept}
use Rattle.zk_cache.proofs.cache.Cache.keep_data.Goals as goal

pub returns-clause-ok : goal.returns-clause-ok
returns-clause-ok g c =
    on_ok c.keep.result
    (λ h.
    (λ i. record {
      data_answers = as_map-with_answer c.self.inside.data_answers c.keep.new.map (string_bytes c.into_text.result) c.args.answer h i;
      child_answers = as_map (seen_by names_in) c.self.inside.child_answers;
    })
    ∙ (λ i. with_data (c.self.view_is i) (c.into_text.ensures i) (answer_of c.args.answer)))
    c.keep.ensures.ok

pub returns-clause-there : goal.returns-clause-there
returns-clause-there g c =
    λ h. c.keep.ensures.there (is_kept answer_of c.self.inside.data_answers (string_bytes c.into_text.result)
    ∙ (λ i. is_some (finite.get (c.self.view_is i).data_answers (c.into_text.ensures i))) ∙ h)
