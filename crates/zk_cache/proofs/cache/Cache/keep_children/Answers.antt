-- The side of children gets the names at the path: `as_map-put`, from what `put` and `set_of` ensure. The other side stays.
use Rattle.std.proofs.Common.{◌≡◌, ◌∙◌, string_bytes, w64, to_z, of_z}
use Rattle.std.proofs.lemmas.Int.{to_z-of_z}
use Rattle.zk_cache.specs.Look.{as_map}
use Rattle.zk_cache.specs.Cache.{with_names}
use Rattle.zk_cache.specs.Contents.{answer_of, names_in, seen_by}
use Rattle.zk_cache.proofs.KeptLemmas.{on_ok}
use Rattle.zk_cache.proofs.LookLemmas.{as_map-put}
use Rattle.zk_cache.proofs.cache.Cache.keep_children.Goals as goal

pub returns-clause-ok : goal.returns-clause-ok
returns-clause-ok g c =
    let zxid : to_z w64 (of_z w64 c.args.pzxid) ≡ c.args.pzxid = to_z-of_z w64 c.args.pzxid c.ranges.pzxid in
    on_ok c.put.result
    (λ h.
    (λ i. record {
      data_answers = as_map (seen_by answer_of) c.self.inside.data_answers;
      child_answers = as_map-put (seen_by names_in) c.self.inside.child_answers c.put.new.map (string_bytes c.into_text.result) _ h i;
    })
    ∙ (λ i. with_names (c.self.view_is i) (c.into_text.ensures i) (record { names = c.in_ok-names.ensures i; pzxid = zxid i })))
    c.put.ensures.ok
