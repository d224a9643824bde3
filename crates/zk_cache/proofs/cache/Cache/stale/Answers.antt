-- By the side: its answer at the path is stale (`as_map-stale`, from what `mark_stale` ensures), and the other side stays.
use Rattle.std.proofs.Common.{ap, sym, ◌∙◌}
use Rattle.zk_nodes.specs.declared.side.Side.TheVariants.{Data, Child}
use Rattle.zk_cache.specs.Look.{as_map}
use Rattle.zk_cache.specs.Cache.{with_stale}
use Rattle.zk_cache.specs.Contents.{answer_of, names_in, seen_by}
use Rattle.zk_cache.proofs.LookLemmas.{as_map-stale}
use Rattle.zk_cache.proofs.cache.Cache.stale.Goals as goal

pub returns-in-Data : goal.returns-in-Data
returns-in-Data g c =
    (λ i. record {
      data_answers = as_map-stale answer_of c.self.inside.data_answers c.mark_stale.new.map c.args.path.now c.mark_stale.ensures i;
      child_answers = as_map (seen_by names_in) c.self.inside.child_answers;
    })
    ∙ ap (λ k. with_stale k Data c.args.path.now) c.self.view_is
    ∙ ap (λ s. with_stale c.args.self.now s c.args.path.now) (sym c.in-Data.is)

pub returns-in-Child : goal.returns-in-Child
returns-in-Child g c =
    (λ i. record {
      data_answers = as_map (seen_by answer_of) c.self.inside.data_answers;
      child_answers =
          as_map-stale names_in c.self.inside.child_answers c.mark_stale-in-Child.new.map c.args.path.now c.mark_stale-in-Child.ensures i;
    })
    ∙ ap (λ k. with_stale k Child c.args.path.now) c.self.view_is
    ∙ ap (λ s. with_stale c.args.self.now s c.args.path.now) (sym c.in-Child.is)
