-- A search finds a place where it is among those that ascend: `searched`.
use Rattle.std.proofs.Common.{◌∙◌}
use Rattle.std.proofs.lemmas.List.Sorted.{searched}
use Rattle.zk_follow.proofs.Among.{search_says}
use Rattle.zk_follow.proofs.Skipping.{high}
use Rattle.zk_follow.proofs.queue.is_in.Goals as goal

pub returns : goal.returns
returns c =
    c.is_ok.ensures.value ∙ search_says c.args.places.now c.args.place c.binary_search.result
    (searched c.args.places.now c.args.place c.binary_search.result c.binary_search.ensures.position
    (high c.args.places.now c.requires))
