-- A create is below the parent where its path's parent has this text: `is_below-text`, from what `parent` and `==` ensure.
use Rattle.zk_nodes.proofs.PathTexts.{is_below-text}
use Rattle.zk_bench.proofs.sequence.is_made_below.Goals as goal

pub returns-in-Some : goal.returns-in-Some
returns-in-Some g c =
    rw c.in-Create.is
    (is_below-text c.in-Create.path c.args.parent.now _ c.requires c.in-Some.ensures.path c.in-Some.ensures.names _ c.eq.ensures)
