-- A path lies right below another exactly where its parent's text is the other's: `is_below-text`.
use Rattle.zk_nodes.proofs.PathTexts.{is_below-text}
use Rattle.zk_history.proofs.place.is_right_below.Goals as goal

pub returns-in-Some : goal.returns-in-Some
returns-in-Some g c =
    is_below-text c.args.path.now c.args.text.now _ c.requires c.in-Some.ensures.path c.in-Some.ensures.names _ c.eq.ensures
