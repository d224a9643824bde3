-- The number of children that is told is the number of names below the path: what `counted` ensures, for the names that
-- `names_later-children` shows to be there.
use Rattle.zk_nodes.specs.Path.{path_of}
use Rattle.zk_history.specs.Replay.{children_at}
use Rattle.zk_history.proofs.ViewLemmas.{names_first, names_later-children}
use Rattle.zk_history.proofs.history.History.children.Goals as goal

pub returns : goal.returns
returns g c =
    let p = path_of c.args.at.now in
    c.counted.ensures.counted (children_at 9223372036854775808 p c.args.self.now.transactions (names_first c.args.self.now p))
    (names_later-children c.args.self.now 9223372036854775808 p c.counted.ensures.sound)
