-- The `Stat`, or none, is told with the set of names that `names_later-children` shows to be the children's; the rest is rewriting.
use Rattle.std.proofs.Common.{rules}
use Rattle.zk_nodes.specs.Path.{path_of}
use Rattle.zk_history.specs.HistoryView.{natural}
use Rattle.zk_history.proofs.ViewLemmas.{names_later-children}
use Rattle.zk_history.proofs.history.History.stat_at.Goals as goal

pub returns-in-Some-clause-told : goal.returns-in-Some-clause-told
returns-in-Some-clause-told g c =
    let children = names_later-children c.args.self.now (natural c.args.z) (path_of c.args.path.now) c.found.ensures.sound in
    (_, children, search (rules, children))

pub returns-in-None-clause-told : goal.returns-in-None-clause-told
returns-in-None-clause-told g c =
    let children = names_later-children c.args.self.now (natural c.args.z) (path_of c.args.path.now) c.found.ensures.sound in
    (_, children, search (rules, children))
