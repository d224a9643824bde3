-- By what `names` finds in the tree: where there is nothing, no node is there, by `names_none`; else the texts are the names of the
-- children, by `lists`, and they fit a reply where the set of names does, by `list_fits`.
use Rattle.std.proofs.Common.{refl, sym, ap, ◌∙◌}
use Rattle.zk_nodes.specs.Path.{path_of}
use Rattle.zk_nodes.specs.History.{tree_at}
use Rattle.zk_history.specs.HistoryView.{history_of, natural}
use Rattle.zk_history.specs.Shown.{names_told}
use Rattle.zk_bench.proofs.Answered.{lists, names_none}
use Rattle.zk_bench.proofs.Sized.{list_fits}
use Rattle.zk_bench.proofs.reads.children_at.Goals as goal

pub returns-in_default-clause-misses : goal.returns-in_default-clause-misses
returns-in_default-clause-misses g c = λ is code.
    let tree = tree_at (history_of c.args.tree.now.history.now) (natural c.args.tree.now.zxid) in
    (refl, names_none tree (path_of c.args.text.now) (ap names_told (sym c.in_default.is) ∙ c.in_ok-names.ensures is))

pub returns-clause-found : goal.returns-clause-found
returns-clause-found g c = λ is.
    let tree = tree_at (history_of c.args.tree.now.history.now) (natural c.args.tree.now.zxid) in
    lists tree (path_of c.args.text.now) c.in-Some.names.names c.in-Some.names.pzxid _
    (ap names_told (sym c.in-Some.is) ∙ c.in_ok-names.ensures is) c.in_ok-children.ensures.is

pub returns-clause-fits : goal.returns-clause-fits
returns-clause-fits g c = λ names is children small.
    let tree = tree_at (history_of c.args.tree.now.history.now) (natural c.args.tree.now.zxid) in
    list_fits tree (path_of c.args.text.now) c.in-Some.names.names c.in-Some.names.pzxid names _ (ap names_told (sym c.in-Some.is)
    ∙ c.in_ok-names.ensures is) c.in_ok-children.ensures.is c.in_ok-children.ensures.ordered children small
