-- One watch more on the list's side: what `add_watch` ensures, with `watch_more` for nodes and `child_watch_more` for children.
use Rattle.std.proofs.Common.{ap, sym, ◌∙◌}
use Rattle.zk_nodes.specs.Path.{path_of}
use Rattle.zk_nodes.specs.inner.Names.{names_of}
use Rattle.zk_bench.specs.inner.Serving.{watched}
use Rattle.zk_bench.specs.Serving.{watches_of}
use Rattle.zk_bench.specs.inner.Restoring.{with_watch, side_of}
use Rattle.zk_bench.proofs.Restored.{on_data, watch_more, child_watch_more}
use Rattle.zk_bench.proofs.rewatch.watch.Goals as goal

pub returns-in_ok-add_watch-in-Data : goal.returns-in_ok-add_watch-in-Data
returns-in_ok-add_watch-in-Data g c = λ h.
    ap (λ nodes. watches_of nodes (names_of c.args.watches.now.child)) c.in_ok-add_watch-in-Data.ensures
    ∙ watch_more (names_of c.args.watches.now.«data») (names_of c.args.watches.now.child) c.args.path.now h
    ∙ on_data c.args.list (watched c.args.watches.now) c.args.path.now c.in-Data.is

pub returns-in_ok-add_watch-in-Child : goal.returns-in_ok-add_watch-in-Child
returns-in_ok-add_watch-in-Child g c = λ h.
    ap (λ parents. watches_of (names_of c.args.watches.now.«data») parents) c.in_ok-add_watch-in-Child.ensures
    ∙ child_watch_more (names_of c.args.watches.now.«data») (names_of c.args.watches.now.child) c.args.path.now h
    ∙ ap (λ list. with_watch (side_of list) (path_of c.args.path.now) (watched c.args.watches.now)) (sym c.in-Child.is)
