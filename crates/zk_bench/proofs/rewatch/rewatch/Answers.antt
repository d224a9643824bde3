-- What `missed` finds is the check of the path in the tree, by `missed_is`: an event is told, by `one_told`, and where there is none, the
-- path is watched, by `one_watched`.
use Rattle.std.proofs.Common.{ℕ, pos, Option, ◌≡◌, refl, ◌∙◌, rules, to_z, of_z, w64}
use Rattle.zk_nodes.specs.Path.{path_of}
use Rattle.zk_nodes.specs.History.{tree_at}
use Rattle.zk_history.specs.HistoryView.{history_of, natural}
use Rattle.zk_nodes.specs.PathFault.{IsPath}
use Rattle.zk_nodes.proofs.PathLemmas.{IsPath-absolute}
use Rattle.zk_records.specs.declared.event.Event.{Event}
use Rattle.zk_bench.specs.inner.Serving.{watched}
use Rattle.zk_bench.specs.inner.Restoring.{check_of, missed_of}
use Rattle.zk_bench.proofs.Restored.{missed_is, one_told, one_watched}
use Rattle.zk_bench.proofs.rewatch.rewatch.Goals as goal
use Rattle.zk_bench.proofs.rewatch.rewatch.Goals.{In_ok-stat}

-- what was missed at the path
missed_here : (g : _) (c : In_ok-stat g) (event : Option Event) (since : ℕ) → IsPath c.args.path.now → c.args.relative ≡ pos since
    → event ≡ missed_of c.args.list c.in_ok-stat.field-0 (to_z w64 (of_z w64 c.args.relative))
    → check_of c.args.list since (tree_at (history_of c.args.tree.now.history.now) (natural c.args.tree.now.zxid) (path_of c.args.path.now))
    ≡ event
missed_here g c event since is e missed =
    let ranged : to_z w64 (of_z w64 c.args.relative) ≡ c.args.relative = search rules in
    missed_is c.args.list c.in_ok-stat.field-0 _ since (tree_at (history_of c.args.tree.now.history.now) (natural c.args.tree.now.zxid))
    (path_of c.args.path.now) event (c.in_ok-stat.ensures is) (ranged ∙ e) missed

pub returns-in_ok-send_notice-in-Some-clause-rewatches :
    goal.returns-in_ok-send_notice-in-Some-clause-rewatches
returns-in_ok-send_notice-in-Some-clause-rewatches g c = λ since e is.
    let tree = tree_at (history_of c.args.tree.now.history.now) (natural c.args.tree.now.zxid) in
    let missed =
    missed_here g (goal.at.returns-in_ok-send_notice-in-Some-clause-rewatches g c).In_ok-stat _ since is e c.in-Some.ensures.is in
    one_told c.args.list since tree c.args.path.now c.in-Some.event (watched c.args.connection.now.watches)
    c.args.connection.now.output.items c.send_notice.new.out.items missed c.in_ok-send_notice-in-Some.ensures.sends

pub returns-in_ok-watch-in-None-clause-rewatches :
    goal.returns-in_ok-watch-in-None-clause-rewatches
returns-in_ok-watch-in-None-clause-rewatches g c = λ since e is.
    let tree = tree_at (history_of c.args.tree.now.history.now) (natural c.args.tree.now.zxid) in
    let missed = missed_here g (goal.at.returns-in_ok-watch-in-None-clause-rewatches g c).In_ok-stat _ since is e c.in-None.ensures.is in
    one_watched c.args.list since tree c.args.path.now (watched c.args.connection.now.watches)
    (watched c.watch.new.watches) c.args.connection.now.output.items c.args.connection.now.output.items missed
    (c.in_ok-watch-in-None.ensures (IsPath-absolute c.args.path.now is)) refl
