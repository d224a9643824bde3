-- `set-at` says whether the setData is refused, by what `node_at` and `refused_data` ensure; if not, the tree takes it: `set_allowed`.
use Rattle.std.proofs.Common.{rules, ◌≡◌, to_z, of_z, w32}
use Rattle.zk_bench.specs.inner.Writing.{tree_of}
use Rattle.zk_bench.proofs.Written.{set-at}
use Rattle.zk_bench.proofs.Allowed.{set_allowed}
use Rattle.zk_bench.proofs.writes.written_path.Goals as goal

pub returns-in-Some-clause-told : goal.returns-in-Some-clause-told
returns-in-Some-clause-told g c =
    let asked : to_z w32 (of_z w32 c.args.version) ≡ c.args.version = search rules in
    let held : to_z w32 (of_z w32 c.in_ok-path.stat.version) ≡ c.in_ok-path.stat.version = search rules in
    set-at (tree_of c.args.tree.now.history.now c.args.tree.now.zxid) c.args.text.now c.in_ok-path.stat c.args.version _ _ _
    c.in_ok-path.ensures.found asked held c.in-Some.ensures.is

pub returns-in-None-clause-accepted : goal.returns-in-None-clause-accepted
returns-in-None-clause-accepted g c =
    let asked : to_z w32 (of_z w32 c.args.version) ≡ c.args.version = search rules in
    let held : to_z w32 (of_z w32 c.in_ok-path.stat.version) ≡ c.in_ok-path.stat.version = search rules in
    set-at (tree_of c.args.tree.now.history.now c.args.tree.now.zxid) c.args.text.now c.in_ok-path.stat c.args.version _ _ _
    c.in_ok-path.ensures.found asked held c.in-None.ensures.is

pub returns-in-None-clause-allowed : goal.returns-in-None-clause-allowed
returns-in-None-clause-allowed g c = λ content small.
    let tree = tree_of c.args.tree.now.history.now c.args.tree.now.zxid in
    let asked : to_z w32 (of_z w32 c.args.version) ≡ c.args.version = search rules in
    let held : to_z w32 (of_z w32 c.in_ok-path.stat.version) ≡ c.in_ok-path.stat.version = search rules in
    set_allowed tree c.args.text.now c.args.version content (set-at tree c.args.text.now c.in_ok-path.stat c.args.version _ _ _
    c.in_ok-path.ensures.found asked held c.in-None.ensures.is) small
