-- The fields and bytes of a node that is found are in range: it is a node of the history's tree (`found_told`), and each of those is small
-- (`node_small`).
use Rattle.std.proofs.Common.{◌≤◌, ℕ, List, Option, Some, sym, subst, ◌∙◌, rules}
use Rattle.std.specs.Option.{option_copied}
use Rattle.zk_nodes.specs.Path.{path_of}
use Rattle.zk_nodes.specs.History.{size_of, tree_at}
use Rattle.zk_history.specs.HistoryView.{history_of}
use Rattle.zk_history.specs.Versions.{Tells, node_with}
use Rattle.zk_history.specs.declared.version.Entry.{Entry}
use Rattle.zk_history.proofs.SmallLemmas.{found_told, node_small}
use Rattle.zk_history.proofs.history.History.found.Goals as goal

pub invariant_of-result : goal.invariant_of-result
invariant_of-result g c =
    let kept = c.args.self.now in
    let p = path_of c.args.at.now in
    let told : Tells kept (Some c.in-Some.entry) (tree_at (history_of kept) c.args.z p) =
    subst (λ (o : Option Entry). Tells kept o (tree_at (history_of kept) c.args.z p))
    (sym c.entry_of.ensures ∙ c.in-Some.is) c.version.ensures.node in
    let found = found_told kept c.in-Some.entry (tree_at (history_of kept) c.args.z p) told in
    let small = node_small kept c.args.z p (node_with c.in-Some.entry found.0) c.version.ensures.sound (sym found.2) in
    let size : size_of (option_copied c.bytes.result) ≤ 2147483647 =
    subst (λ (o : Option (List ℕ)). size_of o ≤ 2147483647) (sym (c.bytes.ensures found.0 found.1)) small.bytes in
    let czxid = small.czxid in
    let mzxid = small.mzxid in
    let pzxid = small.pzxid in
    let version = small.version in
    search (rules, czxid, mzxid, pzxid, version, size)
