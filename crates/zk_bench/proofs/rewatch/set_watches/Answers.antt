-- After the three lists comes the reply's header: `part_restored`, from what `rewatch_lists` and `send_header` ensure.
use Rattle.std.proofs.Common.{◌≡◌, ◌∙◌, subst, pos, rules, to_z, of_z, w32, w64}
use Rattle.zk_nodes.specs.History.{tree_at}
use Rattle.zk_history.specs.HistoryView.{history_of, natural}
use Rattle.zk_laws.specs.Server.{part_tells, part_sets, both}
use Rattle.zk_bench.specs.inner.Serving.{watched, Tells, SendsHeader}
use Rattle.zk_bench.proofs.Restored.{part_restored}
use Rattle.zk_bench.proofs.Stepped.{ok_so}
use Rattle.zk_bench.proofs.Watched.{output_more}
use Rattle.zk_bench.proofs.rewatch.set_watches.Goals as goal

pub returns-else-is_err-clause-restores : goal.returns-else-is_err-clause-restores
returns-else-is_err-clause-restores g c = λ since zxid part is paths at.
    let h = history_of c.args.tree.now.history.now in
    let tree = tree_at h zxid in
    let xid : to_z w32 (of_z w32 c.args.xid) ≡ c.args.xid = search rules in
    let ranged : to_z w64 (of_z w64 c.args.tree.now.zxid) ≡ c.args.tree.now.zxid = search rules in
    let old = c.args.connection.now in
    let mid = c.rewatch_lists.new.connection.output.items in
    let new = c.send_header-sent.new.out.items in
    let told : Tells (part_tells since tree part) old.output.items mid =
    subst (λ z. Tells (part_tells since (tree_at h (natural z)) part) old.output.items mid) at
    (c.in_default.ensures.tells since part is paths) in
    let left : watched c.rewatch_lists.new.connection.watches ≡ both (watched old.watches) (part_sets since tree part) =
    subst (λ z. watched c.rewatch_lists.new.connection.watches ≡ both (watched old.watches) (part_sets since (tree_at h (natural z)) part))
    at (c.in_default.ensures.left since part is paths) in
    ok_so c.send_header-sent.result _ _ c.send_header-sent.ensures.sends
    (λ sent.
    let sends : SendsHeader (c.args.xid, (pos zxid, pos 0)) mid new =
    subst (λ x. SendsHeader (x, (pos zxid, pos 0)) mid new) xid
    (subst (λ z. SendsHeader (to_z w32 (of_z w32 c.args.xid), (z, pos 0)) mid new) (ranged ∙ at) sent) in
    part_restored tree zxid c.args.xid since part old
    (record c.rewatch_lists.new.connection { output = c.send_header-sent.new.out }) mid told sends left
    (output_more old c.rewatch_lists.new.connection c.send_header-sent.new.out c.rewatch_lists.ensures.rest))
