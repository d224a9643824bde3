-- The Stat that is sent is that of the node in the server's tree: what `newest`, `stat`, `zxid` and `send_result` ensure, rewritten.
-- A Stat fits a frame, by `stat_fits`, so sending it ends no connection.
use Rattle.std.proofs.Common.{rules, ◌≡◌, ℤ, ap, ◌∙◌, subst, Option, Some, pos, to_z, of_z, w32, w64}
use Rattle.std.specs.Prelude.{slice_index}
use Rattle.zk_history.specs.HistoryView.{HistoryView, history_of, natural}
use Rattle.zk_nodes.specs.Path.{path_of}
use Rattle.zk_nodes.specs.History.{Tree, tree_at}
use Rattle.zk_history.specs.Shown.{IsStat}
use Rattle.zk_nodes.specs.StatLayout.{stat}
use Rattle.zk_nodes.specs.declared.stat.Stat.{Stat}
use Rattle.zk_jute.specs.Layout.{Value}
use Rattle.zk_laws.specs.Server.{tree_held}
use Rattle.zk_bench.specs.Served.{Served}
use Rattle.zk_bench.specs.inner.Serving.{Sends}
use Rattle.zk_bench.specs.Stepping.{zxid_of}
use Rattle.zk_bench.proofs.Fields.{bench_of}
use Rattle.zk_bench.proofs.Answered.{numbers_of}
use Rattle.zk_jute.specs.Spelling.{Fits}
use Rattle.zk_bench.proofs.Staying.{handed_on, stat_fits}
use Rattle.zk_bench.proofs.bench.Bench.send_stat.Goals as goal

pub returns-clause-sends : goal.returns-clause-sends
returns-clause-sends g c = λ ready all is.
    let old = c.args.self.now in
    let b = bench_of c.self.inside in
    let path = path_of c.args.text.now in
    let told = c.in-Some.stat in
    let value : Value stat = numbers_of told in
    let output = c.send_result.new.out.items in
    let xid : to_z w32 (of_z w32 c.args.xid) ≡ c.args.xid = search rules in
    let ranged : to_z w64 (of_z w64 c.zxid-zxid.result) ≡ c.zxid-zxid.result = search rules in
    let held : tree_at (history_of c.newest.result.history.now) (natural c.newest.result.zxid) ≡ tree_held (history_of old.history)
    (slice_index old.taken old.server) =
    ap (λ (k : HistoryView). tree_at (history_of k) (natural c.newest.result.zxid)) c.newest.ensures.history ∙ c.newest.ensures.held all in
    let counted : IsStat (tree_held (history_of old.history) (slice_index old.taken old.server)) path (Some told) =
    subst (λ (t : Tree). IsStat t path (Some told)) held
    (subst (λ (o : Option Stat). IsStat (tree_at (history_of c.newest.result.history.now) (natural c.newest.result.zxid)) path o)
    c.in-Some.is (c.in_ok-stat.ensures is)) in
    let sends : Sends (c.args.xid, (pos (zxid_of old), pos 0)) stat value b.connection.output output =
    subst (λ (x : ℤ). Sends (x, (pos (zxid_of old), pos 0)) stat value b.connection.output output) xid
    (subst (λ (z : ℤ). Sends (to_z w32 (of_z w32 c.args.xid), (z, pos 0)) stat value b.connection.output output)
    (ranged ∙ c.zxid-zxid.ensures ready) c.in_ok-send_result.ensures.sends) in
    record {
      value = value;
      told = counted;
      sends =
          subst (λ (s : Served). Sends (c.args.xid, (pos (zxid_of old), pos 0)) stat value s.connection.output output) c.self.view_is sends;
    }

pub returns-in_err-send_result-clause-stays : goal.returns-in_err-send_result-clause-stays
returns-in_err-send_result-clause-stays g c =
    let fits : Fits stat (numbers_of c.in-Some.stat) = search rules in
    handed_on c.from_residual-in_err-send_result.result _ _ c.from_residual-in_err-send_result.ensures.1
    (λ over. c.in_err-send_result.ensures.stays (stat_fits (numbers_of c.in-Some.stat) fits) (cc))
