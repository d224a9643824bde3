-- One transaction more is taken and told: `takes_one`. Only watches and output change: `rest-more`.
use Rattle.std.proofs.Common.{ap, ◌∙◌, map}
use Rattle.zk_history.specs.HistoryView.{history_of}
use Rattle.zk_history.specs.Made.{change_of}
use Rattle.zk_bench.proofs.Watched.{rest-more}
use Rattle.zk_bench.proofs.Stepped.{takes_one}
use Rattle.zk_bench.proofs.servers.take_all.Goals as goal

pub loop-changes-preserved : goal.loop-changes-preserved
loop-changes-preserved g c =
    let before = c.loop-changes.invariant in
    let after = c.in_ok-tell_changes.ensures in
    let old = c.args.connection.now in
    let mid = c.loop-changes.connection in
    let new = c.tell_changes.new.connection in
    record {
      goes = λ accepted low.
          takes_one (history_of c.args.history.now) c.args.taken.now old c.loop-changes.taken mid new (map change_of c.in-Some.changes.now)
          (before.goes accepted low)
          (ap (λ k. k.phase) before.rest ∙ accepted) c.in-Some.ensures.room c.in-Some.ensures.changes after.left after.tells
          (ap (λ k. k.phase) after.rest);
      rest = rest-more old mid new before.rest after.rest;
    }
