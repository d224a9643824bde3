-- By what stands first (`served`), with what the clauses of `process` say where memory sufficed; the two zxids are compared as numbers.
use Rattle.std.proofs.Common.{◌≡◌, ◌∙◌, ap, sym, subst}
use Rattle.zk_nodes.specs.History.{newest, IsHistory}
use Rattle.zk_history.specs.HistoryView.{history_of, HistoryView}
use Rattle.zk_bench_dial.proofs.Passing.{same_zxid}
use Rattle.zk_bench_dial.proofs.Serving.{served}
use Rattle.zk_bench_dial.proofs.serve.serve_one.Goals as goal

pub returns-clause-goes : goal.returns-clause-goes
returns-clause-goes g c = λ same.
    let old = c.args.bench.now in
    let new = c.process.new.self in
    let last : newest 0 new.history.transactions ≡ newest 0 old.history.transactions =
    ap (λ (h : HistoryView). newest 0 h.transactions) (sym c.history-2.ensures)
    ∙ same_zxid c.last_zxid.result c.last_zxid-last.result _ _ c.last_zxid.ensures.value c.last_zxid-last.ensures.value same
    ∙ ap (λ (h : HistoryView). newest 0 h.transactions) c.history.ensures in
    served c.front-front.result old new c.front-front.ensures.front c.front-front.ensures.framed c.requires
    (subst (λ (h : HistoryView). IsHistory (history_of h)) c.history.ensures c.last_zxid-last.ensures.history)
    (subst (λ (h : HistoryView). IsHistory (history_of h)) c.history-2.ensures c.last_zxid.ensures.history)
    (record {
      idle = c.in-Ok.ensures.idle;
      waits = c.in-Ok.ensures.waits;
      ends = c.in-Ok.ensures.ends;
      serves = c.in-Ok.ensures.serves;
      history = c.in-Ok.ensures.history;
    }) last
