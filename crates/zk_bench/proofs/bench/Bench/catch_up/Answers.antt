-- The steps that `take_all` ensures of the connection are steps of the bench, by `shows_caught`; the server's place before them is one
-- of the history, by `taken_at`.
use Rattle.std.proofs.Common.{sym, subst}
use Rattle.std.specs.Prelude.{OnOk, slice_set}
use Rattle.theory_serving.proofs.Later.{taken_at}
use Rattle.zk_history.specs.HistoryView.{history_of}
use Rattle.zk_bench.specs.Linked.{linked_of}
use Rattle.zk_bench.specs.Served.{Served}
use Rattle.zk_bench.specs.inner.Stepping.{HasClient}
use Rattle.zk_bench.specs.Stepping.{TakesSome, shown_of}
use Rattle.zk_bench.proofs.Fields.{bench_of}
use Rattle.zk_bench.proofs.Stepped.{ok_so}
use Rattle.zk_bench.proofs.ProcessedTaken.{shows_caught}
use Rattle.zk_bench.proofs.bench.Bench.catch_up.Goals as goal

pub returns-clause-takes : goal.returns-clause-takes
returns-clause-takes g c = λ has.
    let b = bench_of c.self.inside in
    let old = c.self.inside.connection in
    let new = c.take_all.new.connection in
    let mine : HasClient b = subst HasClient (sym c.self.view_is) has in
    let after : Served = record b { taken = slice_set b.taken b.server c.take_all.new.taken; connection = linked_of new } in
    subst (λ (s : Served). OnOk c.take_all.result (TakesSome (shown_of s) (shown_of after))) c.self.view_is
    (ok_so c.take_all.result _ _ (c.take_all.ensures.up mine.accepted (taken_at (history_of b.history) b.taken b.server mine.ready.taken))
    (λ up. shows_caught b old new c.take_all.new.taken mine.ready mine.accepted c.take_all.ensures.rest up))
