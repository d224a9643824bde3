-- The server reads at its place in the history, by `placed`, and the request is a read or a part of setWatches, by `looks`.
-- So what `read` ensures of the tree is a step of the laws: `reads_so` and `restores_so`. What it refuses is declined: `declines_read`
-- and `declines_part`.
use Rattle.std.proofs.Common.{rules, ◌≡◌, refl, sym, subst, ◌∙◌, to_z, of_z, w32, w64, ℤ, pos}
use Rattle.std.specs.Prelude.{OnOk, IfErr, slice_index, IsErrOf}
use Rattle.zk_nodes.specs.History.{Tree}
use Rattle.zk_history.specs.HistoryView.{history_of}
use Rattle.zk_laws.specs.Server.{zxid_held, tree_held}
use Rattle.zk_laws.specs.Messages.{Request, Ask, Restore}
use Rattle.theory_serving.proofs.Later.{taken_at}
use Rattle.zk_bench.specs.Linked.{linked_of}
use Rattle.zk_bench.specs.Served.{Served}
use Rattle.zk_bench.specs.declared.stop.Stop.TheVariants as stops
use Rattle.zk_bench.specs.declared.stop.Refusal.TheVariants as refusals
use Rattle.zk_bench.specs.inner.Answering.{AnswersRead, RefusesRead}
use Rattle.zk_bench.specs.inner.Restoring.{RestoresPart}
use Rattle.zk_bench.specs.inner.Stepping.{HasClient, AnswersOne, Declines}
use Rattle.zk_bench.specs.Stepping.{shown_of}
use Rattle.zk_bench.proofs.Fields.{bench_of}
use Rattle.zk_bench.proofs.Stepped.{ok_so, reads_so}
use Rattle.zk_bench.proofs.Called.{looks}
use Rattle.zk_bench.proofs.ProcessedLooks.{restores_so, declines_read, declines_part}
use Rattle.zk_bench.specs.Answerable.{AnswerFits, IsAnswerable}
use Rattle.zk_bench.proofs.bench.Bench.read.Goals as goal

-- the server reads at its place in the history
placed : (g : _) (c : goal.After-read g) → HasClient (bench_of c.self.inside) → to_z w64 (of_z w64 c.zxid_after.result)
    ≡ pos (zxid_held (history_of c.self.inside.history) (slice_index c.self.inside.taken c.self.inside.server))
placed g c mine =
    let ranged : to_z w64 (of_z w64 c.zxid_after.result) ≡ c.zxid_after.result = search rules in
    ranged
    ∙ c.zxid_after.ensures.zxid (taken_at (history_of c.self.inside.history) c.self.inside.taken c.self.inside.server mine.ready.taken)

pub returns-clause-answers : goal.returns-clause-answers
returns-clause-answers g c = λ asked has look asks.
    let b = bench_of c.self.inside in
    let h = history_of b.history in
    let held = zxid_held h (slice_index b.taken b.server) in
    let old = c.self.inside.connection in
    let new = c.read.new.connection in
    let mine : HasClient b = subst HasClient (sym c.self.view_is) has in
    let xid : to_z w32 (of_z w32 c.args.xid) ≡ c.args.xid = search rules in
    let at = placed g c mine in
    looks (λ (one : Request).
    OnOk c.read.result (AnswersOne one c.args.xid (shown_of c.args.self.now) (shown_of (record b { connection = linked_of new }))))
    c.args.request.now asked look asks
    (λ call is reads.
    subst (λ (s : Served). OnOk c.read.result
    (AnswersOne (Ask call) c.args.xid (shown_of s) (shown_of (record b { connection = linked_of new })))) c.self.view_is
    (ok_so c.read.result _ _ (c.read.ensures.answers call held reads at)
    (λ a. reads_so b old new call c.args.xid refl mine.accepted
    (subst (λ (x : ℤ). AnswersRead (tree_held h (slice_index b.taken b.server)) held x call old new) xid
    (subst (λ (t : Tree). AnswersRead t held (to_z w32 (of_z w32 c.args.xid)) call old new) c.zxid_after.ensures.held a)))))
    (λ is_last since part restoring.
    subst (λ (s : Served). OnOk c.read.result (AnswersOne (Restore is_last since part) c.args.xid (shown_of s)
    (shown_of (record b { connection = linked_of new })))) c.self.view_is
    (ok_so c.read.result _ _ (c.read.ensures.restores since held part restoring at)
    (λ r. restores_so b old new mine.accepted is_last since part c.args.xid
    (subst (λ (x : ℤ). RestoresPart (tree_held h (slice_index b.taken b.server)) held x since part old new) xid
    (subst (λ (t : Tree). RestoresPart t held (to_z w32 (of_z w32 c.args.xid)) since part old new) c.zxid_after.ensures.held r)))))

pub returns-clause-declines : goal.returns-clause-declines
returns-clause-declines g c = λ asked has look asks.
    let b = bench_of c.self.inside in
    let held = zxid_held (history_of b.history) (slice_index b.taken b.server) in
    let old = c.self.inside.connection in
    let new = c.read.new.connection in
    let mine : HasClient b = subst HasClient (sym c.self.view_is) has in
    let at = placed g c mine in
    looks (λ (one : Request). IfErr c.read.result (Declines one c.args.xid c.args.self.now (record b { connection = linked_of new })))
    c.args.request.now asked look asks
    (λ call is reads.
    subst (λ (s : Served). IfErr c.read.result (Declines (Ask call) c.args.xid s (record b { connection = linked_of new }))) c.self.view_is
    (declines_read b old new mine.accepted c.args.xid call c.read.result is
    (subst (λ (t : Tree). IfErr c.read.result (RefusesRead t call old new)) c.zxid_after.ensures.held
    (c.read.ensures.refuses call held reads at)) c.read.ensures.ends))
    (λ is_last since part restoring.
    subst (λ (s : Served). IfErr c.read.result
    (Declines (Restore is_last since part) c.args.xid s (record b { connection = linked_of new }))) c.self.view_is
    (declines_part b old new mine.accepted c.args.xid (Restore is_last since part) c.read.result
    (c.read.ensures.stops since part restoring) c.read.ensures.ends))

pub returns-clause-stays : goal.returns-clause-stays
returns-clause-stays g c = λ asked has look asks answerable.
    let b = bench_of c.self.inside in
    let held = zxid_held (history_of b.history) (slice_index b.taken b.server) in
    let mine : HasClient b = subst HasClient (sym c.self.view_is) has in
    looks (λ (one : Request). IsAnswerable one b → ¬ IsErrOf c.read.result (refusals.Stop stops.End)) c.args.request.now asked look asks
    (λ call is reads fits. c.read.ensures.stays call held reads (placed g c mine)
    (subst (λ (t : Tree). AnswerFits t call) (sym c.zxid_after.ensures.held) fits))
    (λ is_last since part restoring fits. c.read.ensures.holds since part restoring)
    (subst (IsAnswerable asked) (sym c.self.view_is) answerable)
