-- The client is still there after the append, by `client_later`; what the server takes then, it takes from before the append too, by
-- `takes_later`, and the change is the last that it holds, by `wrote_so`. Where the append is refused, nothing is made, by
-- `leaves_append`; of a change that the newest tree accepts, that is for want of memory alone, by `taken_write`.
use Rattle.std.proofs.Common.{◌≡◌, sym, ap, ◌∙◌, subst}
use Rattle.std.specs.Prelude.{IfErr}
use Rattle.zk_history.specs.Made.{change_of}
use Rattle.zk_records.specs.declared.code.Code.TheVariants as codes
use Rattle.zk_bench.specs.declared.stop.Refusal.{Refusal}
use Rattle.zk_bench.specs.declared.stop.Refusal.TheVariants as refusals
use Rattle.zk_bench.specs.inner.Refusals.{IsCode}
use Rattle.zk_bench.specs.Served.{Served, ended}
use Rattle.zk_bench.specs.inner.Stepping.{HasClient, LeavesUnmade}
use Rattle.zk_bench.proofs.Fields.{bench_of}
use Rattle.zk_bench.proofs.Answered.{errs_so}
use Rattle.zk_bench.proofs.Stepped.{continues_so}
use Rattle.zk_bench.proofs.ProcessedTaken.{client_later, takes_later}
use Rattle.zk_bench.proofs.ProcessedWrites.{leaves_append, wrote_so}
use Rattle.zk_history.specs.HistoryView.{IsAccepted, newest_tree}
use Rattle.zk_bench.proofs.Staying.{handed_on, taken_write}
use Rattle.zk_bench.proofs.bench.Bench.write.Goals as goal

pub returns-in_err-append_write-clause-refuses : goal.returns-in_err-append_write-clause-refuses
returns-in_err-append_write-clause-refuses g c = λ has.
    let b = bench_of c.self.inside in
    let kept = c.append_write.new.history in
    let mine : HasClient b = subst HasClient (sym c.self.view_is) has in
    let goes = continues_so b.history kept c.append_write.ensures.goes_on in
    subst (λ (s : Served). IfErr c.from_residual.result (LeavesUnmade s (record b { history = kept }))) c.self.view_is
    (errs_so c.from_residual.result _ _ c.from_residual.ensures.1
    (λ refusal is. leaves_append b kept refusal mine goes (subst (λ (r : Refusal). IsCode r
    → (r ≡ refusals.Code codes.BadArguments) × (kept ≡ b.history)) (sym is) c.in_err-append_write.ensures.refused)))

pub returns-in_err-append_write-clause-has : goal.returns-in_err-append_write-clause-has
returns-in_err-append_write-clause-has g c = λ has.
    client_later (bench_of c.self.inside) c.args.self.now c.append_write.new.history c.self.view_is c.append_write.ensures.goes_on has

pub returns-in_err-catch_up-clause-refuses : goal.returns-in_err-catch_up-clause-refuses
returns-in_err-catch_up-clause-refuses g c = λ has.
    errs_so c.from_residual-in_err-catch_up.result _ _ c.from_residual-in_err-catch_up.ensures.1
    (λ refusal is. subst (LeavesUnmade c.args.self.now c.catch_up.new.self) (sym is)
    (takes_later (bench_of c.self.inside) c.args.self.now c.append_write.new.history
    (ended c.catch_up.new.self) c.self.view_is c.append_write.ensures.goes_on has
    (c.in_err-catch_up.ensures.ends (client_later
    (bench_of c.self.inside) c.args.self.now c.append_write.new.history c.self.view_is c.append_write.ensures.goes_on has))))

pub returns-in_err-catch_up-clause-has : goal.returns-in_err-catch_up-clause-has
returns-in_err-catch_up-clause-has g c = λ has.
    c.catch_up.ensures.has
    (client_later (bench_of c.self.inside) c.args.self.now c.append_write.new.history c.self.view_is c.append_write.ensures.goes_on has)

pub returns-clause-takes : goal.returns-clause-takes
returns-clause-takes g c = λ has.
    takes_later (bench_of c.self.inside) c.args.self.now c.append_write.new.history c.catch_up.new.self c.self.view_is
    c.append_write.ensures.goes_on has
    (c.in_ok-catch_up.ensures.takes (client_later
    (bench_of c.self.inside) c.args.self.now c.append_write.new.history c.self.view_is c.append_write.ensures.goes_on has))

pub returns-clause-wrote : goal.returns-clause-wrote
returns-clause-wrote g c = λ has.
    wrote_so c.self.inside.history _ (change_of c.args.change) c.catch_up.new.self
    (ap (λ (s : Served). s.history) c.catch_up.ensures.rest ∙ c.in_ok-append_write.ensures.ok)
    (c.in_ok-catch_up.ensures.all (client_later
    (bench_of c.self.inside) c.args.self.now c.append_write.new.history c.self.view_is c.append_write.ensures.goes_on has))

pub returns-clause-all : goal.returns-clause-all
returns-clause-all g c = λ has.
    c.in_ok-catch_up.ensures.all
    (client_later (bench_of c.self.inside) c.args.self.now c.append_write.new.history c.self.view_is c.append_write.ensures.goes_on has)

pub returns-clause-has : goal.returns-clause-has
returns-clause-has g c = λ has.
    c.catch_up.ensures.has
    (client_later (bench_of c.self.inside) c.args.self.now c.append_write.new.history c.self.view_is c.append_write.ensures.goes_on has)

pub returns-in_err-append_write-clause-stays : goal.returns-in_err-append_write-clause-stays
returns-in_err-append_write-clause-stays g c = λ accepted.
    handed_on c.from_residual.result _ _ c.from_residual.ensures.1
    (taken_write c.self.inside.history c.self.inside.time (change_of c.args.change) _ c.in_err-append_write.ensures.told
    (subst (λ (s : Served). IsAccepted (change_of c.args.change) (newest_tree s.history)) (sym c.self.view_is) accepted))
