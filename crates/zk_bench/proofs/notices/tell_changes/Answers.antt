-- The loop begins with nothing fired, and one more change tells what it fires after that: `tells_both`, `fires_next` and `left_next`.
-- After it no change is left, so what was fired is what all changes fire.
use Rattle.std.proofs.Common.{sym, refl, ap, subst, ◌∙◌, ◌≡◌, ◌++◌, List, map, drop, [], ◌∷◌, arith, ◌+◌}
use Rattle.std.proofs.lemmas.List.{append-nil}
use Rattle.std.proofs.Math.ListN.{drop_of_length-le}
use Rattle.std.proofs.Math.Seq.{take-length}
use Rattle.zk_history.specs.Made.{change_of}
use Rattle.zk_laws.specs.Server.{Notice, fires_all, leaves_set_all, fires}
use Rattle.zk_bench.specs.inner.Serving.{watched, Tells}
use Rattle.zk_bench.proofs.Watched.{tells_both, tells_nothing, drop-next, fires_next, left_next, begun-more, rest-more}
use Rattle.zk_bench.proofs.notices.tell_changes.Goals as goal

pub loop-change-init : goal.loop-change-init
loop-change-init g c =
    let old = c.args.connection.now.output.items in
    record { fired = []; tells = tells_nothing old old refl; all = refl; left = refl; rest = refl; begun = take-length old }

pub loop-change-preserved : goal.loop-change-preserved
loop-change-preserved g c =
    let before = c.loop-change.invariant in
    let old = c.args.connection.now.output.items in
    let mid = c.loop-change.connection.output.items in
    let new = c.tell_change.new.connection.output.items in
    let change = change_of c.change-item.result in
    let w = watched c.loop-change.connection.watches in
    let w0 = watched c.args.connection.now.watches in
    let all = map change_of c.args.changes.now in
    let changes = map change_of (drop c.loop-change.change-index c.args.changes.now) in
    let more = map change_of (drop (c.loop-change.change-index + 1) c.args.changes.now) in
    let next : changes ≡ change ∷ more = ap (λ cs. map change_of cs) (drop-next c.args.changes.now c.loop-change.change-index
    c.change-item.result (omega (arith, c.loop-change-test.true, c.loop-change.auto.change-index-end)) c.change-item.is) in
    let after = c.in_default.ensures in
    record {
      fired = before.fired ++ fires change w;
      tells = tells_both before.fired (fires change w) old mid new before.tells after.tells;
      all = subst (λ v. fires_all all w0 ≡ (before.fired ++ fires change w) ++ fires_all more v) (sym after.left)
          (fires_next change before.fired changes more all w w0 next before.all);
      left = subst (λ v. leaves_set_all all w0 ≡ leaves_set_all more v) (sym after.left)
          (left_next change changes more all w w0 next before.left);
      rest = rest-more c.args.connection.now c.loop-change.connection c.tell_change.new.connection before.rest after.rest;
      begun = begun-more old mid new before.begun after.begun;
    }

pub returns-clause-left : goal.returns-clause-left
returns-clause-left g c =
    sym (c.loop-change.invariant.left ∙ ap (λ cs. leaves_set_all (map change_of cs) (watched c.loop-change.connection.watches))
    (drop_of_length-le c.args.changes.now (omega (arith, c.loop-change-test.false, c.loop-change.auto.change-index-end))))

pub returns-clause-tells : goal.returns-clause-tells
returns-clause-tells g c =
    let so_far = c.loop-change.invariant in
    let none : drop c.loop-change.change-index c.args.changes.now ≡ [] =
    drop_of_length-le c.args.changes.now (omega (arith, c.loop-change-test.false, c.loop-change.auto.change-index-end)) in
    let all = so_far.all ∙ ap (λ cs. so_far.fired ++ fires_all (map change_of cs) (watched c.loop-change.connection.watches)) none
    ∙ append-nil so_far.fired in
    subst (λ (f : List Notice). Tells f c.args.connection.now.output.items c.loop-change.connection.output.items) (sym all) so_far.tells
