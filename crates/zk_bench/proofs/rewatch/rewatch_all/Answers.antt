-- The loop begins with no path, by `no_path`, and each turn adds one, by `more_paths`; after it the paths are those of the whole list, by
-- `texts_whole`. Each text is one of a path, by `text_has`, so no turn ends the connection.
use Rattle.std.proofs.Common.{rules, ◌≡◌, ◌<◌, length, refl, sym, subst, ◌∙◌, [], ◌∷◌, take, arith, to_z, of_z, w64, ap}
use Rattle.std.proofs.Math.Seq.{take-length}
use Rattle.zk_jute.specs.Lenient.{or_empty}
use Rattle.zk_nodes.specs.History.{tree_at}
use Rattle.zk_history.specs.HistoryView.{history_of, natural}
use Rattle.zk_nodes.specs.PathFault.{IsPath}
use Rattle.zk_bench.specs.inner.Serving.{watched}
use Rattle.zk_bench.specs.inner.Restoring.{texts_in, Rewatches}
use Rattle.zk_bench.proofs.Watched.{begun-more, rest-more}
use Rattle.zk_bench.proofs.Restored.{no_path, more_paths, texts_next, text_has, texts_whole}
use Rattle.std.specs.Prelude.{Err}
use Rattle.zk_bench.proofs.Staying.{handed_on}
use Rattle.zk_bench.proofs.rewatch.rewatch_all.Goals as goal

pub loop-path-init : goal.loop-path-init
loop-path-init g c =
    let old = c.args.connection.now.output.items in
    record {
      rewatches = λ since e all. no_path c.args.list since (tree_at (history_of c.args.tree.now.history.now) (natural c.args.tree.now.zxid))
          (watched c.args.connection.now.watches) old;
      rest = refl;
      begun = take-length old;
    }

pub loop-path-preserved : goal.loop-path-preserved
loop-path-preserved g c =
    let before = c.loop-path.invariant in
    let after = c.in_ok-rewatch.ensures in
    let tree = tree_at (history_of c.args.tree.now.history.now) (natural c.args.tree.now.zxid) in
    let list = c.args.list in
    let paths = c.args.paths.now in
    let i = c.loop-path.path-index in
    let item = c.path-item.result in
    let w = watched c.args.connection.now.watches in
    let v = watched c.loop-path.connection.watches in
    let u = watched c.rewatch.new.connection.watches in
    let old = c.args.connection.now.output.items in
    let mid = c.loop-path.connection.output.items in
    let new = c.rewatch.new.connection.output.items in
    let low : i < length paths = omega (arith, c.loop-path-test.true, c.loop-path.auto.path-index-end) in
    let ranged : to_z w64 (of_z w64 c.args.relative) ≡ c.args.relative = search rules in
    record {
      rewatches = λ since e all.
          subst (λ ts. Rewatches list since tree ts w u old new) (sym (texts_next paths i item low c.path-item.is))
          (more_paths list since tree (texts_in (take i paths)) (or_empty item ∷ []) w v u old mid new (before.rewatches since e all)
          (subst (λ t. Rewatches list since tree (t ∷ []) v u mid new) c.text_of.ensures
          (after.rewatches since e (subst IsPath (sym c.text_of.ensures) (text_has IsPath paths i item all low c.path-item.is)))));
      rest = rest-more c.args.connection.now c.loop-path.connection c.rewatch.new.connection before.rest after.rest;
      begun = begun-more old mid new before.begun after.begun;
    }

pub returns-in_err-rewatch-clause-rest : goal.returns-in_err-rewatch-clause-rest
returns-in_err-rewatch-clause-rest g c =
    rest-more c.args.connection.now c.loop-path.connection c.rewatch.new.connection c.loop-path.invariant.rest c.rewatch.ensures.rest

pub returns-in_err-rewatch-clause-begun : goal.returns-in_err-rewatch-clause-begun
returns-in_err-rewatch-clause-begun g c = begun-more c.args.connection.now.output.items c.loop-path.connection.output.items
    c.rewatch.new.connection.output.items c.loop-path.invariant.begun c.rewatch.ensures.begun

pub returns-clause-rewatches : goal.returns-clause-rewatches
returns-clause-rewatches g c = λ since e all.
    let ranged : to_z w64 (of_z w64 c.args.relative) ≡ c.args.relative = search rules in
    let tree = tree_at (history_of c.args.tree.now.history.now) (natural c.args.tree.now.zxid) in
    subst (λ ts. Rewatches c.args.list since tree ts (watched c.args.connection.now.watches)
    (watched c.loop-path.connection.watches) c.args.connection.now.output.items c.loop-path.connection.output.items)
    (texts_whole c.args.paths.now c.loop-path.path-index (omega (arith, c.loop-path-test.false, c.loop-path.auto.path-index-end)))
    (c.loop-path.invariant.rewatches since (ranged ∙ e) all)

pub returns-in_err-rewatch-clause-stays : goal.returns-in_err-rewatch-clause-stays
returns-in_err-rewatch-clause-stays g c = λ all.
    let paths = c.args.paths.now in
    let i = c.loop-path.path-index in
    let low : i < length paths = omega (arith, c.loop-path-test.true, c.loop-path.auto.path-index-end) in
    handed_on c.from_residual.result _ _ c.from_residual.ensures.1
    (λ over. c.in_err-rewatch.ensures.stays
    (subst IsPath (sym c.text_of.ensures) (text_has IsPath paths i c.path-item.result all low c.path-item.is)) (ap Err over))
