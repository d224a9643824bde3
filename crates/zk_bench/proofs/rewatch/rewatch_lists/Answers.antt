-- Three lists, one after the other, tell what the part tells and set its watches: what `rewatch_all` ensures of each list, joined by
-- `part_told` and `part_left`. Where one of them fails, the error is handed on, and it is not `End`: `handed_on`.
use Rattle.std.proofs.Common.{◌≡◌, ◌∙◌, rules, to_z, of_z, w64, ℕ, ap}
use Rattle.zk_nodes.specs.History.{tree_at}
use Rattle.zk_history.specs.HistoryView.{history_of, natural}
use Rattle.zk_watches.specs.Lists.{Lists}
use Rattle.zk_laws.specs.Server.{both, part_tells, part_sets}
use Rattle.zk_bench.specs.declared.stop.Stop.TheVariants as stops
use Rattle.zk_bench.specs.inner.Serving.{watched, Tells}
use Rattle.zk_bench.specs.declared.rewatch.Watched.TheVariants.{Data, Exist, Child}
use Rattle.zk_bench.specs.inner.Restoring.{Rewatches, IsPart, ArePaths}
use Rattle.zk_bench.proofs.Restored.{part_told, part_left, of_texts}
use Rattle.std.specs.Prelude.{Err, IsErrOf}
use Rattle.zk_bench.proofs.Staying.{handed_on}
use Rattle.zk_bench.proofs.rewatch.rewatch_lists.Goals as goal

-- what the three lists tell, and the watches that they set
gone_through : (g : _) (c : goal.In_ok-rewatch_all-3 g) (since : ℕ) (part : Lists) → IsPart c.args.request.now since part → ArePaths part
    → Tells (part_tells since (tree_at (history_of c.args.tree.now.history.now) (natural c.args.tree.now.zxid)) part)
    c.args.connection.now.output.items c.rewatch_all-3.new.connection.output.items
    × (watched c.rewatch_all-3.new.connection.watches ≡ both (watched c.args.connection.now.watches)
    (part_sets since (tree_at (history_of c.args.tree.now.history.now) (natural c.args.tree.now.zxid)) part))
gone_through g c since part is paths =
    let ranged : to_z w64 (of_z w64 c.args.request.now.relative_zxid) ≡ c.args.request.now.relative_zxid = search rules in
    let at = ranged ∙ is.relative in
    let tree = tree_at (history_of c.args.tree.now.history.now) (natural c.args.tree.now.zxid) in
    let w0 = watched c.args.connection.now.watches in
    let w1 = watched c.rewatch_all.new.connection.watches in
    let w2 = watched c.rewatch_all-2.new.connection.watches in
    let w3 = watched c.rewatch_all-3.new.connection.watches in
    let old = c.args.connection.now.output.items in
    let one = c.rewatch_all.new.connection.output.items in
    let two = c.rewatch_all-2.new.connection.output.items in
    let new = c.rewatch_all-3.new.connection.output.items in
    let d = of_texts (λ ts. Rewatches Data since tree ts w0 w1 old one) _ _ part.data_watches c.or_empty-data.ensures is.data_watches
    paths.data_watches (c.in_ok-rewatch_all.ensures.rewatches since at) in
    let e = of_texts (λ ts. Rewatches Exist since tree ts w1 w2 one two) _ _ part.exist_watches c.or_empty-exist.ensures is.exist_watches
    paths.exist_watches (c.in_ok-rewatch_all-2.ensures.rewatches since at) in
    let k = of_texts (λ ts. Rewatches Child since tree ts w2 w3 two new) _ _ part.child_watches c.or_empty-child.ensures is.child_watches
    paths.child_watches (c.in_ok-rewatch_all-3.ensures.rewatches since at) in
    (part_told since tree part old one two new d.tells e.tells k.tells, part_left since tree part w0 w1 w2 w3 d.left e.left k.left)

pub returns-clause-tells : goal.returns-clause-tells
returns-clause-tells g c = λ since part is paths. (gone_through g c since part is paths).0

pub returns-clause-left : goal.returns-clause-left
returns-clause-left g c = λ since part is paths. (gone_through g c since part is paths).1

pub returns-in_err-rewatch_all-clause-stays : goal.returns-in_err-rewatch_all-clause-stays
returns-in_err-rewatch_all-clause-stays g c = λ since part is paths.
    of_texts (λ ts. ¬ IsErrOf c.from_residual.result stops.End) _ _ part.data_watches c.or_empty-data.ensures
    is.data_watches paths.data_watches
    (λ all. handed_on c.from_residual.result _ _ c.from_residual.ensures.1 (λ over. c.in_err-rewatch_all.ensures.stays all (ap Err over)))

pub returns-in_err-rewatch_all-2-clause-stays : goal.returns-in_err-rewatch_all-2-clause-stays
returns-in_err-rewatch_all-2-clause-stays g c = λ since part is paths.
    of_texts (λ ts. ¬ IsErrOf c.from_residual-in_err-rewatch_all-2.result stops.End) _ _ part.exist_watches c.or_empty-exist.ensures
    is.exist_watches paths.exist_watches
    (λ all. handed_on c.from_residual-in_err-rewatch_all-2.result _ _ c.from_residual-in_err-rewatch_all-2.ensures.1
    (λ over. c.in_err-rewatch_all-2.ensures.stays all (ap Err over)))

pub returns-in_err-rewatch_all-3-clause-stays : goal.returns-in_err-rewatch_all-3-clause-stays
returns-in_err-rewatch_all-3-clause-stays g c = λ since part is paths.
    of_texts (λ ts. ¬ IsErrOf c.from_residual-in_err-rewatch_all-3.result stops.End) _ _ part.child_watches c.or_empty-child.ensures
    is.child_watches paths.child_watches
    (λ all. handed_on c.from_residual-in_err-rewatch_all-3.result _ _ c.from_residual-in_err-rewatch_all-3.ensures.1
    (λ over. c.in_err-rewatch_all-3.ensures.stays all (ap Err over)))
