-- The walk begins with the root (`sought_new`), each turn adds one path's children (`sought_next`), and past the last path all are found
-- (`sought_all`). What refuses the children of one path refuses all: `sought_fault`, `sought_many`.
use Rattle.std.proofs.Common.{◌≡◌, ◌++◌, ◌∷◌, ◌+◌, ◌-◌, ◌<◌, ◌≤◌, [], ℕ, suc, List, Some, length, sym, refl, ap, ◌∙◌, subst, arith}
use Rattle.std.proofs.lemmas.List.{length-append}
use Rattle.std.proofs.lemmas.Option.{slice_get_read}
use Rattle.std.specs.Prelude.{slice_get}
use Rattle.zk_client.specs.Clients.{view_of}
use Rattle.zk_nodes.specs.Path.{Text}
use Rattle.zk_conclusions.specs.Subtrees.{HasMoreNodes}
use Rattle.zk_conclusions.specs.inner.Walks.{HasTooMany}
use Rattle.zk_conclusions.specs.Lacks.{HasFaultAt, HasNoPath}
use Rattle.zk_conclusions.proofs.Keeping.{handed_on}
use Rattle.zk_conclusions.proofs.Walking.{walked_none}
use Rattle.zk_conclusions.proofs.Sought.{Sought, sought_new, sought_next, sought_all, sought_fault, sought_many}
use Rattle.zk_conclusions.proofs.lacking.shown_paths.Goals as goal

pub returns-then-most-eq0-clause-refused : goal.returns-then-most-eq0-clause-refused
returns-then-most-eq0-clause-refused g c =
    let cache = (view_of c.args.client.now).cache in
    subst (HasMoreNodes cache c.args.root.now) (sym c.if-most-eq0.true) (walked_none cache c.args.root.now)

pub loop-place-init : goal.loop-place-init
loop-place-init g c =
    let cache = (view_of c.args.client.now).cache in
    let root = c.args.root.now in
    let items : c.push.new.self.items ≡ root ∷ [] =
    c.in_ok-push.ensures.items ∙ (ap (λ (xs : List Text). xs ++ c.in_ok-copy_of.field-0 ∷ []) c.new-paths.ensures.items
    ∙ ap (λ (t : Text). t ∷ []) c.in_ok-copy_of.ensures.path) in
    let one : length c.push.new.self.items ≡ 1 = ap length items in
    record {
      sought = subst (λ (xs : List Text). Sought cache root xs 0) (sym items) (sought_new cache root c.copy_of.ensures.is);
      within = omega (arith, one);
    }

pub returns-then-place-len-clause-shown : goal.returns-then-place-len-clause-shown
returns-then-place-len-clause-shown g c =
    let end : length c.loop-place.paths.items ≤ c.loop-place.place = omega arith in
    sought_all (view_of c.args.client.now).cache c.args.root.now c.loop-place.paths.items c.loop-place.place
    c.loop-place.invariant.sought end

pub returns-in_err-children-clause-refused : goal.returns-in_err-children-clause-refused
returns-in_err-children-clause-refused g c =
    let cache = (view_of c.args.client.now).cache in
    let root = c.args.root.now in
    let paths = c.loop-place.paths.items in
    let place = c.loop-place.place in
    let path = c.index.result.now in
    let before : place < length paths = omega arith in
    let at : slice_get paths place ≡ Some path = slice_get_read paths (length paths) place path refl before c.index.ensures in
    let count : c.len-in-loop-place.result ≡ length paths = omega arith in
    handed_on c.from_residual-in_err-children.result c.in_err-children.field-0.0 (HasFaultAt cache path)
    (HasTooMany cache path (c.args.most - c.len-in-loop-place.result)) (HasNoPath cache root) (HasMoreNodes cache root c.args.most)
    c.from_residual-in_err-children.ensures.1 c.in_err-children.ensures.refused
    (λ fault. sought_fault cache root paths place path c.loop-place.invariant.sought at fault)
    (λ many. sought_many cache root paths place path c.args.most c.loop-place.invariant.sought at
    (subst (λ (n : ℕ). HasTooMany cache path (c.args.most - n)) count many) c.loop-place.invariant.within)

pub loop-place-preserved : goal.loop-place-preserved
loop-place-preserved g c =
    let cache = (view_of c.args.client.now).cache in
    let root = c.args.root.now in
    let paths = c.loop-place.paths.items in
    let place = c.loop-place.place in
    let path = c.index.result.now in
    let children = c.in_ok-children.children.items in
    let before : place < length paths = omega arith in
    let at : slice_get paths place ≡ Some path = slice_get_read paths (length paths) place path refl before c.index.ensures in
    let items : c.append.new.self.items ≡ paths ++ children = c.in_ok-append.ensures.items in
    let count : length c.append.new.self.items ≡ length paths + length children = ap length items ∙ length-append paths children in
    let fits : length children ≤ c.args.most - c.len-in-loop-place.result = c.in_ok-children.ensures.fits in
    let next : suc place ≡ place + 1 = omega arith in
    record {
      sought = subst (λ (xs : List Text). Sought cache root xs (place + 1)) (sym items)
          (subst (λ (n : ℕ). Sought cache root (paths ++ children) n) next
          (sought_next cache root paths place path children c.loop-place.invariant.sought at c.in_ok-children.ensures.found before));
      within = omega (arith, count, fits);
    }

pub returns-clause-shown : goal.returns-clause-shown
returns-clause-shown g c =
    let end : length c.loop-place.paths.items ≤ c.loop-place.place = omega arith in
    sought_all (view_of c.args.client.now).cache c.args.root.now c.loop-place.paths.items c.loop-place.place
    c.loop-place.invariant.sought end
