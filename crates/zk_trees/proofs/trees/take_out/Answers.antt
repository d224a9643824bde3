-- The tree at the index is the first of the ticket where those before it have another one (`is_found`, `is_left`, `missed_more`); where the
-- loop ends, none has it (`none_found`).
use Rattle.std.proofs.Common.{List, ◌≡◌, ◌≤◌, ◌<◌, ◌+◌, ◌++◌, ◌∙◌, arith, ap, drop, get_or, length, refl, rules, subst, take, true, false}
use Rattle.std.proofs.lemmas.List.{drop_all, take_all}
use Rattle.std.specs.Prelude.{◌==◌}
use Rattle.zk_trees.specs.declared.tree.Tree.{Tree}
use Rattle.zk_trees.proofs.Finding.{is_found, is_left, missed_more, none_found, same_read}
use Rattle.zk_trees.proofs.trees.take_out.Goals as goal

pub loop-index-init : goal.loop-index-init
loop-index-init g c = record { missed = record { finds = refl; leaves = refl }; same = refl }

pub loop-index-preserved : goal.loop-index-preserved
loop-index-preserved g c =
    let all = c.args.trees.now.items in
    let index = c.loop-index.index in
    let one = c.index.result.now in
    let within : index < length all = omega (arith, c.loop-index-test.true, c.len-index-end.ensures, c.args.trees.now.ok.0) in
    let at : one ≡ get_or all index one =
    subst (λ (l : List (Tree g.row.A.Denot)). one ≡ get_or l index one) c.loop-index.invariant.same c.index.ensures in
    let not : (one.ticket == c.args.ticket) ≡ false = search rules in
    record {
      missed = missed_more c.args.ticket all index one within at c.loop-index.invariant.missed not;
      same = c.loop-index.invariant.same;
    }

pub returns-then-is_it-clause-found : goal.returns-then-is_it-clause-found
returns-then-is_it-clause-found g c =
    let all = c.args.trees.now.items in
    let index = c.loop-index.index in
    let seen = c.index.result.now in
    let one = c.remove.result in
    let within : index < length all = omega (arith, c.loop-index-test.true, c.len-index-end.ensures, c.args.trees.now.ok.0) in
    let saw : seen ≡ get_or all index seen =
    subst (λ (l : List (Tree g.row.A.Denot)). seen ≡ get_or l index seen) c.loop-index.invariant.same c.index.ensures in
    let at : one ≡ get_or all index one =
    subst (λ (l : List (Tree g.row.A.Denot)). one ≡ get_or l index one) c.loop-index.invariant.same c.remove.ensures.value in
    let is : (seen.ticket == c.args.ticket) ≡ true = search rules in
    is_found c.args.ticket all index one within at c.loop-index.invariant.missed
    (ap (λ t. t.ticket == c.args.ticket) (same_read all index one seen within at saw) ∙ is)

pub returns-then-is_it-clause-left : goal.returns-then-is_it-clause-left
returns-then-is_it-clause-left g c =
    let all = c.args.trees.now.items in
    let index = c.loop-index.index in
    let seen = c.index.result.now in
    let within : index < length all = omega (arith, c.loop-index-test.true, c.len-index-end.ensures, c.args.trees.now.ok.0) in
    let saw : seen ≡ get_or all index seen =
    subst (λ (l : List (Tree g.row.A.Denot)). seen ≡ get_or l index seen) c.loop-index.invariant.same c.index.ensures in
    let is : (seen.ticket == c.args.ticket) ≡ true = search rules in
    let parts : c.remove.new.self.items ≡ take index all ++ drop (index + 1) all =
    subst (λ (l : List (Tree g.row.A.Denot)). c.remove.new.self.items ≡ take index l ++ drop (index + 1) l)
    c.loop-index.invariant.same
    c.remove.ensures.by_index.2 in
    parts ∙ is_left c.args.ticket all index seen within saw c.loop-index.invariant.missed is

pub returns-clause-found : goal.returns-clause-found
returns-clause-found g c =
    let all = c.args.trees.now.items in
    let past : length all ≤ c.loop-index.index =
    omega (arith, c.loop-index-test.false, c.len-index-end.ensures, c.args.trees.now.ok.0) in
    (none_found c.args.ticket all c.loop-index.index (drop_all c.loop-index.index all past)
    (take_all c.loop-index.index all past) c.loop-index.invariant.missed).0

pub returns-clause-left : goal.returns-clause-left
returns-clause-left g c =
    let all = c.args.trees.now.items in
    let past : length all ≤ c.loop-index.index =
    omega (arith, c.loop-index-test.false, c.len-index-end.ensures, c.args.trees.now.ok.0) in
    c.loop-index.invariant.same
    ∙ (none_found c.args.ticket all c.loop-index.index (drop_all c.loop-index.index all past)
    (take_all c.loop-index.index all past) c.loop-index.invariant.missed).1
