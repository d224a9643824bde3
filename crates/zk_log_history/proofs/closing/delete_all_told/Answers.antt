-- One path more is looked at: `deletions-more`, `deletions_left`. At the end none is left.
use Rattle.std.proofs.Common.{◌≡◌, rules, refl, ap, sym, ◌∙◌, [], drop, map, is_some, subst}
use Rattle.std.proofs.lemmas.List.{drop_all}
use Rattle.zk_log_history.specs.Changes.{named, with_changes, deletions}
use Rattle.zk_log_history.specs.Refused.{first_fault, path_fault}
use Rattle.zk_log_history.proofs.Deletions.{deletions-more}
use Rattle.zk_log_history.proofs.Refused.{AreLeft, left_all, left_done, deletions_left}
use Rattle.zk_log_history.proofs.closing.delete_all_told.Goals as goal

pub loop-path-init : goal.loop-path-init
loop-path-init g c = (
  refl,
  left_all (first_fault path_fault c.args.paths.now) c.args.history.now (deletions is_some c.args.history.now (map named c.args.paths.now)),
)

pub loop-path-preserved : goal.loop-path-preserved
loop-path-preserved g c = (
  deletions-more named is_some c.args.paths.now c.loop-path.path-index c.path-item.result c.loop-path.history
      c.delete_told.new.history _ (search rules) c.path-item.is c.in_ok-delete_told.ensures.deleted c.loop-path.invariant.0,
  deletions_left named path_fault is_some c.args.paths.now c.loop-path.path-index c.path-item.result _ c.loop-path.history
      c.delete_told.new.history _ _ (search rules) c.path-item.is c.in_ok-delete_told.ensures.taken.0
      c.in_ok-delete_told.ensures.taken.1 c.in_ok-delete_told.ensures.deleted c.loop-path.invariant.1,
)

pub returns-clause-deleted : goal.returns-clause-deleted
returns-clause-deleted g c =
    let now = c.loop-path.history in
    let none : drop c.loop-path.path-index c.args.paths.now ≡ [] = drop_all c.loop-path.path-index c.args.paths.now
    c.loop-path-test.false in
    sym (ap (λ left. with_changes now (deletions is_some now (map named left))) none) ∙ c.loop-path.invariant.0

pub returns-clause-taken : goal.returns-clause-taken
returns-clause-taken g c =
    let now = c.loop-path.history in
    let none : drop c.loop-path.path-index c.args.paths.now ≡ [] = drop_all c.loop-path.path-index c.args.paths.now
    c.loop-path-test.false in
    left_done _ now _ _
    (subst (λ left. AreLeft (first_fault path_fault left) now (deletions is_some now (map named left)) (first_fault path_fault
    c.args.paths.now)
    c.args.history.now (deletions is_some c.args.history.now (map named c.args.paths.now))) none c.loop-path.invariant.1)
