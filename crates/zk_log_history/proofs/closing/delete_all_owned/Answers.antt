-- One path more is looked at: `deletions-more`, `deletions_left`. The session's number fits, so it stays itself.
use Rattle.std.proofs.Common.{◌≡◌, rules, refl, ℤ, None, map, subst, w64, to_z, of_z}
use Rattle.std.proofs.lemmas.Int.{to_z-of_z}
use Rattle.zk_nodes.specs.Path.{path_of}
use Rattle.zk_log_history.specs.Changes.{is_owned, deletions}
use Rattle.zk_log_history.specs.inner.Refused.{Refuses}
use Rattle.zk_log_history.proofs.Deletions.{deletions-more}
use Rattle.zk_log_history.proofs.Refused.{faultless, deletions_left, deletions_refused, none_first, on_err}
use Rattle.zk_log_history.proofs.closing.delete_all_owned.Goals as goal

pub loop-path-preserved : goal.loop-path-preserved
loop-path-preserved g c =
    let owned = is_owned (to_z w64 (of_z w64 c.args.session)) in (
      deletions-more path_of owned c.args.paths.now c.loop-path.path-index c.path-item.result
          c.loop-path.history c.delete_owned.new.history _ (search rules) c.path-item.is c.in_ok-delete_owned.ensures.deleted
          c.loop-path.invariant.0,
      deletions_left path_of faultless owned c.args.paths.now c.loop-path.path-index c.path-item.result _ c.loop-path.history
          c.delete_owned.new.history _ _ (search rules) c.path-item.is refl c.in_ok-delete_owned.ensures.taken
          c.in_ok-delete_owned.ensures.deleted c.loop-path.invariant.1,
    )

pub returns-in_err-delete_owned-clause-refused : goal.returns-in_err-delete_owned-clause-refused
returns-in_err-delete_owned-clause-refused g c =
    let n = to_z w64 (of_z w64 c.args.session) in
    let same : n ≡ c.args.session = to_z-of_z w64 c.args.session (search rules) in
    let kept = c.args.history.now in
    let paths = c.args.paths.now in
    let why = c.in_err-delete_owned.field-0.0 in
    on_err c.from_residual.result why (λ one. Refuses None kept (deletions (is_owned c.args.session) kept (map path_of paths)) one)
    c.from_residual.ensures.1
    (subst (λ (m : ℤ). Refuses None kept (deletions (is_owned m) kept (map path_of paths)) why) same
    (subst (λ f. Refuses f kept (deletions (is_owned n) kept (map path_of paths)) why) (none_first paths)
    (deletions_refused path_of faultless (is_owned n) paths c.loop-path.path-index c.path-item.result _ c.loop-path.history kept _ why
    (search rules) c.path-item.is c.loop-path.invariant.1 c.in_err-delete_owned.ensures.refused)))
