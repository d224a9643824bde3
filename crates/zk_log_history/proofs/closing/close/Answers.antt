-- What is told is deleted, and then what is owned, by `closed_by`, `closed_taken` and `owned_refused`; a deletion makes no node. The
-- session's number fits, so it stays itself.
use Rattle.std.proofs.Common.{◌≡◌, rules, ap, ◌∙◌, ℤ, map, None, subst, w64, to_z, of_z}
use Rattle.std.proofs.lemmas.Int.{to_z-of_z}
use Rattle.std.proofs.lemmas.Result.{on_ok_weaker, MatchResult-weaker}
use Rattle.zk_nodes.specs.Path.{path_of}
use Rattle.zk_log_history.specs.Changes.{is_owned, with_changes, deletions, close_changes}
use Rattle.zk_log_history.specs.Made.{paths_made, AreMade}
use Rattle.zk_log_history.specs.Refused.{AreTaken, first_fault, path_fault}
use Rattle.zk_log_history.specs.inner.Refused.{Refuses}
use Rattle.zk_log_history.proofs.Deletions.{closed_by, AreMade-closed}
use Rattle.zk_log_history.proofs.Refused.{closed_taken, told_refused, owned_refused, on_err}
use Rattle.zk_log_history.proofs.closing.close.Goals as goal

pub returns-clause-closed : goal.returns-clause-closed
returns-clause-closed g c =
    let told = c.delete_all_told.new.history in
    let same : to_z w64 (of_z w64 c.args.session) ≡ c.args.session = to_z-of_z w64 c.args.session (search rules) in
    on_ok_weaker c.delete_all_owned.result
    (λ deleted made. closed_by c.args.made.now c.args.session c.args.paths.now c.args.history.now told
    c.delete_all_owned.new.history c.paths_made.result.now c.in_ok-delete_all_told.ensures.deleted
    (c.paths_made.ensures ∙ ap (paths_made c.args.made.now) same) made
    (deleted ∙ ap (λ (n : ℤ). with_changes told (deletions (is_owned n) told (map path_of c.paths_made.result.now))) same))
    c.delete_all_owned.ensures.deleted

pub returns-clause-made : goal.returns-clause-made
returns-clause-made g c =
    on_ok_weaker c.delete_all_owned.result
    (λ deleted made. AreMade-closed c.args.made.now (to_z w64 (of_z w64 c.args.session)) c.args.paths.now c.args.history.now
    c.delete_all_told.new.history c.delete_all_owned.new.history c.paths_made.result.now
    c.in_ok-delete_all_told.ensures.deleted made deleted)
    c.delete_all_owned.ensures.deleted

pub returns-clause-taken : goal.returns-clause-taken
returns-clause-taken g c =
    let told = c.delete_all_told.new.history in
    let owned = c.paths_made.result.now in
    let same : to_z w64 (of_z w64 c.args.session) ≡ c.args.session = to_z-of_z w64 c.args.session (search rules) in
    on_ok_weaker c.delete_all_owned.result
    (λ taken made. (
      c.in_ok-delete_all_told.ensures.taken.0,
      closed_taken c.args.made.now c.args.session c.args.paths.now c.args.history.now told owned c.in_ok-delete_all_told.ensures.deleted
          (c.paths_made.ensures ∙ ap (paths_made c.args.made.now) same) made c.in_ok-delete_all_told.ensures.taken.1
          (subst (λ (n : ℤ). AreTaken told (deletions (is_owned n) told (map path_of owned))) same taken),
    ))
    c.delete_all_owned.ensures.taken

pub returns-clause-refused : goal.returns-clause-refused
returns-clause-refused g c =
    let told = c.delete_all_told.new.history in
    let owned = c.paths_made.result.now in
    let same : to_z w64 (of_z w64 c.args.session) ≡ c.args.session = to_z-of_z w64 c.args.session (search rules) in
    MatchResult-weaker c.delete_all_owned.result c.delete_all_owned.ensures.refused (λ x p. p)
    (λ why refused made. owned_refused c.args.made.now c.args.session c.args.paths.now c.args.history.now told owned why
    c.in_ok-delete_all_told.ensures.deleted (c.paths_made.ensures ∙ ap (paths_made c.args.made.now) same) made
    (subst (λ (n : ℤ). Refuses None told (deletions (is_owned n) told (map path_of owned)) why) same refused))

pub returns-in_err-delete_all_told-clause-refused : goal.returns-in_err-delete_all_told-clause-refused
returns-in_err-delete_all_told-clause-refused g c =
    let fault = first_fault path_fault c.args.paths.now in
    let changes = close_changes c.args.session c.args.paths.now c.args.history.now in
    on_err c.from_residual.result c.in_err-delete_all_told.field-0.0
    (λ why. AreMade c.args.made.now c.args.history.now → Refuses fault c.args.history.now changes why) c.from_residual.ensures.1
    (λ made. told_refused c.args.session c.args.paths.now c.args.history.now _ c.in_err-delete_all_told.ensures.refused)
