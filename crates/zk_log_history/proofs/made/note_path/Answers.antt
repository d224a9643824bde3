-- The path stands after those of its session, by `noted`. Numbers fit, so they stay themselves.
use Rattle.std.proofs.Common.{◌≡◌, rules, ap, sym, ◌∙◌, ◌∷◌, ◌++◌, [], ℤ, cond, w64, to_z, of_z}
use Rattle.std.proofs.lemmas.Int.{to_z-of_z}
use Rattle.zk_log_history.specs.Changes.{is_owner}
use Rattle.zk_log_history.specs.Made.{paths_made}
use Rattle.zk_log_history.proofs.Sessions.{noted}
use Rattle.zk_log_history.proofs.made.note_path.Goals as goal

pub returns-in-Ok : goal.returns-in-Ok
returns-in-Ok g c = λ s.
    let m = c.args.made.now in
    let p = c.args.path.now in
    let k = to_z w64 (of_z w64 c.args.owner) in
    let same : k ≡ c.args.owner = to_z-of_z w64 c.args.owner (search rules) in
    noted m c.take_paths-paths.new.made c.insert.new.self c.push.new.self k p
    (λ none. c.if-owner-eq0.false (ap (of_z w64) (sym same ∙ none))) c.take_paths-paths.ensures.others c.in-Ok.ensures.updates
    (c.in_ok-push.ensures.items ∙ ap (λ ps. ps ++ c.in_ok-path.path ∷ []) c.take_paths-paths.ensures.paths
    ∙ ap (λ q. paths_made m k ++ q ∷ []) c.in_ok-path.ensures)
    s
    ∙ ap (λ (n : ℤ). cond (is_owner s n) (paths_made m s ++ p ∷ []) (paths_made m s)) same
