-- Those that are kept under the session's number, which fits, so it stays itself.
use Rattle.std.proofs.Common.{◌≡◌, rules, ap, ◌∙◌, [], None, subst, w64, to_z, of_z}
use Rattle.std.proofs.lemmas.Int.{to_z-of_z}
use Rattle.std.specs.BTreeMap.{UpdatesBy}
use Rattle.std.specs.Option.{option_map_or}
use Rattle.std.specs.Ordering.{int_cmp}
use Rattle.zk_log_history.specs.Made.{paths_made}
use Rattle.zk_log_history.proofs.made.take_paths.Goals as goal

pub returns-in-Some-clause-paths : goal.returns-in-Some-clause-paths
returns-in-Some-clause-paths g c =
    ap (λ o. option_map_or (λ v. v.items) o []) c.in-Some.ensures.value
    ∙ ap (paths_made c.args.made.now) (to_z-of_z w64 c.args.session (search rules))

pub returns-in-Some-clause-others : goal.returns-in-Some-clause-others
returns-in-Some-clause-others g c =
    let same : to_z w64 (of_z w64 c.args.session) ≡ c.args.session = to_z-of_z w64 c.args.session (search rules) in
    subst (λ k. UpdatesBy int_cmp (int_cmp k) c.args.made.now c.remove.new.self None) same c.remove.ensures.updates

pub returns-in-None-clause-paths : goal.returns-in-None-clause-paths
returns-in-None-clause-paths g c =
    c.new.ensures.items ∙ ap (λ o. option_map_or (λ v. v.items) o []) c.in-None.ensures.value
    ∙ ap (paths_made c.args.made.now) (to_z-of_z w64 c.args.session (search rules))

pub returns-in-None-clause-others : goal.returns-in-None-clause-others
returns-in-None-clause-others g c =
    let same : to_z w64 (of_z w64 c.args.session) ≡ c.args.session = to_z-of_z w64 c.args.session (search rules) in
    subst (λ k. UpdatesBy int_cmp (int_cmp k) c.args.made.now c.remove.new.self None) same c.remove.ensures.updates
