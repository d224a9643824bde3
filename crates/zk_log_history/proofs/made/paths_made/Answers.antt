-- Those that are kept under the session's number, which fits, so it stays itself.
use Rattle.std.proofs.Common.{rules, ap, ◌∙◌, [], w64}
use Rattle.std.proofs.lemmas.Int.{to_z-of_z}
use Rattle.std.specs.Option.{option_map_or}
use Rattle.zk_log_history.specs.Made.{paths_made}
use Rattle.zk_log_history.proofs.made.paths_made.Goals as goal

pub returns-in-Some : goal.returns-in-Some
returns-in-Some g c =
    c.as_slice.ensures.value ∙ ap (λ o. option_map_or (λ v. v.items) o []) c.in-Some.ensures.value
    ∙ ap (paths_made c.args.made.now) (to_z-of_z w64 c.args.session (search rules))

pub returns-in-None : goal.returns-in-None
returns-in-None g c =
    ap (λ o. option_map_or (λ v. v.items) o []) c.in-None.ensures.value
    ∙ ap (paths_made c.args.made.now) (to_z-of_z w64 c.args.session (search rules))
