-- The Stat tells the owner, by `owner_told`: no zxid is above that which is asked for. Its number fits, so it
-- stays itself.
use Rattle.std.proofs.Common.{rules, sym, ap, ◌∙◌, Some, w64}
use Rattle.std.proofs.lemmas.Int.{to_z-of_z}
use Rattle.std.specs.Option.{option_map}
use Rattle.zk_nodes.specs.Path.{path_of}
use Rattle.zk_log_history.proofs.Newest.{owner_told}
use Rattle.zk_log_history.proofs.closing.owner_at.Goals as goal

pub returns-in-None : goal.returns-in-None
returns-in-None g c =
    ap (option_map (λ s. s.ephemeral_owner)) (sym c.in-None.is)
    ∙ owner_told c.args.history.now (path_of c.args.path.now) c.stat_at.result c.last_zxid-last.ensures.history c.stat_at.ensures.told

pub returns-in-Some : goal.returns-in-Some
returns-in-Some g c =
    ap Some (to_z-of_z w64 c.in-Some.stat.ephemeral_owner (search rules))
    ∙ ap (option_map (λ s. s.ephemeral_owner)) (sym c.in-Some.is)
    ∙ owner_told c.args.history.now (path_of c.args.path.now) c.stat_at.result c.last_zxid-last.ensures.history c.stat_at.ensures.told
