-- `retain` keeps each and changes it (`map-RetainsPairs`); so a look-up finds it changed (`lookup-changed`).
use Rattle.std.proofs.Common.{◌∙◌, ap, nat_eq, rules}
use Rattle.std.specs.Map.{lookup}
use Rattle.zk_contend.specs.Contenders.{closed}
use Rattle.zk_contend.proofs.Rolls.{lookup-changed, map-RetainsPairs}
use Rattle.zk_contend.proofs.roll.close_each.Goals as goal

pub returns : goal.returns
returns g c =
    λ ticket.
    ap (lookup (nat_eq ticket))
    (map-RetainsPairs _ closed _ (λ k v b w f call. search rules) _ _ c.retain.ensures.filtered)
    ∙ lookup-changed (nat_eq ticket) closed c.args.all.now.entries
