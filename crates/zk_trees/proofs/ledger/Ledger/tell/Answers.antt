-- News that are pushed are the last of those told.
use Rattle.std.proofs.Common.{◌≡◌, ◌++◌, [], ◌∷◌, ◌∙◌, ap, rules}
use Rattle.std.proofs.lemmas.List.{map-append}
use Rattle.zk_trees.specs.Tending.{tree_told, trees_told}
use Rattle.zk_trees.proofs.ledger.Ledger.tell.Goals as goal

pub returns-clause-told : goal.returns-clause-told
returns-clause-told g c =
    let more : c.push.new.self.items ≡ c.args.self.now.news.items ++ c.args.news ∷ [] = search rules in
    ap trees_told more ∙ map-append tree_told c.args.self.now.news.items (c.args.news ∷ [])
