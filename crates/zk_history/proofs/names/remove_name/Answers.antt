-- A name is taken out of the set: what `remove` ensures, by `names_of-remove`.
use Rattle.zk_nodes.proofs.NamesLemmas.{names_of-remove}
use Rattle.zk_history.proofs.names.remove_name.Goals as goal

pub returns : goal.returns
returns g c = names_of-remove c.args.names.now c.remove.new.self c.args.name.now c.remove.ensures.updates
