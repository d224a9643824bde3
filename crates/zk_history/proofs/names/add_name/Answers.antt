-- A name is added to the set: what `insert` and `from_str` ensure, by `names_of-insert`.
use Rattle.std.proofs.Common.{ap, ◌∙◌}
use Rattle.std.specs.FinSet as set
use Rattle.zk_nodes.specs.inner.Names.{names_of}
use Rattle.zk_nodes.proofs.NamesLemmas.{names_of-insert}
use Rattle.zk_history.proofs.names.add_name.Goals as goal

pub returns : goal.returns
returns g c = names_of-insert c.args.names.now c.insert.new.self c.in_ok-from_str.field-0 c.in_ok-insert.ensures.updates
    ∙ ap (set.insert (names_of c.args.names.now)) c.in_ok-from_str.ensures.ok
