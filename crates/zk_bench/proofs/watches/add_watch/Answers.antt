-- The set holds one path more: `names_of-insert`, rewritten by what `from_str` ensures of the copy's bytes.
use Rattle.std.proofs.Common.{ap, ◌∙◌}
use Rattle.std.specs.FinSet as set
use Rattle.zk_nodes.specs.inner.Names.{names_of}
use Rattle.zk_nodes.proofs.NamesLemmas.{names_of-insert}
use Rattle.zk_bench.proofs.watches.add_watch.Goals as goal

pub returns : goal.returns
returns g c = names_of-insert c.args.paths.now c.insert.new.self c.in_ok-from_str.field-0 c.in_ok-insert.ensures.updates
    ∙ ap (set.insert (names_of c.args.paths.now)) c.in_ok-from_str.ensures.ok
