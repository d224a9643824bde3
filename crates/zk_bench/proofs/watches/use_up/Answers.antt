-- An event of this side takes the path out (`names_of-remove`) and tells whether it was there (`contains-names_of`).
use Rattle.std.proofs.Common.{ap, sym, ◌∙◌, ◌&&◌}
use Rattle.std.specs.FinSet as set
use Rattle.zk_nodes.specs.inner.Names.{names_of}
use Rattle.zk_nodes.proofs.NamesLemmas.{names_of-remove, contains-names_of}
use Rattle.zk_bench.specs.inner.Watching.{used_up}
use Rattle.zk_bench.proofs.watches.use_up.Goals as goal

pub returns-then-concerned-clause-paths : goal.returns-then-concerned-clause-paths
returns-then-concerned-clause-paths g c =
    names_of-remove c.args.paths.now c.remove.new.self c.args.path.now c.remove.ensures.updates
    ∙ sym (ap (λ b. used_up b (names_of c.args.paths.now) c.args.path.now) c.if-concerned.true)

pub returns-then-concerned-clause-there : goal.returns-then-concerned-clause-there
returns-then-concerned-clause-there g c =
    c.remove.ensures.test ∙ sym (contains-names_of c.args.paths.now c.args.path.now)
    ∙ sym (ap (λ b. b && set.contains (names_of c.args.paths.now) c.args.path.now) c.if-concerned.true)
