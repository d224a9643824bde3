-- By the answer of `is_below`: no name puts the path below the directory (`not_below`), or its last one does (`below_by`).
use Rattle.std.proofs.Common.{sym, ◌∙◌}
use Rattle.zk_nodes.specs.Path.{path_of}
use Rattle.zk_conclusions.proofs.Shown.{not_below, below_by}
use Rattle.zk_conclusions.proofs.below.name_below.Goals as goal

pub returns-then-not-is_below-clause-none : goal.returns-then-not-is_below-clause-none
returns-then-not-is_below-clause-none g c e name place = not_below (path_of c.args.directory.now)
    (path_of c.args.path.now) name c.is_below.result c.is_below.ensures c.if-not-is_below.true place

pub returns-clause-some : goal.returns-clause-some
returns-clause-some g c = below_by (path_of c.args.directory.now) (path_of c.args.path.now) c.in_ok-name.name.now (sym c.in_ok-name.ensures)
    (sym c.is_below.ensures ∙ c.if-not-is_below.false)
