-- A name is the first exactly where none of the set is its rival: `is_first_of`, with what `has_rival` ensures, negated.
use Rattle.std.proofs.Common.{ap, not}
use Rattle.zk_conclusions.proofs.Rivals.{is_first_of}
use Rattle.zk_conclusions.proofs.firsts.is_first.Goals as goal

pub returns : goal.returns
returns g c = is_first_of c.args.prefix.now c.args.own.now c.args.names.now.names (not c.has_rival.result)
    (ap not c.has_rival.ensures)
