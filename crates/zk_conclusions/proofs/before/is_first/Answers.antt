-- The own name is first just where no rival's is before it: `first_of`, by the negation of what `has_before` ensures.
use Rattle.std.proofs.Common.{ap, not}
use Rattle.zk_conclusions.specs.Kinds.{kind_of}
use Rattle.zk_conclusions.specs.Numbers.{is_rival}
use Rattle.zk_conclusions.proofs.FirstNames.{first_of}
use Rattle.zk_conclusions.proofs.before.is_first.Goals as goal

pub returns : goal.returns
returns g c =
    first_of (is_rival (kind_of c.args.kind.now)) c.args.own.now c.args.names.now (not c.has_before.result) (ap not c.has_before.ensures)
