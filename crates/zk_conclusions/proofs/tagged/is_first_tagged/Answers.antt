-- A name is the first with the tag exactly where none with it is before: `first_of`, with what `has_tagged_before` ensures, negated.
use Rattle.std.proofs.Common.{ap, not}
use Rattle.zk_conclusions.specs.Tags.{has_tag}
use Rattle.zk_conclusions.proofs.FirstNames.{first_of}
use Rattle.zk_conclusions.proofs.tagged.is_first_tagged.Goals as goal

pub returns : goal.returns
returns g c =
    first_of (has_tag c.args.tag.now) c.args.name.now c.args.names.now (not c.has_tagged_before.result) (ap not c.has_tagged_before.ensures)
