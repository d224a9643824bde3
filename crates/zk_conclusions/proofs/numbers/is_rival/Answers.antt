-- A name is a rival's where it is numbered after one of the markers: by what `has_one` ensures, and `any_made` for the markers' texts.
use Rattle.std.proofs.Common.{sym, ◌∙◌}
use Rattle.zk_conclusions.specs.Numbers.{is_numbered}
use Rattle.zk_conclusions.proofs.FirstNames.{any_made}
use Rattle.zk_conclusions.proofs.numbers.is_rival.Goals as goal

pub returns : goal.returns
returns c = c.has_one.ensures ∙ sym (any_made (λ m. is_numbered m c.args.name.now) (λ m. m.now) c.args.kind.now.against.now)
