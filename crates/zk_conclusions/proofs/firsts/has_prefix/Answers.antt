-- The answer is the test of the bytes (`starts_text`), which says whether there is a prefix: `begins`, and back by `tells_prefix`.
use Rattle.std.proofs.Common.{sym, ◌∙◌}
use Rattle.std.proofs.lemmas.Str.Pattern.{starts_text}
use Rattle.zk_conclusions.proofs.Rivals.{begins, tells_prefix}
use Rattle.zk_conclusions.proofs.firsts.has_prefix.Goals as goal

pub returns-clause-test : goal.returns-clause-test
returns-clause-test c = starts_text c.starts_with.result c.args.prefix.now c.args.name.now c.starts_with.ensures.cases

pub returns-clause-rest : goal.returns-clause-rest
returns-clause-rest c = (
  λ t. begins c.args.prefix.now c.args.name.now (sym (returns-clause-test c) ∙ t),
  λ h. returns-clause-test c ∙ tells_prefix c.args.prefix.now c.args.name.now h,
)
