-- The name lies right below the directory, by what `name_below` ensures, and has the prefix, by the test of `has_prefix`.
use Rattle.zk_conclusions.proofs.firsts.name_with.Goals as goal

pub returns-clause-some : goal.returns-clause-some
returns-clause-some g c = (c.in_ok-name.ensures.some, c.has_prefix.ensures.rest.0 c.if-not-has_prefix.false)
