-- Where there is an entry, its ticket finds it: `one_there`.
use Rattle.std.proofs.Common.{◌∙◌, sym, true≢false}
use Rattle.zk_contend.proofs.Rolls.{one_there}
use Rattle.zk_contend.proofs.roll.has_none.Goals as goal

pub returns-clause-one : goal.returns-clause-one
returns-clause-one g c e = one_there c.args.map.now.entries (λ none. true≢false (sym (c.is_empty.ensures.1 none) ∙ e))
