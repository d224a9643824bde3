-- A path whose text is not `/` has no node before all changes, by `first_absent`.
use Rattle.std.proofs.Common.{sym, ◌∙◌}
use Rattle.zk_history.proofs.VersionsLemmas.{first_absent}
use Rattle.zk_history.proofs.replay.first_entry.Goals as goal

pub returns-else-eq : goal.returns-else-eq
returns-else-eq c = first_absent c.args.at.now c.requires (sym c.eq.ensures ∙ c.if-eq.false)
