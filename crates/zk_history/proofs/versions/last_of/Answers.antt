-- The last of a slice, copied, is the last version: `slice_last`.
use Rattle.std.proofs.Common.{◌∙◌}
use Rattle.zk_history.proofs.VersionsLemmas.{slice_last}
use Rattle.zk_history.proofs.versions.last_of.Goals as goal

pub returns : goal.returns
returns c = c.copied.ensures ∙ c.last.ensures.value ∙ slice_last c.args.versions.now
