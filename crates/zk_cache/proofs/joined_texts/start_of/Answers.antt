-- A segment begins where the one before it ends.
use Rattle.std.proofs.Common.{arith}
use Rattle.zk_cache.proofs.SpelledLemmas.{start_at-later}
use Rattle.zk_cache.proofs.joined_texts.start_of.Goals as goal

pub returns-else-index-eq0 : goal.returns-else-index-eq0
returns-else-index-eq0 c = start_at-later 0 c.args.ends.now c.args.index (omega (arith, c.if-index-eq0.false)) c.requires
