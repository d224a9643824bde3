-- Whoever stands, holds: that is the lemma `holds_here`.
use Rattle.zk_client.proofs.Holding.{holds_here}
use Rattle.zk_client.proofs.laws.holds.Goals as goal

pub returns : goal.returns
returns c start items view s = holds_here start items view s
