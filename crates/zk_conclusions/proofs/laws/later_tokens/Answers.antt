-- In the history by `tokens_rise`, by the case whether the later node was there before; of clients by `later_tokens`, built on it.
use Rattle.zk_conclusions.proofs.Holding.{tokens_rise, later_tokens}
use Rattle.zk_conclusions.proofs.laws.later_tokens.Goals as goal

pub returns-clause-tree : goal.returns-clause-tree
returns-clause-tree c = tokens_rise

pub returns-clause-clients : goal.returns-clause-clients
returns-clause-clients c = later_tokens
