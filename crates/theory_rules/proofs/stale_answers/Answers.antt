-- An answer is stale exactly where a notice ended it and nothing since changed that: `nodes`, `children`, by induction over the past.
use Rattle.theory_rules.proofs.Looking_back.{nodes, children}
use Rattle.theory_rules.proofs.stale_answers.Goals as goal

pub returns-clause-nodes : goal.returns-clause-nodes
returns-clause-nodes c path past answer = nodes path past answer

pub returns-clause-children : goal.returns-clause-children
returns-clause-children c path past names = children path past names
