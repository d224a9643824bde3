-- The schedule is one at /a, and what is kept of it is good: `apart_served`, `apart_of_one_tree`.
use Rattle.theory_witnesses.proofs.Apart.{apart_served, apart_of_one_tree}
use Rattle.theory_witnesses.proofs.departing_client_is_served.Goals as goal

pub returns-clause-served : goal.returns-clause-served
returns-clause-served c = apart_served

pub returns-clause-tree : goal.returns-clause-tree
returns-clause-tree c = apart_of_one_tree
