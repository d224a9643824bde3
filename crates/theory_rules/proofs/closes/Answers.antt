-- What the reply to a close says is computed (`close_says`), and by the case of its code any code will do (`any_code`). The client stays
-- closed (`close_stays`), by induction over what happens after: none of it moves the state of a closed client.
use Rattle.theory_rules.proofs.closes.Goals as goal
use Rattle.theory_rules.proofs.Closed.{close_says, any_code, close_stays}

pub returns-clause-says : goal.returns-clause-says
returns-clause-says c = close_says

pub returns-clause-code : goal.returns-clause-code
returns-clause-code c = any_code

pub returns-clause-stays : goal.returns-clause-stays
returns-clause-stays c = close_stays
