-- A schedule stays one over a history that goes on, by induction over the entries: each server holds what it held (`goes_serving`).
use Rattle.theory_serving.proofs.GoingOn.{goes_serving, goes_served}
use Rattle.theory_serving.proofs.history_goes_on.Goals as goal

pub returns-clause-serving : goal.returns-clause-serving
returns-clause-serving c = goes_serving

pub returns-clause-served : goal.returns-clause-served
returns-clause-served c = goes_served
