-- The history is one (`line_history`); names rise, and each session holds in its turn, by the case of which of the two nodes are meant.
use Rattle.theory_witnesses.proofs.Lined.{line_history, names_rise, first_holds, second_holds}
use Rattle.theory_witnesses.proofs.names_rise_in_line.Goals as goal

pub returns-clause-history : goal.returns-clause-history
returns-clause-history c = line_history

pub returns-clause-rise : goal.returns-clause-rise
returns-clause-rise c = names_rise

pub returns-clause-first : goal.returns-clause-first
returns-clause-first c = first_holds

pub returns-clause-second : goal.returns-clause-second
returns-clause-second c = second_holds
