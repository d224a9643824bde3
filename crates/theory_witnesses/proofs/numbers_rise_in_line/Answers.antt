-- Numbers rise, and each session stands first in its turn, by the case of which of the two nodes are meant.
use Rattle.theory_witnesses.proofs.Lined.{numbers_rise, first_stands, second_stands, second_listed, all_made_by}
use Rattle.theory_witnesses.proofs.numbers_rise_in_line.Goals as goal

pub returns-clause-rise : goal.returns-clause-rise
returns-clause-rise c = numbers_rise

pub returns-clause-first : goal.returns-clause-first
returns-clause-first c = first_stands

pub returns-clause-second : goal.returns-clause-second
returns-clause-second c = second_stands

pub returns-clause-listed : goal.returns-clause-listed
returns-clause-listed c = second_listed

pub returns-clause-made : goal.returns-clause-made
returns-clause-made c = all_made_by
