-- Each new name has a number above all that are there: `sequences_rise`; and behind one prefix bytes are ordered as numbers are.
use Rattle.theory_contenders.proofs.Counting.{sequences_rise, names_in_sequence_rise}
use Rattle.theory_contenders.proofs.numbers_rise.Goals as goal

pub returns-clause-numbers : goal.returns-clause-numbers
returns-clause-numbers c = sequences_rise

pub returns-clause-names : goal.returns-clause-names
returns-clause-names c = names_in_sequence_rise
