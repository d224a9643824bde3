-- The history is computed, and what both programs show is taken from their moments.
use Rattle.theory_contenders.proofs.Line_history.{line_history, line_sequence, alone_sequence, only_numbered, all_listed}
use Rattle.theory_contenders.proofs.Line_history.{made_by_first, made_by_second, again_history, again_sequence}
use Rattle.theory_contenders.proofs.Line_concluded.{first_stands, second_stands_first, first_holds, second_holds}
use Rattle.theory_contenders.proofs.Line_concluded.{numbers_rise_there, names_rise_there}
use Rattle.theory_contenders.proofs.premises_are_met.Goals as goal

pub returns-clause-history : goal.returns-clause-history
returns-clause-history c = line_history

pub returns-clause-sequence : goal.returns-clause-sequence
returns-clause-sequence c = line_sequence

pub returns-clause-numbers : goal.returns-clause-numbers
returns-clause-numbers c = numbers_rise_there

pub returns-clause-names : goal.returns-clause-names
returns-clause-names c = names_rise_there

pub returns-clause-alone : goal.returns-clause-alone
returns-clause-alone c = alone_sequence

pub returns-clause-only : goal.returns-clause-only
returns-clause-only c = only_numbered

pub returns-clause-stands : goal.returns-clause-stands
returns-clause-stands c = first_stands

pub returns-clause-stands_later : goal.returns-clause-stands_later
returns-clause-stands_later c = second_stands_first

pub returns-clause-holds : goal.returns-clause-holds
returns-clause-holds c = first_holds

pub returns-clause-holds_later : goal.returns-clause-holds_later
returns-clause-holds_later c = second_holds

pub returns-clause-listed : goal.returns-clause-listed
returns-clause-listed c = all_listed

pub returns-clause-made : goal.returns-clause-made
returns-clause-made c = made_by_first

pub returns-clause-made_later : goal.returns-clause-made_later
returns-clause-made_later c = made_by_second

pub returns-clause-again : goal.returns-clause-again
returns-clause-again c = again_history

pub returns-clause-from_zero : goal.returns-clause-from_zero
returns-clause-from_zero c = again_sequence
