-- The next xid is the number of calls sent, modulo 2,147,483,647, plus one: by arithmetic, and by the rule of a turn (`Numbered`).
use Rattle.theory_rules.proofs.xids.Goals as goal
use Rattle.theory_rules.proofs.Numbered.{first_is, are_in_range, run_on, begin_again, calls_move, goes_out, is_shown, are_apart}

pub returns-clause-first : goal.returns-clause-first
returns-clause-first c = first_is

pub returns-clause-range : goal.returns-clause-range
returns-clause-range c = are_in_range

pub returns-clause-next : goal.returns-clause-next
returns-clause-next c = run_on

pub returns-clause-again : goal.returns-clause-again
returns-clause-again c = begin_again

pub returns-clause-calls : goal.returns-clause-calls
returns-clause-calls c = calls_move

pub returns-clause-sent : goal.returns-clause-sent
returns-clause-sent c = goes_out

pub returns-clause-shown : goal.returns-clause-shown
returns-clause-shown c = is_shown

pub returns-clause-apart : goal.returns-clause-apart
returns-clause-apart c = are_apart
