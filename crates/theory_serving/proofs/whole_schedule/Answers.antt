-- The schedule over three connections meets each premise, entry by entry, and what it leads to is computed: the lemmas of `Whole_shown`.
use Rattle.theory_messages.proofs.Meeting_shown.{resumable_then}
use Rattle.theory_serving.proofs.Whole_shown.{three_history, expired_then, whole_stands, whole_typed, good_then, behind_then, stale_then}
use Rattle.theory_serving.proofs.Whole_shown.{asked_then, answered_then, quiet_then, seven_then, over_then}
use Rattle.theory_serving.proofs.whole_schedule.Goals as goal

pub returns-clause-history : goal.returns-clause-history
returns-clause-history c = three_history

pub returns-clause-serving : goal.returns-clause-serving
returns-clause-serving c = expired_then

pub returns-clause-stands : goal.returns-clause-stands
returns-clause-stands c = whole_stands

pub returns-clause-resumable : goal.returns-clause-resumable
returns-clause-resumable c = resumable_then

pub returns-clause-typed : goal.returns-clause-typed
returns-clause-typed c = whole_typed

pub returns-clause-kept : goal.returns-clause-kept
returns-clause-kept c = good_then

pub returns-clause-behind : goal.returns-clause-behind
returns-clause-behind c = behind_then

pub returns-clause-stale : goal.returns-clause-stale
returns-clause-stale c = stale_then

pub returns-clause-asked : goal.returns-clause-asked
returns-clause-asked c = asked_then

pub returns-clause-answered : goal.returns-clause-answered
returns-clause-answered c = answered_then

pub returns-clause-quiet : goal.returns-clause-quiet
returns-clause-quiet c = quiet_then

pub returns-clause-written : goal.returns-clause-written
returns-clause-written c = seven_then

pub returns-clause-expired : goal.returns-clause-expired
returns-clause-expired c = over_then
