-- The schedule whose server departs at another path meets the premise at /a, and what it leads to is computed. No history explains the read
-- of the configuration, as no node has the version -1: `not_by_model`.
use Rattle.theory_messages.proofs.Shown.{is_history}
use Rattle.theory_witnesses.proofs.Departure_shown.{refused_then, refused_stands, good_then, five_then, dropped_then, not_by_model}
use Rattle.theory_witnesses.proofs.departing_schedule.Goals as goal

pub returns-clause-history : goal.returns-clause-history
returns-clause-history c = is_history

pub returns-clause-serving : goal.returns-clause-serving
returns-clause-serving c = refused_then

pub returns-clause-stands : goal.returns-clause-stands
returns-clause-stands c = refused_stands

pub returns-clause-kept : goal.returns-clause-kept
returns-clause-kept c = good_then

pub returns-clause-last : goal.returns-clause-last
returns-clause-last c = five_then

pub returns-clause-refused : goal.returns-clause-refused
returns-clause-refused c = dropped_then

pub returns-clause-departs : goal.returns-clause-departs
returns-clause-departs c h is served = not_by_model h is served
