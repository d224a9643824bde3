-- A client that has a connection is shown with one (`there_served`). What waits are the frames of the requests not yet processed: in front
-- stands nothing or the first of them (`waits_served`), and before it what was processed (`cut_served_at`).
use Rattle.theory_serving.proofs.Entries.{there_served, waits_served, cut_served_at}
use Rattle.theory_serving.proofs.what_waits.Goals as goal

pub returns-clause-there : goal.returns-clause-there
returns-clause-there c start items shown s going = there_served start items shown s going

pub returns-clause-first : goal.returns-clause-first
returns-clause-first c start items view shown s from timed stands going up =
    waits_served start items shown s view from timed stands going up

pub returns-clause-cut : goal.returns-clause-cut
returns-clause-cut c start items view shown s from stands going up = cut_served_at start items shown s view from stands going up
