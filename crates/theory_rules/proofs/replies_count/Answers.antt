-- A reply sets the last seen zxid to the later one of both (`later_moves`, `earlier_leaves`); by induction over what happens in a turn it
-- never falls (`turns_raise`) and is at least that of each reply told (`replies_seen`).
use Rattle.theory_rules.proofs.replies_count.Goals as goal
use Rattle.theory_rules.proofs.Seen.{later_moves, earlier_leaves, turns_raise, replies_seen}

pub returns-clause-moves : goal.returns-clause-moves
returns-clause-moves c = later_moves

pub returns-clause-leaves : goal.returns-clause-leaves
returns-clause-leaves c = earlier_leaves

pub returns-clause-rises : goal.returns-clause-rises
returns-clause-rises c = turns_raise

pub returns-clause-seen : goal.returns-clause-seen
returns-clause-seen c = replies_seen
