-- The piece is split where a bad length ends: there the connection ends, and the rest is unheard (`bad_first_view`, `bad_first_says`).
use Rattle.theory_pieces.proofs.bad_length.Goals as goal
use Rattle.zk_turns.proofs.Pieces.{bad_first_view, bad_first_says}

pub returns-clause-view : goal.returns-clause-view
returns-clause-view c = bad_first_view

pub returns-clause-says : goal.returns-clause-says
returns-clause-says c = bad_first_says
