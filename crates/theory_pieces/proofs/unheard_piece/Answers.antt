-- Without an open connection no byte makes anything happen: `unheard_view` and `unheard_says`, by induction over the piece.
use Rattle.theory_pieces.proofs.unheard_piece.Goals as goal
use Rattle.zk_turns.proofs.Pieces.{unheard_view, unheard_says}

pub returns-clause-view : goal.returns-clause-view
returns-clause-view c = unheard_view

pub returns-clause-says : goal.returns-clause-says
returns-clause-says c = unheard_says
