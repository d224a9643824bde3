-- Bytes that leave a frame unfinished are held, by induction over the piece: what begins something unfinished is unfinished too.
use Rattle.theory_pieces.proofs.unfinished_piece.Goals as goal
use Rattle.zk_turns.proofs.Pieces.{unfinished_view, unfinished_says}

pub returns-clause-view : goal.returns-clause-view
returns-clause-view c = unfinished_view

pub returns-clause-says : goal.returns-clause-says
returns-clause-says c = unfinished_says
