-- The piece is split where the first frame ends: there the payload arrives, and then the rest comes (`frame_view`, `frame_says`).
use Rattle.theory_pieces.proofs.whole_payload.Goals as goal
use Rattle.zk_turns.proofs.Pieces.{frame_view, frame_says}

pub returns-clause-view : goal.returns-clause-view
returns-clause-view c = frame_view

pub returns-clause-says : goal.returns-clause-says
returns-clause-says c = frame_says
