-- Over a history that goes on a server holds at its place what it held, so each step is the same: by induction over the steps.
use Rattle.theory_serving.proofs.Later.{moves_later, ended_later, place_low}
use Rattle.theory_serving.proofs.steps_go_on.Goals as goal

pub returns-clause-moves : goal.returns-clause-moves
returns-clause-moves c h later xid asked steps server g low m = moves_later h later xid asked steps server g low m

pub returns-clause-ended : goal.returns-clause-ended
returns-clause-ended c h later xid asked steps server g low m = ended_later h later xid asked steps server g low m

pub returns-clause-place : goal.returns-clause-place
returns-clause-place c h xid asked steps server low m = place_low h xid asked steps server low m
