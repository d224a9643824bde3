-- Marks by a look back: `data_marks`, `child_marks` and `data_agrees`, by induction over the past, by what each happening says of the path.
use Rattle.theory_pieces.proofs.good_marks.Goals as goal
use Rattle.zk_turns.proofs.Marks.{data_marks, child_marks, data_agrees}

pub returns-clause-nodes : goal.returns-clause-nodes
returns-clause-nodes c = data_marks

pub returns-clause-children : goal.returns-clause-children
returns-clause-children c = child_marks

pub returns-clause-answers : goal.returns-clause-answers
returns-clause-answers c = data_agrees
