-- An answer stands exactly where a reply said it and nothing since concerns it: by induction over the past (`marked`, `stands_marked`).
use Rattle.theory_pieces.proofs.standing_answers.Goals as goal
use Rattle.zk_turns.specs.Past.{word_data, word_child}
use Rattle.zk_turns.proofs.Marks.{marked, stands_marked}

pub returns-clause-nodes : goal.returns-clause-nodes
returns-clause-nodes c = λ path past answer. (marked (word_data path) past answer, stands_marked (word_data path) past answer)

pub returns-clause-children : goal.returns-clause-children
returns-clause-children c = λ path past names. (marked (word_child path) past names, stands_marked (word_child path) past names)
