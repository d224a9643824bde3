-- The answer is the test of the bytes (`starts_text`).
use Rattle.std.proofs.lemmas.Str.Pattern.{starts_text}
use Rattle.zk_trees.proofs.trees.begins_with.Goals as goal

pub returns : goal.returns
returns c = starts_text c.starts_with.result c.args.beginning.now c.args.text.now c.starts_with.ensures.cases
