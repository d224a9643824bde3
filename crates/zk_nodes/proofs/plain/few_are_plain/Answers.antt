-- Where no bit is set for any of the 8 bytes, each of them may follow the one before it: `unset_are_plain`.
use Rattle.std.proofs.Common.{arith}
use Rattle.std.proofs.lemmas.Bool.{eqb-true}
use Rattle.zk_nodes.proofs.PlainLanes.{unset_are_plain}
use Rattle.zk_nodes.proofs.plain.few_are_plain.Goals as goal

pub returns : goal.returns
returns c = λ none. unset_are_plain c.args.text.now c.args.at 8 c.requires.before c.requires.room (omega arith) (eqb-true _ 0 none)
