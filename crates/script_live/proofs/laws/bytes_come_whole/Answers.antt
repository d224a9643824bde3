-- The law that a client is handed a beginning of what its stream had to give is the lemma `come_whole` of `Flowed`.
use Rattle.script_live.proofs.Flowed.{come_whole}
use Rattle.script_live.proofs.laws.bytes_come_whole.Goals as goal

pub returns : goal.returns
returns c = come_whole
