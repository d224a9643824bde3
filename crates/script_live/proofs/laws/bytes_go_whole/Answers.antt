-- The law that a stream takes a beginning of what its client sent is the lemma `go_whole` of `Flowed`.
use Rattle.script_live.proofs.Flowed.{go_whole}
use Rattle.script_live.proofs.laws.bytes_go_whole.Goals as goal

pub returns : goal.returns
returns c = go_whole
