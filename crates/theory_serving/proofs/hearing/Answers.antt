-- Servers hear outputs one by one: bytes join those that wait, as appending is associative (`hears_bytes`); any other output adds none
-- (`hears_nothing`, `hears_other`), and of one that ends the connection only the history counts (`hears_end`).
use Rattle.theory_serving.proofs.Heard.{hears_nothing, hears_bytes, hears_other, hears_end}
use Rattle.theory_serving.proofs.hearing.Goals as goal

pub returns-clause-nothing : goal.returns-clause-nothing
returns-clause-nothing c = hears_nothing

pub returns-clause-bytes : goal.returns-clause-bytes
returns-clause-bytes c = hears_bytes

pub returns-clause-other : goal.returns-clause-other
returns-clause-other c = hears_other

pub returns-clause-end : goal.returns-clause-end
returns-clause-end c = hears_end
