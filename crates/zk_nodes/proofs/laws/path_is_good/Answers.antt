-- A text without fault passes each test of `fault_of`: `IsPath-absolute` for the slash, `IsPath-parts` for the length, `IsPath-names` for
-- the names.
use Rattle.zk_nodes.proofs.PathLemmas.{IsPath-parts, IsPath-absolute, IsPath-names}
use Rattle.zk_nodes.proofs.laws.path_is_good.Goals as goal

pub returns : goal.returns
returns c = λ text e. (IsPath-absolute text e, (IsPath-parts text e).1, IsPath-names text e)
