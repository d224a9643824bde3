-- A later holder's token is no smaller (`later_tokens`, `later_standings`), so after it an earlier is taken only if equal: `fenced_from`.
use Rattle.zk_conclusions.proofs.Holding.{later_tokens}
use Rattle.zk_conclusions.proofs.Stands.{later_standings}
use Rattle.zk_fence.proofs.Fencing.{fenced_from}
use Rattle.zk_fence.proofs.laws.fenced.Goals as goal

pub returns-clause-holders : goal.returns-clause-holders
returns-clause-holders c h one other dir prefix path its token later seen sees rises at shows shown =
    fenced_from token later (later_tokens h one other dir prefix path its token later seen sees rises at shows shown)

pub returns-clause-standings : goal.returns-clause-standings
returns-clause-standings c h one other dir kind its path its_path token later m y at rival =
    fenced_from token later (later_standings h one other dir kind its path its_path token later m y at rival)
