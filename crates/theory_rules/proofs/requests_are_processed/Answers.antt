-- By the case of the step: what it sends comes last, and each step except a transaction processes one request (`still_next`, `next_done`).
use Rattle.theory_rules.proofs.Leading.{comes_behind, still_next, next_done}
use Rattle.theory_rules.proofs.requests_are_processed.Goals as goal

pub returns-clause-comes_behind : goal.returns-clause-comes_behind
returns-clause-comes_behind c h entries step payloads = comes_behind h entries step payloads

pub returns-clause-still_next : goal.returns-clause-still_next
returns-clause-still_next c h start entries sent payloads = still_next h start entries sent payloads

pub returns-clause-next_done : goal.returns-clause-next_done
returns-clause-next_done c h start entries step payloads request others on e = next_done h start entries step payloads request others on e
