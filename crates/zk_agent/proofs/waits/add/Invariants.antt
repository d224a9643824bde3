-- Of the loop that adds the moment to the line. At its end it was added as often as `count` says.
use Rattle.std.proofs.Common.{◌≡◌, ◌++◌, replicate}
use Rattle.zk_agent.proofs.waits.add.Given as goal

-- those so far were added
abbrev pub invariant-loop : goal.invariant-loop
invariant-loop g l = l.line.items ≡ l.fn.line.items ++ replicate l.counter l.now
