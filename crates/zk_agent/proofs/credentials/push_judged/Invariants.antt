-- The loop of `push_judged`: told is what was told before, then the answers before the index; at the slice's end these are all.
use Rattle.std.proofs.Common.{◌≡◌, ◌++◌, map, take}
use Rattle.zk_agent.specs.Telling.{judged_told, told_by}
use Rattle.zk_agent.proofs.credentials.push_judged.Given as goal

-- those so far were told
abbrev pub invariant-loop-one : goal.invariant-loop-one
invariant-loop-one g l = told_by l.actions.items ≡ told_by l.fn.actions.items ++ map judged_told (take l.one-index l.judged)
