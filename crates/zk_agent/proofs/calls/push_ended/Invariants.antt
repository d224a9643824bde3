-- The loop of `push_ended`: told is what was told before, then the endings of the calls before the index; at the end these are all.
use Rattle.std.proofs.Common.{◌≡◌, ◌++◌, map, take}
use Rattle.zk_agent.specs.Telling.{ended_told, told_by}
use Rattle.zk_agent.proofs.calls.push_ended.Given as goal

-- those so far were told
abbrev pub invariant-loop-one : goal.invariant-loop-one
invariant-loop-one g l = told_by l.actions.items ≡ told_by l.fn.actions.items ++ map (ended_told l.ending) (take l.one-index l.all)
