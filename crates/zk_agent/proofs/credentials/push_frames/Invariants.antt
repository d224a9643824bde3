-- The loop of `push_frames`: told is what was told before, then the frames before the index; at the slice's end these are all.
use Rattle.std.proofs.Common.{◌≡◌, ◌++◌, map, take}
use Rattle.zk_agent.specs.Telling.{told_by, Introduces}
use Rattle.zk_agent.proofs.credentials.push_frames.Given as goal

-- those so far were told
abbrev pub invariant-loop-one : goal.invariant-loop-one
invariant-loop-one g l =
    told_by l.actions.items ≡ told_by l.fn.actions.items ++ map (λ c. Introduces c.frame.items) (take l.one-index l.all)
