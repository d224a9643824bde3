-- The loop over the calls: what is told is of those so far that have ended, so at its end it is of all.
use Rattle.std.proofs.Common.{◌≡◌, map, take}
use Rattle.zk_calls.specs.Lines.{ended, ended_of}
use Rattle.zk_calls.proofs.ending.told_of.Given as goal

-- those so far are told
abbrev pub invariant-loop-place : goal.invariant-loop-place
invariant-loop-place g l = l.told.items ≡ map ended_of (ended l.ending (take l.place l.entries.items))
