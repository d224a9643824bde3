-- The loop over what is watched: those before the index are changed, and the rest are as they were. At the end all are changed.
use Rattle.std.proofs.Common.{◌≡◌, ◌++◌, drop, map, take}
use Rattle.shell_watch.specs.Trees.{leaving}
use Rattle.shell_watch.proofs.joining.let_each_go.Given as goal

-- those before are changed, and those after it are as they were
abbrev pub invariant-loop-one : goal.invariant-loop-one
invariant-loop-one g l = l.watched ≡ map (leaving l.ticket) (take l.one-index l.fn.watched) ++ drop l.one-index l.fn.watched
