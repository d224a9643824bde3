-- The loop over the names: after it none is left, so the tokens of all are written after the old ones.
use Rattle.std.proofs.Common.{◌≡◌, ◌++◌, drop, map}
use Rattle.json.specs.Token as json
use Rattle.shell_watch.proofs.kept_object.put_each.Given as goal

-- the names that are written, and those that are left, are all
abbrev pub invariant-loop-index : goal.invariant-loop-index
invariant-loop-index g l =
    (l.writer.before ≡ l.initial.writer.before)
    × (l.writer.tokens ++ map json.string (drop l.index l.names) ≡ l.initial.writer.tokens ++ map json.string l.names)
