-- Loop over the lines: those so far say nothing, so those left decide as all do. With none left a fresh client is asked for.
use Rattle.std.proofs.Common.{◌≡◌, ◌+◌, drop, map}
use Rattle.script_live.specs.Begins.{begun_by, begun_from}
use Rattle.script_live.proofs.first_line.begin_of.Given as goal

-- the lines that are left decide
abbrev pub invariant-loop-index : goal.invariant-loop-index
invariant-loop-index g l = begun_by (map (λ p. p.now) l.lines) ≡ begun_from (l.index + 1) (map (λ p. p.now) (drop l.index l.lines))
