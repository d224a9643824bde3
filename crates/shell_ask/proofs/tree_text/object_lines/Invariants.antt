-- The loop over the paths, an object of JSON for each: after it no path is left, so the lines that are written are those of all.
use Rattle.std.proofs.Common.{◌≡◌, ◌++◌, codes, drop}
use Rattle.std.specs.List.{flat_map}
use Rattle.shell_ask.specs.Printing.{text_line}
use Rattle.shell_ask.proofs.tree_text.object_lines.Given as goal

-- the lines that are written, and those of the paths that are left, are all
abbrev pub invariant-loop-path : goal.invariant-loop-path
invariant-loop-path g l =
    l.lines.items ++ flat_map (text_line (codes "path")) (drop l.path-index l.paths) ≡ flat_map (text_line (codes "path")) l.paths
