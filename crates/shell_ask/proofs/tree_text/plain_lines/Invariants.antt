-- The loop over the paths, a plain line for each: after it no path is left, so the text is the lines of all.
use Rattle.std.proofs.Common.{◌≡◌, ◌++◌, drop}
use Rattle.std.specs.List.{flat_map}
use Rattle.std.specs.Prelude.{string_bytes}
use Rattle.shell_ask.specs.Printing.{name_line}
use Rattle.shell_ask.proofs.tree_text.plain_lines.Given as goal

-- what is written, and the lines of the paths that are left, are all
abbrev pub invariant-loop-path : goal.invariant-loop-path
invariant-loop-path g l = string_bytes l.text ++ flat_map name_line (drop l.path-index l.paths) ≡ flat_map name_line l.paths
