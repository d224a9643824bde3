-- What is left of the parts makes of what is known so far what all of them make.
use Rattle.std.proofs.Common.{◌≡◌, drop, map}
use Rattle.zk_nodes.specs.Path.{path_of}
use Rattle.zk_log.specs.Views.{part_of, entry_of}
use Rattle.zk_log_history.specs.Known.{all_told, part_told, known_of}
use Rattle.zk_log_history.proofs.path_entry.with_parts.Given as goal

abbrev pub invariant-loop-part : goal.invariant-loop-part
invariant-loop-part g l =
    all_told (part_told (path_of l.path) (entry_of l.entry)) (map part_of (drop l.part-index l.parts)) (known_of l.known)
    ≡ all_told (part_told (path_of l.path) (entry_of l.entry)) (map part_of l.parts) (known_of l.fn.before)
