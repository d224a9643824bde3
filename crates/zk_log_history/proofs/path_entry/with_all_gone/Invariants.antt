-- What is left of the paths makes of what is known so far what all of them make.
use Rattle.std.proofs.Common.{◌≡◌, drop}
use Rattle.zk_nodes.specs.Path.{path_of}
use Rattle.zk_log_history.specs.Known.{all_told, gone_told, known_of}
use Rattle.zk_log_history.proofs.path_entry.with_all_gone.Given as goal

abbrev pub invariant-loop-gone : goal.invariant-loop-gone
invariant-loop-gone g l =
    all_told (gone_told (path_of l.path)) (drop l.gone-index l.paths) (known_of l.known)
    ≡ all_told (gone_told (path_of l.path)) l.paths (known_of l.fn.before)
