-- What is told is gone, and then what is owned: `ended`. The session's number fits, so it stays itself.
use Rattle.std.proofs.Common.{rules, w64, to_z, of_z}
use Rattle.std.proofs.lemmas.Int.{to_z-of_z}
use Rattle.zk_nodes.specs.Path.{path_of}
use Rattle.zk_log.specs.Views.{entry_of}
use Rattle.zk_log_history.specs.Known.{known_of}
use Rattle.zk_log_history.proofs.Known.{gives_ok, ended}
use Rattle.zk_log_history.proofs.path_entry.with_end.Goals as goal

pub returns-in-Ok : goal.returns-in-Ok
returns-in-Ok g c =
    ended (path_of c.args.path.now) (entry_of c.args.entry.now) c.args.paths.now (known_of c.args.known) (known_of c.in-Ok.known)
    (known_of c.left_by.result) (to_z w64 (of_z w64 c.args.entry.now.session)) (to_z-of_z w64 c.args.entry.now.session (search rules))
    (gives_ok c.with_all_gone.result _ c.in-Ok.known c.in-Ok.is c.with_all_gone.ensures) c.left_by.ensures
