-- The path of a node that is made is noted, by `noted_as`. The owner's number fits, so it stays itself.
use Rattle.std.proofs.Common.{rules, w64}
use Rattle.std.proofs.lemmas.Int.{to_z-of_z}
use Rattle.std.proofs.lemmas.Result.{on_ok_weaker}
use Rattle.zk_log_history.proofs.Sessions.{noted_as}
use Rattle.zk_log_history.proofs.made.note.Goals as goal

pub returns-in-Create : goal.returns-in-Create
returns-in-Create g c =
    on_ok_weaker c.note_path.result
    (λ noted. noted_as c.args.made.now c.note_path.new.made c.args.change.now _ _ c.in-Create.owner _ c.in-Create.is
    (to_z-of_z w64 c.in-Create.owner (search rules)) noted)
    c.note_path.ensures
