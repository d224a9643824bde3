-- A change that is added is noted: `AreMade-after`.
use Rattle.zk_history.specs.Made.{change_of}
use Rattle.zk_log_history.proofs.Sessions.{both_ok, AreMade-after}
use Rattle.zk_log_history.proofs.telling.add.Goals as goal

pub returns-in_ok-note-in-Some-clause-made : goal.returns-in_ok-note-in-Some-clause-made
returns-in_ok-note-in-Some-clause-made g c =
    both_ok c.add_change.result
    (λ added placed. AreMade-after c.args.made.now c.note.new.made c.args.history.now c.add_change.new.history (change_of c.in-Some.change)
    placed c.in_ok-note-in-Some.ensures added)
    c.add_change.ensures.added c.add_change.ensures.placed
