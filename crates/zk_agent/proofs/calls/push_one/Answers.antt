-- By whether the call is a read: it is answered (`heard_one`, `told_one`), or nothing is heard (`heard_none`, `told_none`).
use Rattle.zk_agent.specs.Telling.{told_by}
use Rattle.zk_agent.proofs.Oversized.{heard_none, heard_one, told_none, told_one}
use Rattle.zk_agent.proofs.Saying.{on_ok}
use Rattle.zk_agent.proofs.calls.push_one.Goals as goal

pub returns-then-is_asked_again-clause-line : goal.returns-then-is_asked_again-clause-line
returns-then-is_asked_again-clause-line g c =
    on_ok _ _ c.push_output.result (heard_one c.args.line.now.entries.items c.args.ticket c.is_asked_again.result c.is_asked_again.ensures
    c.push_output.new.line.entries.items c.if-is_asked_again.true)
    c.push_output.ensures.line

pub returns-then-is_asked_again-clause-told : goal.returns-then-is_asked_again-clause-told
returns-then-is_asked_again-clause-told g c =
    on_ok _ _ c.push_output.result (told_one c.args.line.now.entries.items c.args.ticket c.is_asked_again.result c.is_asked_again.ensures
    (told_by c.args.actions.now.items) (told_by c.push_output.new.actions.items) c.if-is_asked_again.true)
    c.push_output.ensures.told

pub returns-clause-line : goal.returns-clause-line
returns-clause-line g c =
    heard_none c.args.line.now.entries.items c.args.ticket c.is_asked_again.result c.is_asked_again.ensures c.if-is_asked_again.false

pub returns-clause-told : goal.returns-clause-told
returns-clause-told g c =
    told_none c.args.line.now.entries.items c.args.ticket c.is_asked_again.result c.is_asked_again.ensures
    (told_by c.args.actions.now.items) c.if-is_asked_again.false
