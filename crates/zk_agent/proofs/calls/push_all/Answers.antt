-- Ahead of what the client says the line hears which answer is too long: `heard_ahead` and `told_ahead`.
use Rattle.zk_client.specs.Views.{said}
use Rattle.zk_agent.specs.Telling.{told_by}
use Rattle.zk_agent.proofs.Oversized.{heard_ahead, told_ahead}
use Rattle.zk_agent.proofs.Saying.{on_ok}
use Rattle.zk_agent.proofs.calls.push_all.Goals as goal

pub returns-clause-line : goal.returns-clause-line
returns-clause-line g c =
    on_ok _ _ c.push_outputs.result (heard_ahead c.args.line.now.entries.items c.push_too_long.new.line.entries.items
    c.push_outputs.new.line.entries.items (said c.args.outputs.items) c.args.too_long c.requires c.in_ok-push_too_long.ensures.line)
    c.push_outputs.ensures.line

pub returns-clause-told : goal.returns-clause-told
returns-clause-told g c =
    on_ok _ _ c.push_outputs.result (told_ahead c.args.line.now.entries.items c.push_too_long.new.line.entries.items
    c.push_outputs.new.line.entries.items (said c.args.outputs.items) c.args.too_long (told_by c.args.actions.now.items)
    (told_by c.push_too_long.new.actions.items) (told_by c.push_outputs.new.actions.items) c.requires
    c.in_ok-push_too_long.ensures.line c.in_ok-push_too_long.ensures.told)
    c.push_outputs.ensures.told
