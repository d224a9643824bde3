-- Every call of the line ends, as at an expiry (`all_at_expiry`, `none_at_expiry`), and each asker is told so by `push_closed`.
use Rattle.std.proofs.Common.{◌++◌, map, ap, ◌∙◌}
use Rattle.zk_calls.specs.Lines.{ended_of}
use Rattle.zk_agent.specs.Telling.{closed_told, told_by}
use Rattle.zk_agent.proofs.Lines.{all_at_expiry, none_at_expiry}
use Rattle.zk_agent.proofs.Saying.{on_ok}
use Rattle.zk_agent.proofs.calls.close_calls.Goals as goal

pub returns-clause-line : goal.returns-clause-line
returns-clause-line g c = on_ok _ _ c.push_closed.result
    (λ told. c.in_ok-all.ensures.entries ∙ none_at_expiry c.args.line.now.entries.items) c.push_closed.ensures

pub returns-clause-told : goal.returns-clause-told
returns-clause-told g c =
    on_ok _ _ c.push_closed.result (λ told. told ∙ ap (λ all. told_by c.args.actions.now.items ++ map closed_told all)
    (c.as_slice.ensures.value ∙ c.in_ok-all.ensures.told ∙ ap (map ended_of) (all_at_expiry c.args.line.now.entries.items)))
    c.push_closed.ensures
