-- Where no answer is too long nothing is told.
use Rattle.std.proofs.Common.{◌++◌, append-nil, ap, sym, ◌∙◌}
use Rattle.zk_agent.specs.Calls.{tells_all}
use Rattle.zk_agent.specs.Overlong.{answer_of}
use Rattle.zk_agent.specs.Telling.{told_by}
use Rattle.zk_agent.proofs.calls.push_too_long.Goals as goal

pub returns-in-None-clause-told : goal.returns-in-None-clause-told
returns-in-None-clause-told g c =
    let told = told_by c.args.actions.now.items in
    let line = c.args.line.now.entries.items in
    sym (append-nil told) ∙ ap (λ found. told ++ tells_all line (answer_of line found)) (sym c.in-None.is)
