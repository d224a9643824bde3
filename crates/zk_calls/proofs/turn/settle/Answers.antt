-- By whether the call goes back: it waits again in its place and nobody is told (`goes_back_there` and `not_told`), or it is taken out and
-- its asker is told (`settled_there` and `told`).
use Rattle.std.proofs.Common.{◌∙◌, sym}
use Rattle.zk_client.specs.Views.{outcome_view}
use Rattle.zk_calls.proofs.Answering.{goes_back_there, not_told, settled_there, told}
use Rattle.zk_calls.proofs.turn.settle.Goals as goal

pub returns-then-goes_back-clause-entries : goal.returns-then-goes_back-clause-entries
returns-then-goes_back-clause-entries g c =
    goes_back_there c.args.ticket (outcome_view c.args.outcome) c.args.entries.now.items c.args.place c.requires.place
    c.index_mut.result.now c.index.result.now c.index_mut.ensures.value c.index.ensures
    (sym c.goes_back.ensures ∙ c.if-goes_back.true)

pub returns-then-goes_back-clause-told : goal.returns-then-goes_back-clause-told
returns-then-goes_back-clause-told g c =
    not_told c.args.ticket (outcome_view c.args.outcome) c.args.entries.now.items c.args.place c.requires.place c.index.result.now
    c.index.ensures (sym c.goes_back.ensures ∙ c.if-goes_back.true)

pub returns-clause-entries : goal.returns-clause-entries
returns-clause-entries g c =
    c.take_out.ensures.items
    ∙ settled_there c.args.ticket (outcome_view c.args.outcome) c.args.entries.now.items c.args.place c.requires.place c.index.result.now
    c.index.ensures (sym c.goes_back.ensures ∙ c.if-goes_back.false)

pub returns-clause-told : goal.returns-clause-told
returns-clause-told g c =
    told c.args.ticket (outcome_view c.args.outcome) c.args.entries.now.items c.args.place c.requires.place c.index.result.now
    c.index.ensures (sym c.goes_back.ensures ∙ c.if-goes_back.false)
