-- What one more action says is noted (`fold` over one more); at the end all are (`take_all`).
use Rattle.std.proofs.Common.{◌≤◌, ◌∷◌, ◌++◌, ◌∙◌, [], List, ap, arith, length, sym, take}
use Rattle.std.proofs.lemmas.List.{take_all, take_more}
use Rattle.std.proofs.lemmas.List.Sums.{fold-append}
use Rattle.zk_agent.specs.Trees.{noted_by, noted_in}
use Rattle.zk_agent.specs.declared.action.Action.{Action}
use Rattle.zk_agent.proofs.growing.note_all.Goals as goal

pub loop-action-preserved : goal.loop-action-preserved
loop-action-preserved g c =
    let said = c.args.said.now in
    let index = c.loop-action.action-index in
    let first = c.args.trees.now.all.items in
    record {
      all = c.note.ensures.all ∙ ap (λ l. noted_in l c.action-item.result) c.loop-action.invariant.all
          ∙ sym (fold-append noted_in first (take index said) (c.action-item.result ∷ []))
          ∙ ap (λ l. noted_by l first) (sym (take_more said index c.action-item.result c.loop-action-test.true
          ∙ ap (λ a. take index said ++ a ∷ []) (sym c.action-item.is)));
      next = c.note.ensures.next ∙ c.loop-action.invariant.next;
      due = c.note.ensures.due ∙ c.loop-action.invariant.due;
    }

pub returns-clause-all : goal.returns-clause-all
returns-clause-all g c =
    let said = c.args.said.now in
    let past : length said ≤ c.loop-action.action-index = omega (arith, c.loop-action-test.false) in
    c.loop-action.invariant.all
    ∙ ap (λ (l : List (Action g.row.A.Denot)). noted_by l c.args.trees.now.all.items) (take_all c.loop-action.action-index said past)
