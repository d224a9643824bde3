-- One more is told, the first of those that were left: `told_next`.
use Rattle.std.proofs.Common.{◌≡◌, ◌++◌, ◌∙◌, ap, length, map, sym}
use Rattle.std.proofs.lemmas.Bool.Decides.{Decides-eqb}
use Rattle.std.proofs.lemmas.List.{append-nil, nil_from_length}
use Rattle.zk_trees.specs.Tending.{trees_told}
use Rattle.zk_agent.specs.Telling.{told_by, TellsTree}
use Rattle.zk_agent.proofs.Grown.{told_next}
use Rattle.zk_agent.proofs.action.push_trees.Goals as goal

pub loop-one-preserved : goal.loop-one-preserved
loop-one-preserved g c =
    told_next (told_by c.loop-one.actions.items) (told_by c.push.new.actions.items) _ c.in-Some.one c.pop_front.new.self.items
    c.loop-one.left.items c.in-Some.ensures.items c.in_ok-push.ensures c.loop-one.invariant

pub returns-then-is_empty : goal.returns-then-is_empty
returns-then-is_empty g c =
    let none : length c.as_slice.result.now ≡ 0 =
    (Decides-eqb (length c.as_slice.result.now) 0).0 (sym c.is_empty.ensures ∙ c.if-is_empty.true) in
    let before = told_by c.args.actions.now.items in
    sym (append-nil before) ∙ ap (λ news. before ++ map TellsTree (trees_told news))
    (sym (sym c.as_slice.ensures.value ∙ nil_from_length c.as_slice.result.now none))
