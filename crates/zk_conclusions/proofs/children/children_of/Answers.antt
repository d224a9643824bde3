-- One name more is one path more (`added_one`), and a name that makes no path is a fault of the names (`at_fault`).
use Rattle.std.proofs.Common.{◌≡◌, ◌≢◌, ◌++◌, ◌∷◌, ◌+◌, [], List, None, length, drop, sym, ap, ◌∙◌, subst, arith}
use Rattle.std.proofs.lemmas.List.{length-append}
use Rattle.zk_nodes.specs.Path.{Text, child_text}
use Rattle.zk_nodes.specs.PathFault.{child_fault}
use Rattle.zk_conclusions.specs.inner.Walks.{Added, HasFault, HasMore}
use Rattle.zk_conclusions.proofs.Keeping.{handed_on, at_fault, added_one}
use Rattle.zk_conclusions.proofs.Places.{is_there, rest_at}
use Rattle.zk_conclusions.proofs.children.children_of.Goals as goal

pub returns-in_default-clause-added : goal.returns-in_default-clause-added
returns-in_default-clause-added g c =
    absurd
    (is_there c.args.names.now.names c.loop-at.at (omega (arith, c.loop-at-test.true, c.len-at-end.ensures.len)) c.in_default.ensures)

pub returns-in_err-child-clause-refused : goal.returns-in_err-child-clause-refused
returns-in_err-child-clause-refused g c =
    let path = c.args.path.now in
    let all = c.args.names.now.names in
    let name = c.in-Some.name.now in
    let before = subst (λ names. Added path all names c.loop-at.children.items) (rest_at all c.loop-at.at name c.in-Some.ensures)
    c.loop-at.invariant.added in
    handed_on c.from_residual.result c.in_err-child.field-0.0 (child_fault path name ≢ None)
    ⊥ (HasFault path all) (HasMore path all c.args.room)
    c.from_residual.ensures.1 c.in_err-child.ensures.refused
    (at_fault path all name (drop (c.loop-at.at + 1) all) c.loop-at.children.items before) (λ z. absurd z)

pub loop-at-preserved : goal.loop-at-preserved
loop-at-preserved g c =
    let path = c.args.path.now in
    let all = c.args.names.now.names in
    let name = c.in-Some.name.now in
    let rest = drop (c.loop-at.at + 1) all in
    let before = subst (λ names. Added path all names c.loop-at.children.items) (rest_at all c.loop-at.at name c.in-Some.ensures)
    c.loop-at.invariant.added in
    let items : c.push.new.self.items ≡ c.loop-at.children.items ++ child_text path name ∷ [] =
    c.in_ok-push.ensures.items ∙ ap (λ (t : Text). c.loop-at.children.items ++ t ∷ []) c.in_ok-child.ensures.path in
    let more : length c.push.new.self.items ≡ length c.loop-at.children.items + 1 =
    ap length items ∙ length-append c.loop-at.children.items (child_text path name ∷ []) in
    record {
      added = subst (λ (xs : List Text). Added path all rest xs) (sym items)
          (added_one path all name rest c.loop-at.children.items before c.in_ok-child.ensures.fine);
      fits = omega (arith, more);
    }

pub returns-then-len-room-clause-refused : goal.returns-then-len-room-clause-refused
returns-then-len-room-clause-refused g c = record {
  name = c.in-Some.name.now;
  rest = drop (c.loop-at.at + 1) c.args.names.now.names;
  children = c.loop-at.children.items;
  added = subst (λ names. Added c.args.path.now c.args.names.now.names names c.loop-at.children.items)
      (rest_at c.args.names.now.names c.loop-at.at c.in-Some.name.now c.in-Some.ensures) c.loop-at.invariant.added;
  fine = c.in_ok-child.ensures.fine;
  more = omega (arith, c.len.ensures, c.if-len-room.true);
}
