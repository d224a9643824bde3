-- If none is gone all stay (`lets_none`). Else `drop_gone` leaves those that stay, in order still (`order_kept`), and each ticket of those
-- gone is let go (`ok_lets`, of what `leave_all` ensures).
use Rattle.std.proofs.Common.{◌≡◌, ◌∙◌, List, ap, arith, length, subst, sym}
use Rattle.std.proofs.lemmas.Bool.Decides.{nat_tests}
use Rattle.std.specs.Prelude.{⊤}
use Rattle.std.specs.List.{filter}
use Rattle.zk_client.specs.Clients.{view_of}
use Rattle.zk_trees.specs.Tending.{bed_of}
use Rattle.zk_trees.specs.Trees.{stays, tickets_gone}
use Rattle.zk_trees.specs.inner.Tending.{footing_of}
use Rattle.zk_trees.specs.declared.member.Member.{Member}
use Rattle.zk_trees.specs.Orders.{AreInOrder}
use Rattle.zk_trees.proofs.Searching.{order_kept}
use Rattle.zk_trees.proofs.Tending.{lets_none, ok_lets}
use Rattle.zk_trees.proofs.ledger.Ledger.let_go.Goals as goal

pub returns-then-is_empty-clause-lets : goal.returns-then-is_empty-clause-lets
returns-then-is_empty-clause-lets g c =
    let tree = c.args.tree.now in
    let view = view_of c.args.follower.now.client in
    let all : c.in_ok-tickets.tickets.items ≡ tickets_gone view tree.members.items =
    c.in_ok-tickets.ensures ∙ ap (λ v. tickets_gone v c.as_slice.result.now) c.client.ensures
    ∙ ap (λ ws. tickets_gone view ws) c.as_slice.ensures.value in
    let none : length c.in_ok-tickets.tickets.items ≡ 0 = grind (arith, nat_tests, c.is_empty.ensures, c.if-is_empty.true) in
    lets_none (bed_of (footing_of c.args.follower.now c.args.self.now) tree) c.in_ok-tickets.tickets.items all none

pub invariant_of-tree : goal.invariant_of-tree
invariant_of-tree g c = record {
  in_order = λ rise. subst (λ (ms : List (Member g.row.A.Denot ⊤)). AreInOrder ms) (sym c.drop_gone.ensures)
      (order_kept (stays (view_of c.client-2.result.now)) c.args.tree.now.members.items (c.args.tree.now.in_order rise));
}

pub returns-clause-lets : goal.returns-clause-lets
returns-clause-lets g c =
    let tree = c.args.tree.now in
    let view = view_of c.args.follower.now.client in
    let are : c.drop_gone.new.members.items ≡ filter (stays view) tree.members.items =
    rw c.client-2.ensures at c.drop_gone.ensures in
    let all : c.as_slice-2.result.now ≡ tickets_gone view tree.members.items =
    c.as_slice-2.ensures.value ∙ c.in_ok-tickets.ensures ∙ ap (λ v. tickets_gone v c.as_slice.result.now) c.client.ensures
    ∙ ap (λ ws. tickets_gone view ws) c.as_slice.ensures.value in
    ok_lets c.leave_all.result (bed_of (footing_of c.args.follower.now c.args.self.now) tree)
    (footing_of c.leave_all.new.follower c.leave_all.new.self) c.drop_gone.new.members.items c.as_slice-2.result.now are all
    c.leave_all.ensures.leaves
