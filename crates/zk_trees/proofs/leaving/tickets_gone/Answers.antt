-- A member that is gone moves its ticket from what is left to what was found (`gone_more`); one that stays has none there (`gone_less`).
use Rattle.std.proofs.Common.{◌++◌, ◌+◌, ◌∙◌, drop, sym, ap}
use Rattle.zk_client.specs.Clients.{view_of}
use Rattle.zk_trees.specs.Trees.{tickets_gone}
use Rattle.zk_trees.proofs.Going.{gone_more, gone_less}
use Rattle.zk_trees.proofs.leaving.tickets_gone.Goals as goal
use Rattle.zk_trees.proofs.leaving.tickets_gone.Goals.{then-is_gone+in_ok-push, else-is_gone}

pub loop-one-preserved : goal.loop-one-preserved
loop-one-preserved g c =
    let view = view_of c.args.client.now in
    let members = c.args.members.now in
    let index = c.loop-one.one-index in
    let left = tickets_gone view (drop (index + 1) members) in
    elim c.if-is_gone.branch [
      | then-is_gone+in_ok-push w ↦
          ap (λ v. v.items ++ left) w.tickets-is ∙ ap (λ l. l ++ left) w.in_ok-push.ensures.items
          ∙ gone_more view members index c.one-item.result c.loop-one-test.true c.one-item.is c.loop-one.tickets.items
          (tickets_gone view members)
          (sym c.is_gone.ensures ∙ w.if-is_gone.true) c.loop-one.invariant
      | else-is_gone w ↦
          ap (λ v. v.items ++ left) w.tickets-is
          ∙ gone_less view members index c.one-item.result c.loop-one-test.true c.one-item.is c.loop-one.tickets.items
          (tickets_gone view members)
          (sym c.is_gone.ensures ∙ w.if-is_gone.false) c.loop-one.invariant
    ]
