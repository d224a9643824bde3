-- A tree is followed by the next ticket: `ok_plants`, of what the driver's `follow_tree` ensures of a copy of the root.
use Rattle.std.proofs.Common.{None, subst}
use Rattle.std.specs.Prelude.{OnOk}
use Rattle.zk_nodes.specs.Path.{Text}
use Rattle.zk_agent.specs.declared.input.AgentInput.TheVariants as happens
use Rattle.zk_driver.specs.Driving.{course_of, Hands}
use Rattle.shell_watch.proofs.Printing.{ok_plants}
use Rattle.shell_watch.proofs.watcher.Watcher.plant.Goals as goal

pub returns : goal.returns
returns g c =
    let old = c.args.self.now in
    let root = c.args.root.now in
    let first = old.driver.engine in
    let last = c.follow_tree.new.self.engine in
    ok_plants g.D.Stream.Read.remaining g.D.Stream.Write.contents g.D.Stream.Stream.far g.D.Stream.Stream.state
    c.follow_tree.result root first last old.watched.items old.is_accepted old.style old.growth c.take_ticket.new.self
    c.in-Some.ensures.next
    (subst (λ t. OnOk c.follow_tree.result (Hands (happens.FollowTree t root old.growth.most) (course_of first None) (course_of last None)))
    c.in-Some.ensures.ticket
    (subst (λ (p : Text). OnOk c.follow_tree.result (Hands (happens.FollowTree c.in-Some.ticket p old.growth.most) (course_of first None)
    (course_of last None))) c.in-Ok.ensures c.follow_tree.ensures.hands))
    c.follow_tree.ensures.flows
