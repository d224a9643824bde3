-- A subject is followed by the next ticket and watched as the last: `ok_follows`, of what `fresh` and the driver's `follow` ensure.
use Rattle.std.proofs.Common.{◌≡◌, ◌++◌, [], ◌∷◌, rules, None, subst}
use Rattle.std.specs.Prelude.{OnOk}
use Rattle.zk_nodes.specs.Path.{Text}
use Rattle.zk_agent.specs.declared.input.AgentInput.TheVariants as happens
use Rattle.zk_driver.specs.Driving.{course_of, Hands}
use Rattle.shell_watch.specs.Trees.{fresh}
use Rattle.shell_watch.specs.Watching.{aim_of}
use Rattle.shell_watch.proofs.Printing.{ok_follows}
use Rattle.shell_watch.proofs.watcher.Watcher.follow.Goals as goal

pub returns : goal.returns
returns g c =
    let old = c.args.self.now in
    let first = old.driver.engine in
    let last = c.follow.new.self.engine in
    let olds = old.watched.items in
    let aim = aim_of c.args.subject.now in
    let more : c.push.new.self.items ≡ olds ++ fresh old.growth.ticket aim ∷ [] = search rules in
    ok_follows g.D.Stream.Read.remaining g.D.Stream.Write.contents g.D.Stream.Stream.far g.D.Stream.Stream.state
    c.follow.result aim first last olds c.push.new.self.items old.is_accepted old.style old.growth c.take_ticket.new.self
    more c.in-Some.ensures.next
    (subst (λ t. OnOk c.follow.result (Hands (happens.Follow t aim.0 aim.1) (course_of first None) (course_of last None)))
    c.in-Some.ensures.ticket
    (subst (λ (p : Text). OnOk c.follow.result (Hands (happens.Follow c.in-Some.ticket aim.0 p) (course_of first None)
    (course_of last None))) c.in-Ok-copy_of.ensures c.follow.ensures.hands))
    c.follow.ensures.flows
