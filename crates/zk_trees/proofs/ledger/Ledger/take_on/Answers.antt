-- A settled subject leaves all as it is (`settled`); any other joins (`ok_taken`), and is in the index that has it added.
use Rattle.std.proofs.Common.{◌≡◌, ◌∙◌, List, ap, sym}
use Rattle.std.specs.Prelude.{⊤}
use Rattle.zk_client.specs.Clients.{view_of}
use Rattle.zk_trees.specs.declared.member.Member.{Member}
use Rattle.zk_trees.proofs.Tending.{ok_so, ok_taken, settled}
use Rattle.zk_trees.specs.Tending.{bed_of}
use Rattle.zk_trees.specs.inner.Tending.{footing_of}
use Rattle.zk_trees.specs.Trees.{aim_of, is_settled}
use Rattle.zk_trees.proofs.ledger.Ledger.take_on.Goals as goal

pub returns-then-is_settled-clause-takes : goal.returns-then-is_settled-clause-takes
returns-then-is_settled-clause-takes g c =
    let members = c.args.tree.now.members.items in
    let view = view_of c.args.follower.now.client in
    let aim = aim_of c.args.subject.now in
    let is : c.is_settled.result ≡ is_settled view aim members =
    c.is_settled.ensures ∙ ap (λ v. is_settled v aim c.as_slice.result.now) c.client.ensures
    ∙ ap (λ (ms : List (Member g.row.A.Denot ⊤)). is_settled view aim ms) c.as_slice.ensures.value in
    settled (is_settled view aim members) aim (bed_of (footing_of c.args.follower.now c.args.self.now) c.args.tree.now)
    (sym is ∙ c.if-is_settled.true)

pub returns-clause-takes : goal.returns-clause-takes
returns-clause-takes g c =
    let members = c.args.tree.now.members.items in
    let view = view_of c.args.follower.now.client in
    let aim = aim_of c.args.subject.now in
    let is : c.is_settled.result ≡ is_settled view aim members =
    c.is_settled.ensures ∙ ap (λ v. is_settled v aim c.as_slice.result.now) c.client.ensures
    ∙ ap (λ (ms : List (Member g.row.A.Denot ⊤)). is_settled view aim ms) c.as_slice.ensures.value in
    ok_taken c.join.result (is_settled view aim members) aim (bed_of (footing_of c.args.follower.now c.args.self.now) c.args.tree.now)
    (bed_of (footing_of c.join.new.follower c.join.new.self) c.join.new.tree) c.in_ok-ticket.ticket
    (footing_of c.args.follower.now c.take.new.self) (sym is ∙ c.if-is_settled.false) c.in_ok-ticket.ensures.ticket
    (ap (footing_of c.args.follower.now) c.in_ok-ticket.ensures.next) c.join.ensures.joins

pub returns-clause-index : goal.returns-clause-index
returns-clause-index g c =
    ok_so c.join.result (λ one. c.in_ok-add_member.ensures c.args.tree.now.members.items c.join.new.tree.members.items one.0 one.1 one.2
    c.requires) c.join.ensures.member
