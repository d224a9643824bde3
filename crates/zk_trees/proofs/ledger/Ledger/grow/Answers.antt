-- What is wanted, what is taken on of it, and what is told of bound and whole tree, put together by `ok_grows`; the view is the client's.
use Rattle.std.proofs.Common.{List, [], ◌∷◌, subst}
use Rattle.zk_turns.specs.View.{View}
use Rattle.zk_client.specs.Clients.{view_of}
use Rattle.zk_trees.specs.Tending.{bed_of, TakesAllOn}
use Rattle.zk_trees.specs.inner.Tending.{footing_of}
use Rattle.zk_trees.specs.Trees.{aims_of, wants_of, AreWanted}
use Rattle.zk_trees.specs.declared.subject.NodeSide.{NodeSide}
use Rattle.zk_trees.proofs.Tending.{ok_grows}
use Rattle.zk_trees.proofs.ledger.Ledger.grow.Goals as goal

pub returns-clause-grows : goal.returns-clause-grows
returns-clause-grows g c =
    let tree = c.args.tree.now in
    let wanted = c.in_ok-wanted.wanted in
    let first = bed_of (footing_of c.args.follower.now c.args.self.now) tree in
    let last = bed_of (footing_of c.take_all_on.new.follower c.take_all_on.new.self) c.take_all_on.new.tree in
    let noted = bed_of (footing_of c.take_all_on.new.follower c.note_bound.new.self) c.note_bound.new.tree in
    let view = view_of c.take_all_on.new.follower.client in
    let subjects = c.take_all_on.new.follower.subjects.items in
    ok_grows c.tell_whole.result (wants_of wanted) c.lacks_nothing.result first last noted
    (bed_of (footing_of c.take_all_on.new.follower c.tell_whole.new.self) c.note_bound.new.tree)
    (subst (λ (v : View). AreWanted v tree.most (tree.root ∷ []) (wants_of wanted)) c.client.ensures c.in_ok-wanted.ensures)
    c.lacks_nothing.ensures
    (subst (λ (l : List (NodeSide g.row.A.Denot)). TakesAllOn (aims_of l) first last) c.as_slice.ensures.value
    c.in_ok-take_all_on.ensures.takes)
    (c.in_ok-note_bound.ensures.notes view subjects) (c.tell_whole.ensures.tells view subjects)
