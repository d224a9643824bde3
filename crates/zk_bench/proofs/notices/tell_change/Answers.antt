-- By the change: a node that is made or deleted fires at its path and then at its parent, by `moved_fires`, `moved_left` and
-- `tells_both`; of the root nothing is told, by `moved_none`. The watches that new data leave are those of `left_set`.
use Rattle.std.proofs.Common.{sym, refl, ap, subst, ◌∙◌, ◌≡◌, inl, inr, List}
use Rattle.std.specs.Option.{option_map}
use Rattle.zk_nodes.specs.Path.{path_of}
use Rattle.zk_nodes.specs.History.{Creates, Deletes}
use Rattle.zk_history.specs.Made.{change_of}
use Rattle.zk_records.specs.declared.event.Event.TheVariants.{ChildrenChanged, DataChanged}
use Rattle.zk_laws.specs.Server.{Notice, leaves_set}
use Rattle.zk_bench.specs.inner.Serving.{watched, Tells, fires_at, leaves_at}
use Rattle.zk_bench.proofs.Watched.{IsMove, moved_fires, moved_left, moved_none, tells_both, tells_nothing, left_set}
use Rattle.zk_bench.proofs.notices.tell_change.Goals as goal
use Rattle.zk_bench.proofs.notices.tell_change.Goals.{After-parent, in-Create, in-Delete}

-- which change it is, of one that makes or deletes a node
moves : (g : _) (c : After-parent g) → IsMove c.match-change.event.0 (path_of c.match-change.event.1.now) (change_of c.args.change.now)
moves g c = elim c.match-change.branch [
  | in-Create w ↦ inl (
    ap (λ e. e.0) w.event-is,
    option_map (λ v. v.items) w.in-Create.field-1,
    w.in-Create.field-2,
    ap change_of w.in-Create.is
        ∙ ap (λ e. Creates (path_of e.1.now) (option_map (λ v. v.items) w.in-Create.field-1) w.in-Create.field-2) (sym w.event-is),
  )
  | in-Delete w ↦ inr (ap (λ e. e.0) w.event-is, ap change_of w.in-Delete.is ∙ ap (λ e. Deletes (path_of e.1.now)) (sym w.event-is))
]

pub returns-in_default-clause-tells : goal.returns-in_default-clause-tells
returns-in_default-clause-tells g c =
    let none = moved_none c.match-change.event.0 (path_of c.match-change.event.1.now) (change_of c.args.change.now)
    (watched c.args.connection.now.watches) (moves g (goal.at.returns-in_default-clause-tells g c).After-parent)
    (sym c.in_default.ensures.names) in
    subst (λ (f : List Notice). Tells f c.args.connection.now.output.items c.args.connection.now.output.items) (sym none.0)
    (tells_nothing c.args.connection.now.output.items c.args.connection.now.output.items refl)

pub returns-in-Set-clause-left : goal.returns-in-Set-clause-left
returns-in-Set-clause-left g c =
    c.send_event.ensures.left ∙ ap (λ t. leaves_at DataChanged (path_of t) (watched c.args.connection.now.watches)) c.as_str.ensures.text
    ∙ left_set (path_of c.in-Set.path) (option_map (λ v. v.items) c.in-Set.field-1) (watched c.args.connection.now.watches)
    ∙ ap (λ ch. leaves_set (change_of ch) (watched c.args.connection.now.watches)) (sym c.in-Set.is)

left_on : (g : _) (c : goal.In_ok-send_event-2 g) → watched c.send_event-2.new.connection.watches
    ≡ leaves_at c.match-change.event.0 (path_of c.match-change.event.1.now) (watched c.args.connection.now.watches)
left_on g c = c.send_event-2.ensures.left
    ∙ ap (λ t. leaves_at c.match-change.event.0 (path_of t) (watched c.args.connection.now.watches)) c.as_str-2.ensures.text

pub returns-clause-left : goal.returns-clause-left
returns-clause-left g c =
    c.send_event-3.ensures.left ∙ ap (leaves_at ChildrenChanged (path_of c.in-Some.parent.now)) (left_on g c)
    ∙ moved_left c.match-change.event.0 (path_of c.match-change.event.1.now) (path_of c.in-Some.parent.now) (change_of c.args.change.now)
    (watched c.args.connection.now.watches) (moves g (goal.at.returns-clause-left g c).After-parent) (sym c.in-Some.ensures.names)

pub returns-clause-tells : goal.returns-clause-tells
returns-clause-tells g c =
    let event = c.match-change.event.0 in
    let at = path_of c.match-change.event.1.now in
    let above = path_of c.in-Some.parent.now in
    let w = watched c.args.connection.now.watches in
    let old = c.args.connection.now.output.items in
    let mid = c.send_event-2.new.connection.output.items in
    let new = c.send_event-3.new.connection.output.items in
    let first : Tells (fires_at event at w) old mid =
    subst (λ t. Tells (fires_at event (path_of t) w) old mid) c.as_str-2.ensures.text c.in_ok-send_event.ensures.tells in
    let second : Tells (fires_at ChildrenChanged above (leaves_at event at w)) mid new =
    subst (λ v. Tells (fires_at ChildrenChanged above v) mid new) (left_on g c) c.in_ok-send_event-2.ensures.tells in
    subst (λ (f : List Notice). Tells f old new) (moved_fires event at above (change_of c.args.change.now) w
    (moves g (goal.at.returns-clause-tells g c).After-parent) (sym c.in-Some.ensures.names))
    (tells_both (fires_at event at w) (fires_at ChildrenChanged above (leaves_at event at w)) old mid new first second)
