-- The events of notices: their numbers, and what is watched of a node that each of them concerns.
use Rattle.std.specs.Prelude.{ℤ, pos, negsuc, Bool, true, false, Option, Some, None, ◌==◌, if◌then◌else◌}
use Rattle.zk_nodes.specs.declared.side.Side.{Side}
use Rattle.zk_nodes.specs.declared.side.Side.TheVariants.{Data, Child}
use Rattle.zk_records.specs.declared.event.Event.{Event}
use Rattle.zk_records.specs.declared.event.Event.TheVariants.{Created, Deleted, DataChanged, ChildrenChanged}

abbrev pub event_number : Event → ℤ
event_number Created = pos 1
event_number Deleted = pos 2
event_number DataChanged = pos 3
event_number ChildrenChanged = pos 4

abbrev pub event_of : ℤ → Option Event
event_of (pos n) =
    if n == 1 then Some Created
    else if n == 2 then Some Deleted
    else if n == 3 then Some DataChanged
    else if n == 4 then Some ChildrenChanged
    else None
event_of (negsuc n) = None

-- Whether the event uses up a watch on this side of its path. Data watches tell that a node was made, changed or deleted,
-- child watches that its children changed or that it was deleted.
abbrev pub concerns : Event → Side → Bool
concerns Created Data = true
concerns Deleted side = true
concerns DataChanged Data = true
concerns ChildrenChanged Child = true
concerns _ _ = false
