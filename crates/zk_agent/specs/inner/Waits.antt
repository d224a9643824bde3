-- What contracts of private functions say: nobody has to believe it.
use Rattle.std.specs.Prelude.{◌-◌, ◌/◌, ◌%◌, ◌^◌, if◌then◌else◌, ℕ, Option, Some, None}
use Rattle.zk_agent.specs.declared.frames.Frames.{Frames}
use Rattle.zk_agent.specs.Waits.{answered_by, is_of_call, is_of_ping, is_whole, Waited}

-- after the length and the xid of a frame, of which this is the number
abbrev pub begun : (head : ℕ) → Frames
begun head = record { held = 8; head = head; left = head / 2 ^ 32 - 4 }

-- The next frame begins if one has come whole.
abbrev pub passed_end : Frames → Frames
passed_end at = if is_whole at then record at { held = 0 } else at

-- the xid of the frame that has
abbrev pub xid_at_end : Frames → Option ℕ
xid_at_end at = if is_whole at then Some (at.head % 2 ^ 32) else None

-- with the length and the xid of a frame that come
abbrev pub heard_head : (head : ℕ) → Waited → Waited
heard_head head waited = record {
  came = passed_end (begun head);
  calls = answered_by is_of_call (xid_at_end (begun head)) waited.calls;
  pings = answered_by is_of_ping (xid_at_end (begun head)) waited.pings;
}
