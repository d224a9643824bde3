-- What waits for the server's answer on a connection, and since when: by the frames that were sent and the bytes that came.
use Rattle.std.specs.Prelude.{◌+◌, ◌-◌, ◌*◌, ◌/◌, ◌%◌, ◌^◌, ◌==◌, ◌&&◌, ◌++◌, max, min, nat_lt, nat_le, ℕ, Bool, true, false, if◌then◌else◌}
use Rattle.std.specs.Prelude.{List, [], ◌∷◌, drop, fold, length, replicate, take, Option, Some, None}
use Rattle.std.specs.Int.{w64, from_be_bytes}
use Rattle.zk_session.specs.declared.states.State.{State}
use Rattle.zk_session.specs.declared.states.State.TheVariants.{Connecting, Connected}
use Rattle.zk_turns.specs.Turns.{Output, Send, Enters, Input, Bytes}
use Rattle.zk_follow.specs.Following.{first_of}
use Rattle.zk_agent.specs.declared.frames.Frames.{Frames}
use Rattle.zk_agent.specs.declared.sent.Sent.{Sent}
use Rattle.zk_agent.specs.declared.waits.Waits.{Waits}

-- ---- frames

-- A frame is of a call, or of the request that opens the session, if its xid is at least 0, and of a ping if it is -2: the four bytes
-- of an xid as a number. The others are parts of setWatches, and notices.
abbrev pub is_of_call : (xid : ℕ) → Bool
is_of_call xid = nat_lt xid (2 ^ 31)

abbrev pub is_of_ping : (xid : ℕ) → Bool
is_of_ping xid = xid == 4294967294

-- at the beginning of a stream
abbrev pub at_first : Frames
at_first = record { held = 0; head = 0; left = 0 }

-- with one byte more of the length and the xid of a frame
abbrev pub headed : (byte : ℕ) → Frames → Frames
headed byte at =
    record { held = at.held + 1; head = (at.head * 256 + byte) % 2 ^ 64; left = (at.head * 256 + byte) % 2 ^ 64 / 2 ^ 32 - 4 }

-- with one byte more of a stream
abbrev pub next_place : (byte : ℕ) → Frames → Frames
next_place byte at = if nat_lt at.held 8 then headed byte at else record at { left = at.left - 1 }

-- whether a frame has come whole
abbrev pub is_whole : Frames → Bool
is_whole at = (at.held == 8) && (at.left == 0)

-- after the byte with which it has, the next one begins
abbrev pub place_after : (byte : ℕ) → Frames → Frames
place_after byte at = if is_whole (next_place byte at) then record (next_place byte at) { held = 0 } else next_place byte at

-- the xid of the frame that ends with this byte
abbrev pub ends_with : (byte : ℕ) → Frames → Option ℕ
ends_with byte at = if is_whole (next_place byte at) then Some ((next_place byte at).head % 2 ^ 32) else None

-- the xid of a frame that is sent, if it is long enough to have one
abbrev pub xid_of : List ℕ → Option ℕ
xid_of bytes = if nat_le 8 (length bytes) then Some (from_be_bytes w64 (take 8 bytes) % 2 ^ 32) else None

-- ---- what waits

-- Where the bytes are that come, and since when each call waits for its reply, and each ping for its answer, the oldest first.
pub record Waited : Type 0 where
  pub came : Frames
  pub calls : List ℕ
  pub pings : List ℕ

abbrev pub waited_of : {A : Type 0} → Waits A → Waited
waited_of waits = record { came = waits.came; calls = waits.calls.items; pings = waits.pings.items }

-- Nothing waits: there is no connection.
abbrev pub nothing_waits : Waited
nothing_waits = record { came = at_first; calls = []; pings = [] }

-- With a frame that has come the oldest has its answer.
abbrev pub answered_by : (ℕ → Bool) → Option ℕ → List ℕ → List ℕ
answered_by test None waits = waits
answered_by test (Some xid) waits = if test xid then drop 1 waits else waits

-- with one byte that comes
abbrev pub heard_byte : Waited → (byte : ℕ) → Waited
heard_byte waited byte = record {
  came = place_after byte waited.came;
  calls = answered_by is_of_call (ends_with byte waited.came) waited.calls;
  pings = answered_by is_of_ping (ends_with byte waited.came) waited.pings;
}

abbrev pub heard_bytes : Waited → List ℕ → Waited
heard_bytes waited bytes = fold heard_byte waited bytes

-- with what the client is told
abbrev pub heard_input : Waited → Input → Waited
heard_input waited (Bytes bytes) = heard_bytes waited bytes
heard_input waited input = waited

-- What outputs send: how many frames of calls, and how many pings, and whether a connection is over before these.
abbrev pub is_there : State → Bool
is_there Connecting = true
is_there Connected = true
is_there _ = false

abbrev pub one_more : (count : ℕ) → ℕ
one_more count = min (count + 1) (2 ^ 64 - 1)

abbrev pub none_sent : (is_over : Bool) → Sent
none_sent is_over = record { is_over = is_over; calls = 0; pings = 0 }

abbrev pub sent_as : Option ℕ → Sent → Sent
sent_as None sent = sent
sent_as (Some xid) sent =
    if is_of_call xid then record sent { calls = one_more sent.calls }
    else (if is_of_ping xid then record sent { pings = one_more sent.pings } else sent)

abbrev pub sent_by : Sent → Output → Sent
sent_by sent (Send bytes) = sent_as (xid_of bytes) sent
sent_by sent (Enters state) = if is_there state then sent else none_sent true
sent_by sent output = sent

abbrev pub sent_in : List Output → Sent
sent_in given = fold sent_by (none_sent false) given

-- With the end of a connection nothing waits any more. What is sent after it waits from this moment on.
abbrev pub kept_if : (is_over : Bool) → Waited → Waited
kept_if true waited = nothing_waits
kept_if false waited = waited

abbrev pub with_sent : (now : ℕ) → Sent → Waited → Waited
with_sent now sent waited =
    record waited { calls = waited.calls ++ replicate sent.calls now; pings = waited.pings ++ replicate sent.pings now }

abbrev pub waited_after : (now : ℕ) → Sent → Waited → Waited
waited_after now sent waited = with_sent now sent (kept_if sent.is_over waited)

-- ---- until when

-- How long each may wait: two thirds of the timeout, rounded up, and a second at least, so that no server that grants less locks anybody
-- out.
abbrev pub patience : (timeout : ℕ) → ℕ
patience timeout = max ((2 * timeout + 2) / 3) 1000

-- when the oldest of those that wait since these moments has waited for so long
abbrev pub end_of : (patience : ℕ) → List ℕ → Option ℕ
end_of patience [] = None
end_of patience (since ∷ rest) = Some (min (since + patience) (2 ^ 64 - 1))

-- When a connection is to be given up, whatever the server sends but what is waited for.
abbrev pub ends_at : (timeout : ℕ) → Waited → Option ℕ
ends_at timeout waited = first_of (end_of (patience timeout) waited.calls) (end_of (patience timeout) waited.pings)
