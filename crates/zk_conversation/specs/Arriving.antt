-- How a payload is read, by what is pending.
use Rattle.std.specs.Prelude.{ℕ, ℤ, negsuc, Bool, List, [], ◌∷◌, length, drop, Option, Some, None, Ok, Err, if◌then◌else◌}
use Rattle.std.specs.Prelude.{Result as Reading}
use Rattle.std.specs.Ordering.{int_eq}
use Rattle.zk_jute.specs.declared.fault.TakeError.{TakeError}
use Rattle.zk_nodes.specs.Path.{Text}
use Rattle.zk_jute.specs.Layout.{Value}
use Rattle.zk_jute.specs.Lenient.{or_empty}
use Rattle.zk_jute.specs.Reading.{reading}
use Rattle.zk_records.specs.declared.event.Event.{Event}
use Rattle.zk_records.specs.declared.reply_header.ReplyHeader.{ReplyHeader}
use Rattle.zk_records.specs.Layouts.{reply_header, watcher_event}
use Rattle.zk_records.specs.Events.{event_of}
use Rattle.zk_records.specs.Response.{Response, response_at}
use Rattle.zk_conversation.specs.declared.phase.Phase.{Phase}
use Rattle.zk_conversation.specs.declared.phase.Phase.TheVariants.{Talking}
use Rattle.zk_conversation.specs.declared.fault.TalkFault.{TalkFault}
use Rattle.zk_conversation.specs.declared.fault.TalkFault.TheVariants.{BadHeader, NobodyAsked, OtherXid, BadRecord, BadNotice}
use Rattle.zk_conversation.specs.Questions.{Question}
use Rattle.zk_conversation.specs.Results.{Result, result_of}
use Rattle.zk_conversation.specs.Pending.{Pending, Waiting, Part_waits, Call_waits, Talk}

-- a payload as it is read
pub data Arrived : Type 0 where
  Connected : Response → Arrived
  -- the reply to a call, with its ticket and the reply's zxid
  Replied : (ticket : ℕ) → Question → (zxid : ℤ) → Result → Arrived
  -- the reply to a part of setWatches
  Watches_set : (last : Bool) → (zxid err : ℤ) → Arrived
  Notice : Event → (path : Text) → Arrived
  Pong Skipped : Arrived

abbrev pub header_of : Value reply_header → ReplyHeader
header_of v = record { xid = v.0; zxid = v.1.0; err = v.1.1 }

-- The first payload of a connection is a ConnectResponse.
abbrev pub first_arriving : Reading (Response × List ℕ) TakeError → Reading Arrived TalkFault
first_arriving (Ok found) = Ok (Connected found.0)
first_arriving (Err fault) = Err (BadRecord fault)

-- a notice of a type that is no event is skipped
abbrev pub noticed : Option Event → Text → Arrived
noticed (Some event) path = Notice event path
noticed None path = Skipped

-- A notice is read whole before its type is looked at. Its state is ignored.
abbrev pub notice_arriving : Reading (Value watcher_event × List ℕ) TakeError → Reading Arrived TalkFault
notice_arriving (Ok found) = Ok (noticed (event_of found.0.0) (or_empty found.0.1.1))
notice_arriving (Err fault) = Err (BadNotice fault)

abbrev pub call_arriving : (ticket : ℕ) → Question → (zxid : ℤ) → Reading Result TakeError → Reading Arrived TalkFault
call_arriving ticket question zxid (Ok result) = Ok (Replied ticket question zxid result)
call_arriving ticket question zxid (Err fault) = Err (BadRecord fault)

-- the reply to what waits
abbrev pub reply_arriving : Waiting → ReplyHeader → (end : ℕ) → List ℕ → Reading Arrived TalkFault
reply_arriving (Part_waits last) header end bytes = Ok (Watches_set last header.zxid header.err)
reply_arriving (Call_waits ticket question) header end bytes =
    call_arriving ticket question header.zxid (result_of question header.err end bytes)

-- a reply is that of the oldest request, and has its xid
abbrev pub oldest_arriving : List Pending → ReplyHeader → (end : ℕ) → List ℕ → Reading Arrived TalkFault
oldest_arriving [] header end bytes = Err (NobodyAsked header.xid)
oldest_arriving (oldest ∷ more) header end bytes =
    if int_eq oldest.xid header.xid then reply_arriving oldest.waiting header end bytes else Err (OtherXid oldest.xid header.xid)

-- after the header: xid -1 is a notice, -2 a pong, -4 is skipped, and another is a reply
abbrev pub header_arriving : List Pending → ReplyHeader → (end : ℕ) → List ℕ → Reading Arrived TalkFault
header_arriving pending header end bytes =
    if int_eq header.xid (negsuc 0) then notice_arriving (reading watcher_event end bytes)
    else (if int_eq header.xid (negsuc 1) then Ok Pong
    else (if int_eq header.xid (negsuc 3) then Ok Skipped
    else oldest_arriving pending header end bytes))

-- A later payload begins with a header, which is whole where there are 16 bytes.
abbrev pub later_arriving : List Pending → (end : ℕ) → Reading (Value reply_header × List ℕ) TakeError → Reading Arrived TalkFault
later_arriving pending end (Ok found) = header_arriving pending (header_of found.0) end found.1
later_arriving pending end (Err fault) = Err BadHeader

-- THE reading of one payload.
unfoldable pub arriving : Phase → List Pending → (payload : List ℕ) → Reading Arrived TalkFault
arriving Talking pending payload = later_arriving pending (length payload) (reading reply_header (length payload) payload)
arriving _ pending payload = first_arriving (response_at (length payload) payload)

-- what is pending after it: a reply takes its request out
abbrev pub pending_after : Arrived → List Pending → List Pending
pending_after (Replied ticket question zxid result) pending = drop 1 pending
pending_after (Watches_set last zxid err) pending = drop 1 pending
pending_after _ pending = pending

abbrev pub talk_after : Arrived → Talk → Talk
talk_after arrived talk = record { phase = Talking; pending = pending_after arrived talk.pending; xid = talk.xid }
