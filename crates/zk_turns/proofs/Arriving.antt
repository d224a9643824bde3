-- What a payload is read as answers what waits first, and is the first message only where nothing is asked yet: case by case as the reading
-- goes, header first.
use Rattle.std.proofs.Common.{◌≡◌, ℕ, ℤ, List, [], ◌∷◌, length, Option, Some, None, Ok, Err, refl}
use Rattle.std.specs.Prelude.{Result as Reading}
use Rattle.std.specs.Ordering.{int_eq}
use Rattle.zk_jute.specs.declared.fault.TakeError.{TakeError}
use Rattle.zk_jute.specs.Layout.{Value}
use Rattle.zk_jute.specs.Reading.{reading}
use Rattle.zk_records.specs.Events.{event_of}
use Rattle.zk_records.specs.declared.event.Event.{Event}
use Rattle.zk_records.specs.Layouts.{reply_header, watcher_event}
use Rattle.zk_records.specs.Response.{Response, response_at}
use Rattle.zk_conversation.specs.declared.phase.Phase.{Phase}
use Rattle.zk_conversation.specs.declared.phase.Phase.TheVariants.{Talking, Opening, Closed}
use Rattle.zk_conversation.specs.declared.fault.TalkFault.{TalkFault}
use Rattle.zk_conversation.specs.declared.fault.TalkFault.TheVariants.{OtherXid}
use Rattle.zk_nodes.specs.Path.{Text}
use Rattle.zk_conversation.specs.Questions.{Question}
use Rattle.zk_conversation.specs.Results.{Result, result_of}
use Rattle.zk_conversation.specs.Pending.{Pending, Waiting, Part_waits, Call_waits}
use Rattle.zk_conversation.specs.Arriving.{Arrived, Connected, Replied, Watches_set, header_of, first_arriving, noticed, notice_arriving}
use Rattle.zk_conversation.specs.Arriving.{call_arriving, reply_arriving, oldest_arriving, header_arriving, later_arriving, arriving}
use Rattle.zk_records.specs.declared.reply_header.ReplyHeader.{ReplyHeader}
use Rattle.zk_turns.proofs.Cases.{by_cond, by_header}

-- this waits first
abbrev pub First : Waiting → List Pending → Type 0
First waiting ps = (xid : ℤ) × (more : List Pending) × (ps ≡ record { xid = xid; waiting = waiting } ∷ more)

abbrev pub IsQuiet : Phase → Type 0
IsQuiet Talking = ⊥
IsQuiet _ = Unit {0}

-- what arrived answers what waits first, and only where nothing is asked yet it is the first message
abbrev pub IsOf : Phase → List Pending → Arrived → Type 0
IsOf phase ps (Replied ticket question zxid result) = First (Call_waits ticket question) ps
IsOf phase ps (Watches_set last zxid err) = First (Part_waits last) ps
IsOf phase ps (Connected response) = IsQuiet phase
IsOf phase ps _ = Unit {0}

abbrev pub AreOf : Phase → List Pending → Reading Arrived TalkFault → Type 0
AreOf phase ps (Ok arrived) = IsOf phase ps arrived
AreOf phase ps (Err fault) = Unit {0}

module _ (phase : Phase) (ps : List Pending) where
  of_event : (event : Option Event) (path : Text) → IsOf phase ps (noticed event path)
  of_event (Some event) path = tt
  of_event None path = tt

  of_notice : (r : Reading (Value watcher_event × List ℕ) TakeError) → AreOf phase ps (notice_arriving r)
  of_notice (Ok found) = of_event (event_of found.0.0) _
  of_notice (Err fault) = tt

  of_call : (ticket : ℕ) (question : Question) (zxid : ℤ) (r : Reading Result TakeError)
      → First (Call_waits ticket question) ps → AreOf phase ps (call_arriving ticket question zxid r)
  of_call ticket question zxid (Ok result) f = f
  of_call ticket question zxid (Err fault) f = tt

  of_reply : (waiting : Waiting) (header : ReplyHeader) (end : ℕ) (bytes : List ℕ)
      → First waiting ps → AreOf phase ps (reply_arriving waiting header end bytes)
  of_reply (Part_waits last) header end bytes f = f
  of_reply (Call_waits ticket question) header end bytes f = of_call ticket question header.zxid (result_of question header.err end bytes) f

  of_oldest : (qs : List Pending) → ps ≡ qs → (header : ReplyHeader) (end : ℕ) (bytes : List ℕ)
      → AreOf phase ps (oldest_arriving qs header end bytes)
  of_oldest [] e header end bytes = tt
  of_oldest (oldest ∷ more) e header end bytes =
      by_cond (AreOf phase ps) (int_eq oldest.xid header.xid) (reply_arriving oldest.waiting header end bytes)
      (Err (OtherXid oldest.xid header.xid)) (of_reply oldest.waiting header end bytes (oldest.xid, more, e)) tt

  of_header : (header : ReplyHeader) (end : ℕ) (bytes : List ℕ) → AreOf phase ps (header_arriving ps header end bytes)
  of_header header end bytes = by_header (AreOf phase ps) ps header end bytes (of_notice (reading watcher_event end bytes)) tt tt
      (of_oldest ps refl header end bytes)

  of_later : (end : ℕ) (r : Reading (Value reply_header × List ℕ) TakeError) → AreOf phase ps (later_arriving ps end r)
  of_later end (Ok found) = of_header (header_of found.0) end found.1
  of_later end (Err fault) = tt

  of_first : (r : Reading (Response × List ℕ) TakeError) → IsQuiet phase → AreOf phase ps (first_arriving r)
  of_first (Ok found) q = q
  of_first (Err fault) q = tt

pub of_arriving : (phase : Phase) (ps : List Pending) (payload : List ℕ) → AreOf phase ps (arriving phase ps payload)
unfolding arriving
of_arriving Talking ps payload = of_later Talking ps (length payload) (reading reply_header (length payload) payload)
of_arriving Opening ps payload = of_first Opening ps (response_at (length payload) payload) tt
of_arriving Closed ps payload = of_first Closed ps (response_at (length payload) payload) tt
