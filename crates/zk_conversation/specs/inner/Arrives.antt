-- What contracts of private functions say: nobody has to believe it.
use Rattle.std.specs.Prelude.{◌≡◌, ◌≢◌, ℕ, Bool, false, ◌&&◌, List, [], ◌∷◌, drop, Ok, Err}
use Rattle.std.specs.Ordering.{int_eq}
use Rattle.std.specs.Prelude.{Result as Reading}
use Rattle.zk_jute.specs.Reading.{reading}
use Rattle.zk_records.specs.declared.reply_header.ReplyHeader.{ReplyHeader}
use Rattle.zk_records.specs.Layouts.{reply_header}
use Rattle.zk_conversation.specs.declared.arrival.Arrival.{Arrival}
use Rattle.zk_conversation.specs.declared.fault.TalkFault.{TalkFault}
use Rattle.zk_conversation.specs.declared.fault.TalkFault.TheVariants.{BadHeader, Memory}
use Rattle.zk_conversation.specs.declared.result.ReplyResult.{ReplyResult}
use Rattle.zk_conversation.specs.Results.{Result}
use Rattle.zk_conversation.specs.Pending.{Pending, Waiting, Part_waits, Call_waits, Talk}
use Rattle.zk_conversation.specs.Arriving.{Arrived, Replied, Watches_set, later_arriving, oldest_arriving, pending_after}
use Rattle.zk_conversation.specs.Lent.{awaits_names}
use Rattle.zk_conversation.specs.Views.{arrival_view, result_view}

-- What arrived, or why it is not taken, is what the reading gives, unless memory ran out.
abbrev pub Arrives : {A : Type 0} → Reading (Arrival A) TalkFault → Reading Arrived TalkFault → Type 0
Arrives (Ok arrival) read = read ≡ Ok (arrival_view arrival)
Arrives (Err fault) read = fault ≢ Memory → read ≡ Err fault

-- the header that was read, or that none is whole
abbrev pub HeaderReads : Reading ReplyHeader TalkFault → (end : ℕ) (bytes : List ℕ) (end_after : ℕ) (rest : List ℕ) → Type 0
HeaderReads (Ok header) end bytes end_after rest =
    (reading reply_header end bytes ≡ Ok ((header.xid, (header.zxid, header.err)), rest)) × (end_after ≡ end)
HeaderReads (Err fault) end bytes end_after rest =
    (fault ≡ BadHeader) × ((pending : List Pending) → later_arriving pending end (reading reply_header end bytes) ≡ Err BadHeader)

-- what arrived, where what waited has its reply
abbrev pub arrival_for : Waiting → ReplyHeader → Result → Arrived
arrival_for (Part_waits last) header result = Watches_set last header.zxid header.err
arrival_for (Call_waits ticket question) header result = Replied ticket question header.zxid result

-- What is read of the reply to the oldest request, whatever else is pending.
abbrev pub OldestReads : {A : Type 0} → (oldest : Pending) → ReplyHeader → (end : ℕ) (bytes : List ℕ)
    → Reading (ReplyResult A) TalkFault → Type 0
OldestReads oldest header end bytes (Ok found) =
    (more : List Pending) → oldest_arriving (oldest ∷ more) header end bytes ≡ Ok (arrival_for oldest.waiting header (result_view found))
OldestReads oldest header end bytes (Err fault) =
    fault ≢ Memory → (more : List Pending) → oldest_arriving (oldest ∷ more) header end bytes ≡ Err fault

-- What was answered to a reply, by its header, and the conversation after it.
abbrev pub RepliesTo : {A : Type 0} → (old : Talk) → ReplyHeader → (end : ℕ) (bytes : List ℕ)
    → Reading (Arrival A) TalkFault → (new : Talk) → Type 0
RepliesTo old header end bytes (Ok arrival) new = (oldest_arriving old.pending header end bytes ≡ Ok (arrival_view arrival))
    × (new ≡ record { phase = old.phase; pending = drop 1 old.pending; xid = old.xid })
    × (pending_after (arrival_view arrival) old.pending ≡ drop 1 old.pending)
RepliesTo old header end bytes (Err fault) new = (fault ≢ Memory → oldest_arriving old.pending header end bytes ≡ Err fault) × (new ≡ old)

-- whether the oldest request awaits a list of names under the xid of this header
abbrev pub names_next : List Pending → ReplyHeader → Bool
names_next [] header = false
names_next (oldest ∷ more) header = int_eq oldest.xid header.xid && awaits_names oldest.waiting header.err
