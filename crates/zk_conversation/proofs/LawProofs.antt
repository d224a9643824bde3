-- The laws of conversations.
use Rattle.std.proofs.Common.{◌≡◌, ℕ, ℤ, negsuc, List, [], ◌∷◌, ◌++◌, Bool, true, false, length, Option, Some, None, Result, Ok, Err, refl}
use Rattle.std.proofs.Common.{ap, ◌∙◌}
use Rattle.std.specs.Prelude.{MatchOption, is_some, option_to_list, if◌then◌else◌}
use Rattle.std.specs.Ordering.{int_eq}
use Rattle.std.proofs.lemmas.Bool.Decides.{Decides-int_eq}
use Rattle.zk_jute.specs.declared.fault.TakeError.{TakeError}
use Rattle.zk_jute.specs.Layout.{Value}
use Rattle.zk_jute.specs.Lenient.{or_empty}
use Rattle.zk_jute.specs.Reading.{reading}
use Rattle.zk_records.specs.declared.event.Event.{Event}
use Rattle.zk_records.specs.declared.reply_header.ReplyHeader.{ReplyHeader}
use Rattle.zk_records.specs.Events.{event_of}
use Rattle.zk_records.specs.Layouts.{reply_header, watcher_event}
use Rattle.zk_conversation.specs.declared.fault.TalkFault.{TalkFault}
use Rattle.zk_conversation.specs.declared.fault.TalkFault.TheVariants.{OtherXid}
use Rattle.zk_conversation.specs.Questions.{Question}
use Rattle.zk_conversation.specs.Results.{result_of}
use Rattle.zk_conversation.specs.Results.{Result as Found}
use Rattle.zk_conversation.specs.Pending.{Pending, Waiting, Part_waits, Call_waits, ticket_of, or_else, tickets, first_ticket, after_ticket}
use Rattle.zk_conversation.specs.Arriving.{Arrived, Replied, Pong, Skipped, header_of, noticed, notice_arriving, call_arriving}
use Rattle.zk_conversation.specs.Arriving.{reply_arriving, oldest_arriving, later_arriving, arriving}
use Rattle.zk_conversation.specs.Laws.{TicketsComeInOrder, GoesToTheOldest, RepliesGoToTheOldest}

one-more : (ticket : Option ℕ) (more : List Pending)
    → MatchOption (first_ticket more) (tickets more ≡ []) (λ t. tickets more ≡ t ∷ tickets (after_ticket more))
    → MatchOption (or_else ticket (first_ticket more)) (option_to_list ticket ++ tickets more ≡ [])
    (λ t. option_to_list ticket ++ tickets more ≡ t ∷ tickets (if is_some ticket then more else after_ticket more))
one-more None more ih = ih
one-more (Some ticket) more ih = refl

pub in-order : TicketsComeInOrder
in-order [] = refl
in-order (pending ∷ more) = one-more (ticket_of pending.waiting) more (in-order more)

-- replies

not-noticed : (event : Option Event) (path : List ℕ) (ticket : ℕ) (question : Question) (zxid : ℤ) (result : Found)
    → noticed event path ≡ Replied ticket question zxid result → ⊥
not-noticed None path ticket question zxid result e = cc
not-noticed (Some event) path ticket question zxid result e = cc

done : Arrived → Result Arrived TalkFault
done x = Ok x

not-notice : (read : Result (Value watcher_event × List ℕ) TakeError) (ticket : ℕ) (question : Question) (zxid : ℤ) (result : Found)
    → notice_arriving read ≡ Ok (Replied ticket question zxid result) → ⊥
not-notice (Ok found) ticket question zxid result e =
    let same : noticed (event_of found.0.0) (or_empty found.0.1.1) ≡ Replied ticket question zxid result = cc in
    not-noticed (event_of found.0.0) (or_empty found.0.1.1) ticket question zxid result same
not-notice (Err fault) ticket question zxid result e = cc

-- what is answered to what waits
record Waits (waiting : Waiting) (header : ReplyHeader) (ticket : ℕ) (question : Question) (zxid : ℤ) : Type 0 where
  waits : waiting ≡ Call_waits ticket question
  at : header.zxid ≡ zxid

of-call : (t : ℕ) (q : Question) (z : ℤ) (read : Result Found TakeError) (ticket : ℕ) (question : Question) (zxid : ℤ) (result : Found)
    → call_arriving t q z read ≡ Ok (Replied ticket question zxid result)
    → (t ≡ ticket) × (q ≡ question) × (z ≡ zxid)
of-call t q z (Ok found) ticket question zxid result e = let a : t ≡ ticket = cc in let b : q ≡ question = cc in
    let c : z ≡ zxid = cc in (a, b, c)
of-call t q z (Err fault) ticket question zxid result e = absurd cc

of-waiting : (waiting : Waiting) (header : ReplyHeader) (end : ℕ) (bytes : List ℕ) (ticket : ℕ) (question : Question)
    (zxid : ℤ) (result : Found)
    → reply_arriving waiting header end bytes ≡ Ok (Replied ticket question zxid result) → Waits waiting header ticket question zxid
of-waiting (Part_waits last) header end bytes ticket question zxid result e = absurd cc
of-waiting (Call_waits t q) header end bytes ticket question zxid result e =
    let same = of-call t q header.zxid (result_of q header.err end bytes) ticket question zxid result e in
    record { waits = ap (λ n. Call_waits n q) same.0 ∙ ap (λ r. Call_waits ticket r) same.1; at = same.2 }

record Oldest (pending : List Pending) (header : ReplyHeader) (ticket : ℕ) (question : Question) (zxid : ℤ) : Type 0 where
  oldest : Pending
  more : List Pending
  first : pending ≡ oldest ∷ more
  own : oldest.xid ≡ header.xid
  waits : Waits oldest.waiting header ticket question zxid

if-own : (b : Bool) (oldest : Pending) (more : List Pending) (header : ReplyHeader) (end : ℕ) (bytes : List ℕ) (ticket : ℕ)
    (question : Question) (zxid : ℤ) (result : Found) → int_eq oldest.xid header.xid ≡ b
    → (if b then reply_arriving oldest.waiting header end bytes else Err (OtherXid oldest.xid header.xid))
    ≡ Ok (Replied ticket question zxid result) → Oldest (oldest ∷ more) header ticket question zxid
if-own true oldest more header end bytes ticket question zxid result is e = record {
  oldest = oldest;
  more = more;
  first = refl;
  own = (Decides-int_eq oldest.xid header.xid).0 is;
  waits = of-waiting oldest.waiting header end bytes ticket question zxid result e;
}
if-own false oldest more header end bytes ticket question zxid result is e = absurd cc

of-oldest : (pending : List Pending) (header : ReplyHeader) (end : ℕ) (bytes : List ℕ) (ticket : ℕ) (question : Question)
    (zxid : ℤ) (result : Found)
    → oldest_arriving pending header end bytes ≡ Ok (Replied ticket question zxid result) → Oldest pending header ticket question zxid
of-oldest [] header end bytes ticket question zxid result e = absurd cc
of-oldest (oldest ∷ more) header end bytes ticket question zxid result e =
    if-own (int_eq oldest.xid header.xid) oldest more header end bytes ticket question zxid result refl e

if-reply : (a b c : Bool) (pending : List Pending) (header : ReplyHeader) (end : ℕ) (bytes : List ℕ) (ticket : ℕ) (question : Question)
    (zxid : ℤ) (result : Found)
    → (if a then notice_arriving (reading watcher_event end bytes)
    else (if b then Ok Pong else (if c then Ok Skipped else oldest_arriving pending header end bytes)))
    ≡ Ok (Replied ticket question zxid result)
    → Oldest pending header ticket question zxid
if-reply true b c pending header end bytes ticket question zxid result e =
    absurd (not-notice (reading watcher_event end bytes) ticket question zxid result e)
if-reply false true c pending header end bytes ticket question zxid result e = absurd cc
if-reply false false true pending header end bytes ticket question zxid result e = absurd cc
if-reply false false false pending header end bytes ticket question zxid result e =
    of-oldest pending header end bytes ticket question zxid result e

of-header : (read : Result (Value reply_header × List ℕ) TakeError) (pending : List Pending) (payload : List ℕ) (ticket : ℕ)
    (question : Question) (zxid : ℤ) (result : Found)
    → reading reply_header (length payload) payload ≡ read → later_arriving pending (length payload) read
    ≡ Ok (Replied ticket question zxid result) → GoesToTheOldest pending payload ticket question zxid
of-header (Err fault) pending payload ticket question zxid result is e = absurd cc
of-header (Ok found) pending payload ticket question zxid result is e =
    let header = header_of found.0 in
    let went = if-reply (int_eq header.xid (negsuc 0)) (int_eq header.xid (negsuc 1)) (int_eq header.xid (negsuc 3)) pending header
    (length payload) found.1 ticket question zxid result e in
    record {
      oldest = went.oldest;
      more = went.more;
      header = header;
      rest = found.1;
      first = went.first;
      waits = went.waits.waits;
      read = is;
      own = went.own;
      at = went.waits.at;
    }

pub to-the-oldest : RepliesGoToTheOldest
unfolding arriving
to-the-oldest pending payload ticket question zxid result e =
    of-header (reading reply_header (length payload) payload) pending payload ticket question zxid result refl e
