-- Payloads that arrive.
use Rattle.std.proofs.Common.{◌≡◌, ◌≢◌, ℕ, ℤ, negsuc, List, [], ◌∷◌, Bool, true, false, length, drop, Option, Some, None, Result, Ok, Err}
use Rattle.std.proofs.Common.{refl, ap, sym, ◌∙◌}
use Rattle.std.specs.Ordering.{int_eq}
use Rattle.std.proofs.lemmas.Bool.Decides.{Decides-int_eq}
use Rattle.zk_jute.specs.declared.fault.TakeError.{TakeError}
use Rattle.zk_jute.specs.Layout.{Value}
use Rattle.zk_jute.specs.Lenient.{or_empty}
use Rattle.zk_jute.specs.Reading.{reading}
use Rattle.zk_records.specs.declared.event.Event.{Event}
use Rattle.zk_records.specs.declared.reply_header.ReplyHeader.{ReplyHeader}
use Rattle.zk_records.specs.Events.{event_of}
use Rattle.zk_records.specs.Layouts.{reply_header, watcher_event}
use Rattle.zk_records.specs.Response.{Response, response_at}
use Rattle.zk_conversation.specs.declared.arrival.Arrival.{Arrival}
use Rattle.zk_conversation.specs.declared.fault.TalkFault.{TalkFault}
use Rattle.zk_conversation.specs.declared.phase.Phase.{Phase}
use Rattle.zk_conversation.specs.declared.phase.Phase.TheVariants.{Closed, Opening, Talking}
use Rattle.zk_conversation.specs.Pending.{Pending, Talk}
use Rattle.zk_conversation.specs.Arriving.{Arrived, Connected, Pong, Skipped, first_arriving, noticed, notice_arriving, oldest_arriving}
use Rattle.zk_conversation.specs.Arriving.{header_arriving, later_arriving, arriving, pending_after, talk_after}
use Rattle.zk_conversation.specs.Lent.{names_arrive}
use Rattle.zk_conversation.specs.inner.Arrives.{Arrives, RepliesTo, names_next}
use Rattle.zk_conversation.specs.Arrives.{Answers}
use Rattle.zk_conversation.specs.Views.{arrival_view}

-- the phases

pub before-talking : (phase : Phase) (pending : List Pending) (payload : List ℕ)
    → phase ≢ Talking → arriving phase pending payload ≡ first_arriving (response_at (length payload) payload)
unfolding arriving
before-talking Closed pending payload h = refl
before-talking Opening pending payload h = refl
before-talking Talking pending payload h = absurd (h refl)

pub while-talking : (phase : Phase) (pending : List Pending) (payload : List ℕ) → phase ≡ Talking
    → arriving phase pending payload ≡ later_arriving pending (length payload) (reading reply_header (length payload) payload)
unfolding arriving
while-talking phase pending payload e = rw e refl

talks : (phase : Phase) (pending : List Pending) (payload : List ℕ) (header : ReplyHeader) (rest : List ℕ) → phase ≡ Talking
    → reading reply_header (length payload) payload ≡ Ok ((header.xid, (header.zxid, header.err)), rest)
    → arriving phase pending payload ≡ header_arriving pending header (length payload) rest
talks phase pending payload header rest e read = while-talking phase pending payload e ∙ ap (later_arriving pending (length payload)) read

-- tests of the xid

other : (x y : ℤ) → (x ≡ y → ⊥) → int_eq x y ≡ false
other x y h = go (int_eq x y) refl where
  go : (b : Bool) → int_eq x y ≡ b → int_eq x y ≡ false
  go false e = e
  go true e = absurd (h ((Decides-int_eq x y).0 e))

is-notice : (pending : List Pending) (header : ReplyHeader) (end : ℕ) (bytes : List ℕ)
    → header.xid ≡ negsuc 0 → header_arriving pending header end bytes ≡ notice_arriving (reading watcher_event end bytes)
is-notice pending header end bytes e = rw e refl

is-pong : (pending : List Pending) (header : ReplyHeader) (end : ℕ) (bytes : List ℕ)
    → header.xid ≡ negsuc 1 → header_arriving pending header end bytes ≡ Ok Pong
is-pong pending header end bytes e = rw e refl

is-skipped : (pending : List Pending) (header : ReplyHeader) (end : ℕ) (bytes : List ℕ)
    → header.xid ≡ negsuc 3 → header_arriving pending header end bytes ≡ Ok Skipped
is-skipped pending header end bytes e = rw e refl

-- an xid that is not reserved
pub record IsFree (xid : ℤ) : Type 0 where
  pub notice : xid ≡ negsuc 0 → ⊥
  pub pong : xid ≡ negsuc 1 → ⊥
  pub skipped : xid ≡ negsuc 3 → ⊥

is-reply : (pending : List Pending) (header : ReplyHeader) (end : ℕ) (bytes : List ℕ)
    → IsFree header.xid → header_arriving pending header end bytes ≡ oldest_arriving pending header end bytes
is-reply pending header end bytes free =
    rw (other header.xid (negsuc 0) free.notice, other header.xid (negsuc 1) free.pong, other header.xid (negsuc 3) free.skipped) refl

-- what is answered

keeps-noticed : (event : Option Event) (path : List ℕ) (pending : List Pending) → pending_after (noticed event path) pending ≡ pending
keeps-noticed None path pending = refl
keeps-noticed (Some event) path pending = refl

done : Arrived → Result Arrived TalkFault
done x = Ok x

keeps-notice : (read : Result (Value watcher_event × List ℕ) TakeError) (arrived : Arrived) (pending : List Pending)
    → notice_arriving read ≡ Ok arrived → pending_after arrived pending ≡ pending
keeps-notice (Ok found) arrived pending e =
    let same : noticed (event_of found.0.0) (or_empty found.0.1.1) ≡ arrived = cc in
    ap (λ a. pending_after a pending) (sym same) ∙ keeps-noticed (event_of found.0.0) (or_empty found.0.1.1) pending
keeps-notice (Err fault) arrived pending e = absurd cc

stays : (arrived : Arrived) (talk : Talk)
    → talk.phase ≡ Talking → pending_after arrived talk.pending ≡ talk.pending → talk ≡ talk_after arrived talk
stays arrived talk e same =
    ap (λ (phase : Phase). record { phase = phase; pending = talk.pending; xid = talk.xid }) e
    ∙ ap (λ (pending : List Pending). record { phase = Talking; pending = pending; xid = talk.xid }) (sym same)

-- a notice leaves the conversation as it was
pub notice-answers : {A : Type 0} (talk : Talk) (payload : List ℕ) (header : ReplyHeader) (rest : List ℕ)
    (result : Result (Arrival A) TalkFault) → talk.phase ≡ Talking
    → reading reply_header (length payload) payload ≡ Ok ((header.xid, (header.zxid, header.err)), rest) → header.xid ≡ negsuc 0
    → Arrives result (notice_arriving (reading watcher_event (length payload) rest)) → Answers talk payload result talk
notice-answers {A} talk payload header rest result e read xid arrives = by result arrives where
  is : arriving talk.phase talk.pending payload ≡ notice_arriving (reading watcher_event (length payload) rest)
  is = talks talk.phase talk.pending payload header rest e read ∙ is-notice talk.pending header (length payload) rest xid

  by : (result : Result (Arrival A) TalkFault) → Arrives result (notice_arriving (reading watcher_event (length payload) rest))
      → Answers talk payload result talk
  by (Ok arrival) arrives = (
    is ∙ arrives,
    stays (arrival_view arrival) talk e
        (keeps-notice (reading watcher_event (length payload) rest) (arrival_view arrival) talk.pending arrives),
  )
  by (Err fault) arrives = (λ h. is ∙ arrives h, refl)

-- what is read of the header alone does so too
pub pong-answers : (talk : Talk) (payload : List ℕ) (header : ReplyHeader) (rest : List ℕ) → talk.phase ≡ Talking
    → reading reply_header (length payload) payload ≡ Ok ((header.xid, (header.zxid, header.err)), rest) → header.xid ≡ negsuc 1
    → (arriving talk.phase talk.pending payload ≡ Ok Pong) × (talk ≡ talk_after Pong talk)
pong-answers talk payload header rest e read xid = (
  talks talk.phase talk.pending payload header rest e read
      ∙ is-pong talk.pending header (length payload) rest xid,
  stays Pong talk e refl,
)

pub skip-answers : (talk : Talk) (payload : List ℕ) (header : ReplyHeader) (rest : List ℕ) → talk.phase ≡ Talking
    → reading reply_header (length payload) payload ≡ Ok ((header.xid, (header.zxid, header.err)), rest) → header.xid ≡ negsuc 3
    → (arriving talk.phase talk.pending payload ≡ Ok Skipped) × (talk ≡ talk_after Skipped talk)
skip-answers talk payload header rest e read xid = (
  talks talk.phase talk.pending payload header rest e read ∙ is-skipped talk.pending header (length payload) rest xid,
  stays Skipped talk e refl,
)

pub reply-answers : {A : Type 0} (talk after : Talk) (payload : List ℕ) (header : ReplyHeader) (rest : List ℕ)
    (result : Result (Arrival A) TalkFault)
    → talk.phase ≡ Talking → reading reply_header (length payload) payload ≡ Ok ((header.xid, (header.zxid, header.err)), rest)
    → IsFree header.xid → RepliesTo talk header (length payload) rest result after → Answers talk payload result after
reply-answers {A} talk after payload header rest result e read free replies = by result replies where
  is : arriving talk.phase talk.pending payload ≡ oldest_arriving talk.pending header (length payload) rest
  is = talks talk.phase talk.pending payload header rest e read ∙ is-reply talk.pending header (length payload) rest free

  by : (result : Result (Arrival A) TalkFault)
      → RepliesTo talk header (length payload) rest result after → Answers talk payload result after
  by (Ok arrival) replies = (
    is ∙ replies.0,
    replies.1
        ∙ ap (λ (phase : Phase). record { phase = phase; pending = drop 1 talk.pending; xid = talk.xid }) e
        ∙ ap (λ (pending : List Pending). record { phase = Talking; pending = pending; xid = talk.xid }) (sym replies.2),
  )
  by (Err fault) replies = (λ h. is ∙ replies.0 h, replies.1)

-- the first payload
pub first-answers : {A : Type 0} (talk : Talk) (payload : List ℕ) (arrival : Arrival A) (response : Result (Response × List ℕ) TakeError)
    → arriving talk.phase talk.pending payload ≡ first_arriving response
    → first_arriving response ≡ Ok (arrival_view arrival)
    → Answers talk payload (Ok arrival) (record { phase = Talking; pending = talk.pending; xid = talk.xid })
first-answers talk payload arrival response is read = (
  is ∙ read,
  ap (λ (pending : List Pending). record { phase = Talking; pending = pending; xid = talk.xid })
      (sym (keeps response (arrival_view arrival) read)),
) where
  keeps : (response : Result (Response × List ℕ) TakeError) (arrived : Arrived)
      → first_arriving response ≡ Ok arrived → pending_after arrived talk.pending ≡ talk.pending
  keeps (Ok found) arrived e = let same : Connected found.0 ≡ arrived = cc in ap (λ a. pending_after a talk.pending) (sym same)
  keeps (Err fault) arrived e = absurd cc

-- names

pub names-come : (phase : Phase) (pending : List Pending) (payload : List ℕ) (header : ReplyHeader) (rest : List ℕ)
    → phase ≡ Talking → IsFree header.xid
    → reading reply_header (length payload) payload ≡ Ok ((header.xid, (header.zxid, header.err)), rest) → names_next pending header ≡ true
    → names_arrive phase pending payload ≡ true
names-come phase [] payload header rest e free read next = absurd cc
names-come phase (oldest ∷ more) payload header rest e free read next =
    rw (
      e,
      read,
      other header.xid (negsuc 0) free.notice,
      other header.xid (negsuc 1) free.pong,
      other header.xid (negsuc 3) free.skipped,
    ) next
