-- What holds of the reading of payloads, and of what a connection leaves.
use Rattle.std.specs.Prelude.{◌≡◌, ℕ, ℤ, List, [], ◌∷◌, length, Ok, MatchOption}
use Rattle.zk_jute.specs.Reading.{reading}
use Rattle.zk_records.specs.declared.reply_header.ReplyHeader.{ReplyHeader}
use Rattle.zk_records.specs.Layouts.{reply_header}
use Rattle.zk_conversation.specs.declared.phase.Phase.TheVariants.{Talking}
use Rattle.zk_conversation.specs.Questions.{Question}
use Rattle.zk_conversation.specs.Results.{Result}
use Rattle.zk_conversation.specs.Pending.{Pending, Call_waits, tickets, first_ticket, after_ticket}
use Rattle.zk_conversation.specs.Arriving.{Replied, arriving}

-- Tickets are taken in the order of asking, and each once.
abbrev pub TicketsComeInOrder : Type 0
TicketsComeInOrder = (pending : List Pending)
    → MatchOption (first_ticket pending) (tickets pending ≡ []) (λ ticket. tickets pending ≡ ticket ∷ tickets (after_ticket pending))

-- The reply is that of the oldest request, which is the call with this ticket and question, and has its xid.
pub record GoesToTheOldest (pending : List Pending) (payload : List ℕ) (ticket : ℕ) (question : Question) (zxid : ℤ) : Type 0 where
  pub oldest : Pending
  pub more : List Pending
  pub header : ReplyHeader
  pub rest : List ℕ
  pub first : pending ≡ oldest ∷ more
  pub waits : oldest.waiting ≡ Call_waits ticket question
  pub read : reading reply_header (length payload) payload ≡ Ok ((header.xid, (header.zxid, header.err)), rest)
  pub own : oldest.xid ≡ header.xid
  pub at : header.zxid ≡ zxid

-- A reply goes to the oldest request with its xid, and to no other.
abbrev pub RepliesGoToTheOldest : Type 0
RepliesGoToTheOldest = (pending : List Pending) (payload : List ℕ) (ticket : ℕ) (question : Question) (zxid : ℤ) (result : Result)
    → arriving Talking pending payload ≡ Ok (Replied ticket question zxid result) → GoesToTheOldest pending payload ticket question zxid
