-- What is pending on a connection: the requests whose replies are awaited, in the order of asking.
use Rattle.std.specs.Prelude.{ℕ, ℤ, pos, ◌+◌, ◌==◌, Bool, true, false, List, [], ◌∷◌, ◌++◌, filter, length, Option, Some, None, is_some}
use Rattle.std.specs.Prelude.{option_to_list, if◌then◌else◌}
use Rattle.std.specs.List.{list_any}
use Rattle.zk_nodes.specs.declared.side.Side.{Side}
use Rattle.zk_nodes.specs.declared.side.Side.TheVariants.{Data, Child}
use Rattle.zk_conversation.specs.declared.phase.Phase.{Phase}
use Rattle.zk_conversation.specs.declared.phase.Phase.TheVariants.{Closed, Opening}
use Rattle.zk_conversation.specs.Calls.{Call, part_xid}
use Rattle.zk_conversation.specs.Questions.{Question, Close, question_of, watched_side}

-- What waits for its reply: a part of setWatches, and whether it is the last one, or a call of the caller's number.
pub data Waiting : Type 0 where
  Part_waits : (last : Bool) → Waiting
  Call_waits : (ticket : ℕ) → Question → Waiting

pub record Pending : Type 0 where
  pub xid : ℤ
  pub waiting : Waiting

-- A conversation: where its connection is, what is pending, the oldest first, and the next call's xid. Once the
-- connection is over, what was pending is left to be taken.
pub record Talk : Type 0 where
  pub phase : Phase
  pub pending : List Pending
  pub xid : ℕ

-- a conversation that has had no connection
abbrev pub new_talk : Talk
new_talk = record { phase = Closed; pending = []; xid = 1 }

-- the connection is over
abbrev pub cut_off : Talk → Talk
cut_off talk = record { phase = Closed; pending = talk.pending; xid = talk.xid }

-- the most calls that are pending at a time; parts are not counted

-- xids run from 1 to 2,147,483,647, and then from 1 again
abbrev pub next_xid : ℕ → ℕ
next_xid xid = if xid == 2147483647 then 1 else xid + 1

abbrev pub is_call : Pending → Bool
is_call pending = elim pending.waiting [ Part_waits last ↦ false | Call_waits ticket question ↦ true ]

abbrev pub closes : Question → Bool
closes Close = true
closes _ = false

abbrev pub is_close : Pending → Bool
is_close pending = elim pending.waiting [ Part_waits last ↦ false | Call_waits ticket question ↦ closes question ]

abbrev pub is_on : Side → Option Side → Bool
is_on Data (Some Data) = true
is_on Child (Some Child) = true
is_on _ _ = false

-- whether it is a read that is to leave a watch on that side
abbrev pub waits_to_watch : Side → Pending → Bool
waits_to_watch side pending =
    elim pending.waiting [ Part_waits last ↦ false | Call_waits ticket question ↦ is_on side (watched_side question) ]

-- how many calls are pending; parts are not counted
abbrev pub calls_pending : List Pending → ℕ
calls_pending pending = length (filter is_call pending)

-- how many reads are pending that are to leave a watch on that side
abbrev pub watches_pending : Side → List Pending → ℕ
watches_pending side pending = length (filter (waits_to_watch side) pending)

abbrev pub is_close_pending : List Pending → Bool
is_close_pending pending = list_any is_close pending

-- what a call, and a part, await
abbrev pub call_waits : (xid : ℕ) (ticket : ℕ) → Call → Pending
call_waits xid ticket call = record { xid = pos xid; waiting = Call_waits ticket (question_of call) }

abbrev pub part_waits : (last : Bool) → Pending
part_waits last = record { xid = part_xid; waiting = Part_waits last }

abbrev pub or_else : Option ℕ → Option ℕ → Option ℕ
or_else None other = other
or_else (Some n) other = Some n

abbrev pub ticket_of : Waiting → Option ℕ
ticket_of (Part_waits last) = None
ticket_of (Call_waits ticket question) = Some ticket

-- the tickets of the calls, in the order of asking
abbrev pub tickets : List Pending → List ℕ
tickets [] = []
tickets (pending ∷ more) = option_to_list (ticket_of pending.waiting) ++ tickets more

-- the ticket of the oldest call
abbrev pub first_ticket : List Pending → Option ℕ
first_ticket [] = None
first_ticket (pending ∷ more) = or_else (ticket_of pending.waiting) (first_ticket more)

-- what is left after the oldest call
abbrev pub after_ticket : List Pending → List Pending
after_ticket [] = []
after_ticket (pending ∷ more) = if is_some (ticket_of pending.waiting) then more else after_ticket more

-- What a connection left is taken, the oldest first; while there is one nothing is.
abbrev pub taken_ticket : Talk → Option ℕ
taken_ticket talk = elim talk.phase [ Closed ↦ first_ticket talk.pending | _ ↦ None ]

abbrev pub talk_taken : Talk → Talk
talk_taken talk = elim talk.phase [ Closed ↦ record { phase = Closed; pending = after_ticket talk.pending; xid = talk.xid } | _ ↦ talk ]

-- the conversation once a connection begins, a call was asked, and a part was sent
abbrev pub talk_opened : Talk → Talk
talk_opened talk = record { phase = Opening; pending = []; xid = talk.xid }

abbrev pub talk_asked : (ticket : ℕ) → Call → Talk → Talk
talk_asked ticket call talk =
    record { phase = talk.phase; pending = talk.pending ++ call_waits talk.xid ticket call ∷ []; xid = next_xid talk.xid }

abbrev pub talk_watching : (last : Bool) → Talk → Talk
talk_watching last talk = record { phase = talk.phase; pending = talk.pending ++ part_waits last ∷ []; xid = talk.xid }
