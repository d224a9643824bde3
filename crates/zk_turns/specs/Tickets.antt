-- How often a ticket was called with, answered, and still waits.
use Rattle.std.specs.Prelude.{ℕ, ◌==◌, Bool, false, List, length, filter}
use Rattle.zk_turns.specs.Turns.{Call, Output, Answer, Item, Turned}
use Rattle.zk_turns.specs.Sent.{outputs_of}
use Rattle.zk_conversation.specs.Pending.{Pending, Call_waits}

abbrev pub answers_to : ℕ → Output → Bool
answers_to ticket (Answer other outcome) = ticket == other
answers_to ticket _ = false

-- the answers with the ticket
abbrev pub answers_in : ℕ → List Item → ℕ
answers_in ticket items = length (filter (answers_to ticket) (outputs_of items))

abbrev pub asks_by : ℕ → Item → Bool
asks_by ticket (Turned turn) = elim turn.input [ Call other asked ↦ ticket == other | _ ↦ false ]
asks_by ticket _ = false

-- the calls with the ticket
abbrev pub calls_in : ℕ → List Item → ℕ
calls_in ticket items = length (filter (asks_by ticket) items)

abbrev pub waits_by : ℕ → Pending → Bool
waits_by ticket pending = elim pending.waiting [ Call_waits other question ↦ ticket == other | _ ↦ false ]

-- the calls with the ticket that wait for their reply
abbrev pub waiting_with : ℕ → List Pending → ℕ
waiting_with ticket pending = length (filter (waits_by ticket) pending)
