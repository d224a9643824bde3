-- A small schedule of turns and server moves, in bytes: a node is read and watched, its reply comes in two pieces, then the
-- node is set, and the connection is cut in the middle of the notice.
use Rattle.std.specs.Prelude.{ℕ, List, [], ◌∷◌, ◌++◌}
use Rattle.zk_turns.specs.Turns.{Start, new_start, Input, Bytes, Cut, Call, Item, Turned, signals_of, Opened as Opening}
use Rattle.zk_frames.specs.Frame.{frame}
use Rattle.zk_turns.specs.Taken.{past_of}
use Rattle.zk_turns.specs.Rule.{due_signals}
use Rattle.zk_laws.specs.ServerSteps.{Admits, Answers, Advances}
use Rattle.theory_messages.specs.Example.{read_a, what_a_held, a_changed}
use Rattle.zk_laws.specs.Served.{Entry, Goes_on, Serves, items_in}

abbrev pub new_client : Start
new_client = new_start 30000

-- a turn that gives what is due
abbrev pub due_turn : List Entry → Input → Item
due_turn earlier input =
    Turned (record { input = input; outputs = due_signals new_client (past_of new_client (items_in earlier)) (signals_of input) })

-- timeOut 30000, session 2748, a password of two bytes
abbrev pub welcome_payload : List ℕ
welcome_payload = 0 ∷ 0 ∷ 0 ∷ 0 ∷ 0 ∷ 0 ∷ 117 ∷ 48 ∷ 0 ∷ 0 ∷ 0 ∷ 0 ∷ 0 ∷ 0 ∷ 10 ∷ 188 ∷ 0 ∷ 0 ∷ 0 ∷ 2 ∷ 7 ∷ 9 ∷ []

-- the header, with xid 1 and zxid 5, and the first bytes of the record: the data and czxid
abbrev pub reply_begins : List ℕ
reply_begins = 0 ∷ 0 ∷ 0 ∷ 1 ∷ 0 ∷ 0 ∷ 0 ∷ 0 ∷ 0 ∷ 0 ∷ 0 ∷ 5 ∷ 0 ∷ 0 ∷ 0 ∷ 0 ∷ 0 ∷ 0 ∷ 0 ∷ 2 ∷ 104 ∷ 105 ∷ 0 ∷ 0 ∷ 0
    ∷ 0 ∷ 0 ∷ 0 ∷ 0 ∷ 5 ∷ []

-- mzxid, the times, three versions, the owner, the length, the number of children, pzxid, and a byte that is ignored
abbrev pub reply_ends : List ℕ
reply_ends =
    0 ∷ 0 ∷ 0 ∷ 0 ∷ 0 ∷ 0 ∷ 0 ∷ 5 ∷ 0 ∷ 0 ∷ 0 ∷ 0 ∷ 0 ∷ 0 ∷ 3 ∷ 232 ∷ 0 ∷ 0 ∷ 0 ∷ 0 ∷ 0 ∷ 0 ∷ 3 ∷ 232 ∷ 0 ∷ 0 ∷ 0 ∷ 0 ∷ 0
    ∷ 0 ∷ 0 ∷ 0 ∷ 0 ∷ 0 ∷ 0 ∷ 0
    ∷ 0 ∷ 0 ∷ 0 ∷ 0 ∷ 0 ∷ 0 ∷ 0 ∷ 0 ∷ 0 ∷ 0 ∷ 0 ∷ 2 ∷ 0 ∷ 0 ∷ 0 ∷ 0 ∷ 0 ∷ 0 ∷ 0 ∷ 0 ∷ 0 ∷ 0 ∷ 0 ∷ 5 ∷ 255 ∷ []

-- the notice that /a was set
abbrev pub notice_payload : List ℕ
notice_payload =
    255 ∷ 255 ∷ 255 ∷ 255 ∷ 255 ∷ 255 ∷ 255 ∷ 255 ∷ 255 ∷ 255 ∷ 255 ∷ 255 ∷ 0 ∷ 0 ∷ 0 ∷ 0 ∷ 0 ∷ 0 ∷ 0 ∷ 3 ∷ 0 ∷ 0 ∷ 0 ∷ 3 ∷ 0
    ∷ 0 ∷ 0 ∷ 2 ∷ 47 ∷ 97 ∷ []

-- up to the acceptance
abbrev pub until_accepted : List Entry
until_accepted =
    let opened : List Entry = Goes_on 1 (due_turn [] Opening) ∷ [] in
    let admitted : List Entry = Serves (Admits 0) (welcome_payload ∷ []) ∷ opened in
    Goes_on 0 (due_turn admitted (Bytes (frame welcome_payload))) ∷ admitted

-- up to the first piece of the reply
abbrev pub until_half_read : List Entry
until_half_read =
    let called : List Entry = Goes_on 0 (due_turn until_accepted (Call 7 read_a)) ∷ until_accepted in
    let answered : List Entry = Serves (Answers read_a what_a_held) ((reply_begins ++ reply_ends) ∷ []) ∷ called in
    Goes_on 0 (due_turn answered (Bytes (0 ∷ 0 ∷ 0 ∷ 91 ∷ reply_begins))) ∷ answered

-- the other piece; the node is set, and the connection is cut in the notice
abbrev pub until_cut : List Entry
until_cut =
    let read : List Entry = Goes_on 0 (due_turn until_half_read (Bytes reply_ends)) ∷ until_half_read in
    let set : List Entry = Serves (Advances (a_changed ∷ [])) (notice_payload ∷ []) ∷ read in
    let begun : List Entry = Goes_on 0 (due_turn set (Bytes (0 ∷ 0 ∷ 0 ∷ 30 ∷ 255 ∷ 255 ∷ []))) ∷ set in
    Goes_on 0 (due_turn begun Cut) ∷ begun
