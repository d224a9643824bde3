-- Two programs that contend for /l, one after the other, over one history and in bytes. Session 7 has the first place, session 8 the
-- second; between them a node is made by hand, which is nobody's place. Each program lists the directory and reads its node.
use Rattle.std.specs.Prelude.{ℕ, ℤ, pos, true, List, [], ◌∷◌, ◌++◌, map, Some, None}
use Rattle.zk_jute.specs.Layout.{Layout, Value}
use Rattle.zk_jute.specs.Spelling.{spelling}
use Rattle.zk_nodes.specs.Path.{Text, Name, NodePath}
use Rattle.zk_nodes.specs.StatLayout.{stat}
use Rattle.zk_nodes.specs.History.{Change, Creates, Sets, Deletes, Transaction, History}
use Rattle.zk_records.specs.Layouts.{connect_response_front, reply_header, get_data_response, get_children2_response}
use Rattle.zk_conversation.specs.Calls.{Call as Asked_call, GetData, GetChildren}
use Rattle.zk_conversation.specs.Results.{Result, Read, Listing, stat_of}
use Rattle.zk_frames.specs.Frame.{frame}
use Rattle.zk_turns.specs.Turns.{Bytes, Call, Opened as Opening}
use Rattle.zk_turns.specs.Taken.{past_of}
use Rattle.zk_turns.specs.View.{view_at}
use Rattle.zk_laws.specs.ServerSteps.{Admits, Advances, Answers}
use Rattle.zk_laws.specs.Served.{Entry, Goes_on, Serves, items_in}
use Rattle.zk_conclusions.specs.Numbers.{Kind}
use Rattle.theory_messages.specs.Example.{root_alone}
use Rattle.theory_messages.specs.Meeting_example.{new_client, due_turn}
use Rattle.theory_contenders.specs.Programs.{Place, Moment, Run}

-- ---- the history

-- l, n-, n-0000000000, note, n-0000000002
abbrev pub lock_name : Name
lock_name = 108 ∷ []

abbrev pub lock : NodePath
lock = lock_name ∷ []

abbrev pub marker : Name
marker = 110 ∷ 45 ∷ []

abbrev pub first_name : Name
first_name = 110 ∷ 45 ∷ 48 ∷ 48 ∷ 48 ∷ 48 ∷ 48 ∷ 48 ∷ 48 ∷ 48 ∷ 48 ∷ 48 ∷ []

abbrev pub note_name : Name
note_name = 110 ∷ 111 ∷ 116 ∷ 101 ∷ []

abbrev pub second_name : Name
second_name = 110 ∷ 45 ∷ 48 ∷ 48 ∷ 48 ∷ 48 ∷ 48 ∷ 48 ∷ 48 ∷ 48 ∷ 48 ∷ 50 ∷ []

-- each is a rival of each
abbrev pub places : Kind
places = record { own = marker; against = marker ∷ [] }

abbrev pub at_once : ℕ → ℤ → Change → Transaction
at_once zxid time change = record { zxid = zxid; time = time; changes = change ∷ [] }

-- The directory is made at 5; the places at 6 and 8, and the note at 7; the note is written at 9; at 10 session 7 is over.
abbrev pub two_places : History
two_places = record {
  first = root_alone;
  transactions =
      at_once 5 (pos 1000) (Creates lock None (pos 0))
      ∷ at_once 6 (pos 2000) (Creates (first_name ∷ lock) None (pos 7))
      ∷ at_once 7 (pos 3000) (Creates (note_name ∷ lock) None (pos 0))
      ∷ at_once 8 (pos 4000) (Creates (second_name ∷ lock) None (pos 8))
      ∷ at_once 9 (pos 5000) (Sets (note_name ∷ lock) (Some (33 ∷ [])))
      ∷ at_once 10 (pos 6000) (Deletes (first_name ∷ lock))
      ∷ [];
}

-- The directory and a place in it are made, deleted, and made again: the counter begins at 0 once more.
abbrev pub made_again : History
made_again = record {
  first = root_alone;
  transactions =
      at_once 1 (pos 1000) (Creates lock None (pos 0))
      ∷ at_once 2 (pos 2000) (Creates (first_name ∷ lock) None (pos 7))
      ∷ at_once 3 (pos 3000) (Deletes (first_name ∷ lock))
      ∷ at_once 4 (pos 4000) (Deletes lock)
      ∷ at_once 5 (pos 5000) (Creates lock None (pos 0))
      ∷ at_once 6 (pos 6000) (Creates (first_name ∷ lock) None (pos 8))
      ∷ [];
}

-- ---- the messages

-- /l and a node below it
abbrev pub lock_text : Text
lock_text = 47 ∷ 108 ∷ []

abbrev pub below_lock : Name → Text
below_lock name = 47 ∷ 108 ∷ 47 ∷ name

-- the Stat of the directory
abbrev pub lock_stat : (cversion children pzxid : ℕ) → Value stat
lock_stat cversion children pzxid = (
  pos 5,
  (pos 5, (pos 1000, (pos 1000, (pos 0, (pos cversion, (pos 0, (pos 0, (pos 0, (pos children, pos pzxid))))))))),
)

-- the Stat of a place
abbrev pub place_stat : (zxid time : ℕ) (session : ℤ) → Value stat
place_stat zxid time session = (
  pos zxid,
  (pos zxid, (pos time, (pos time, (pos 0, (pos 0, (pos 0, (session, (pos 0, (pos 0, pos zxid))))))))),
)

-- the directory with three children, and with two; the first place, and the second
abbrev pub of_three : Value stat
of_three = lock_stat 3 3 8

abbrev pub of_two : Value stat
of_two = lock_stat 4 2 10

abbrev pub of_first : Value stat
of_first = place_stat 6 2000 (pos 7)

abbrev pub of_second : Value stat
of_second = place_stat 8 4000 (pos 8)

-- timeOut 30000, the session, a password of two bytes
abbrev pub welcome_of : (session : ℤ) → List ℕ
welcome_of session = spelling connect_response_front (pos 0, (pos 30000, (session, Some (7 ∷ 9 ∷ []))))

abbrev pub reply_of : (xid zxid : ℕ) (layout : Layout) → Value layout → List ℕ
reply_of xid zxid layout value = spelling reply_header (pos xid, (pos zxid, pos 0)) ++ spelling layout value

-- what the directory is listed as, by its names, and what is read of a place: no data
abbrev pub lists : List Name → Value stat → Value get_children2_response
lists names of_lock = (Some (map (λ name. Some name) names), of_lock)

abbrev pub reads : Value stat → Value get_data_response
reads of_place = (None, of_place)

-- ---- the schedules

abbrev pub list_lock : Asked_call
list_lock = GetChildren lock_text true

abbrev pub read_place : Name → Asked_call
read_place name = GetData (below_lock name) true

-- a session begins with the server at this place
abbrev pub begun : (session : ℤ) (place : ℕ) → List Entry
begun session place =
    let opened : List Entry = Goes_on place (due_turn [] Opening) ∷ [] in
    let admitted : List Entry = Serves (Admits 0) (welcome_of session ∷ []) ∷ opened in
    Goes_on 0 (due_turn admitted (Bytes (frame (welcome_of session)))) ∷ admitted

-- a call is asked, and answered by this payload, which is taken
abbrev pub asked : (ticket : ℕ) → Asked_call → Result → (payload : List ℕ) → List Entry → List Entry
asked ticket call result payload earlier =
    let called : List Entry = Goes_on 0 (due_turn earlier (Call ticket call)) ∷ earlier in
    let answered : List Entry = Serves (Answers call result) (payload ∷ []) ∷ called in
    Goes_on 0 (due_turn answered (Bytes (frame payload))) ∷ answered

abbrev pub listed : (ticket xid zxid : ℕ) → List Name → Value stat → List Entry → List Entry
listed ticket xid zxid names of_lock earlier =
    asked ticket list_lock (Listing names (stat_of of_lock)) (reply_of xid zxid get_children2_response (lists names of_lock)) earlier

abbrev pub read : (ticket xid zxid : ℕ) → Name → Value stat → List Entry → List Entry
read ticket xid zxid name of_place earlier =
    asked ticket (read_place name) (Read None (stat_of of_place)) (reply_of xid zxid get_data_response (reads of_place)) earlier

abbrev pub all_three : List Name
all_three = first_name ∷ note_name ∷ second_name ∷ []

abbrev pub last_two : List Name
last_two = note_name ∷ second_name ∷ []

-- Session 7 lists three names at 8, and reads its node. The note is written, and the directory listed again at 9.
abbrev pub first_listed : List Entry
first_listed = listed 1 1 8 all_three of_three (begun (pos 7) 4)

abbrev pub first_read : List Entry
first_read = read 2 2 8 first_name of_first first_listed

abbrev pub first_again : List Entry
first_again = listed 3 3 9 all_three of_three (Serves (Advances []) [] ∷ first_read)

-- Session 8 lists two names at 10, and reads its node.
abbrev pub second_listed : List Entry
second_listed = listed 1 1 10 last_two of_two (begun (pos 8) 6)

abbrev pub second_read : List Entry
second_read = read 2 2 10 second_name of_second second_listed

-- ---- the programs

abbrev pub first_place : Place
first_place = record { path = below_lock first_name; token = pos 6 }

abbrev pub second_place : Place
second_place = record { path = below_lock second_name; token = pos 8 }

-- a moment after these entries, at which the look-up says *held*
abbrev pub held_after : List Entry → Place → Moment
held_after entries place = record {
  items = items_in entries;
  view = view_at new_client (past_of new_client (items_in entries));
  says = Some place;
}

abbrev pub first_since : Moment
first_since = held_after first_read first_place

abbrev pub first_last : Moment
first_last = held_after first_again first_place

abbrev pub second_held : Moment
second_held = held_after second_read second_place

abbrev pub first_run : Run
first_run = record { start = new_client; dir = lock_text; kind = places; moments = first_last ∷ first_since ∷ [] }

abbrev pub second_run : Run
second_run = record { start = new_client; dir = lock_text; kind = places; moments = second_held ∷ [] }
