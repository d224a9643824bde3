-- A schedule whose server departs from the model at another path: an unwatched read of /zookeeper/config is answered with the version -1.
-- Then /a is read with a watch, the connection is cut, and on the next one the part of setWatches is refused with -112.
use Rattle.std.specs.Prelude.{ℕ, pos, negsuc, Bool, false, List, [], ◌∷◌, ◌++◌, map, drop, Some, bytes_eq}
use Rattle.zk_nodes.specs.Path.{Text}
use Rattle.zk_nodes.specs.declared.stat.Stat.{Stat}
use Rattle.zk_conversation.specs.Calls.{Call as Asked_call, GetData}
use Rattle.zk_conversation.specs.Results.{Result, Read}
use Rattle.zk_frames.specs.Frame.{frame}
use Rattle.zk_turns.specs.Turns.{Input, Bytes, Cut, Call, Item, Turned, signals_of, Opened as Opening}
use Rattle.zk_turns.specs.Taken.{past_of}
use Rattle.zk_turns.specs.Rule.{due_signals}
use Rattle.zk_turns.specs.View.{View, view_at}
use Rattle.zk_laws.specs.ServerSteps.{Admits, Answers}
use Rattle.theory_messages.specs.Example.{at_a, read_a, what_a_held}
use Rattle.theory_messages.specs.Meeting_example.{new_client, welcome_payload, reply_begins, reply_ends, until_accepted}
use Rattle.theory_local.specs.LocalServed.{LocalEntry, Goes, Steps, Fails, items_at, local_of}

-- /a, and no other path
abbrev pub only_a : Text → Bool
only_a path = bytes_eq path at_a

-- /zookeeper/config
abbrev pub at_config : Text
at_config = 47 ∷ 122 ∷ 111 ∷ 111 ∷ 107 ∷ 101 ∷ 101 ∷ 112 ∷ 101 ∷ 114 ∷ 47 ∷ 99 ∷ 111 ∷ 110 ∷ 102 ∷ 105 ∷ 103 ∷ []

abbrev pub read_config : Asked_call
read_config = GetData at_config false

abbrev pub stat_of_config : Stat
stat_of_config = record {
  czxid = pos 0;
  mzxid = pos 0;
  ctime = pos 0;
  mtime = pos 0;
  version = negsuc 0;
  cversion = pos 0;
  aversion = negsuc 0;
  ephemeral_owner = pos 0;
  data_length = pos 0;
  num_children = pos 0;
  pzxid = pos 0;
}

abbrev pub what_config_held : Result
what_config_held = Read (Some []) stat_of_config

-- the header, with xid 1 and zxid 5, no bytes of data, and the Stat
abbrev pub config_payload : List ℕ
config_payload =
    0 ∷ 0 ∷ 0 ∷ 1 ∷ 0 ∷ 0 ∷ 0 ∷ 0 ∷ 0 ∷ 0 ∷ 0 ∷ 5 ∷ 0 ∷ 0 ∷ 0 ∷ 0 ∷ 0 ∷ 0 ∷ 0 ∷ 0
    ∷ 0 ∷ 0 ∷ 0 ∷ 0 ∷ 0 ∷ 0 ∷ 0 ∷ 0 ∷ 0 ∷ 0 ∷ 0 ∷ 0 ∷ 0 ∷ 0 ∷ 0 ∷ 0 ∷ 0 ∷ 0 ∷ 0 ∷ 0 ∷ 0 ∷ 0 ∷ 0 ∷ 0 ∷ 0 ∷ 0 ∷ 0 ∷ 0 ∷ 0 ∷ 0 ∷ 0 ∷ 0
    ∷ 255 ∷ 255 ∷ 255 ∷ 255 ∷ 0 ∷ 0 ∷ 0 ∷ 0 ∷ 255 ∷ 255 ∷ 255 ∷ 255 ∷ 0 ∷ 0 ∷ 0 ∷ 0 ∷ 0 ∷ 0 ∷ 0 ∷ 0 ∷ 0 ∷ 0 ∷ 0 ∷ 0 ∷ 0 ∷ 0 ∷ 0 ∷ 0 ∷ 0 ∷ 0
    ∷ 0 ∷ 0 ∷ 0 ∷ 0 ∷ 0 ∷ 0 ∷ []

-- the reply to the read of /a, with xid 2
abbrev pub second_payload : List ℕ
second_payload = 0 ∷ 0 ∷ 0 ∷ 2 ∷ drop 4 (reply_begins ++ reply_ends)

-- xid -8, zxid 5, err -112
abbrev pub refusal_payload : List ℕ
refusal_payload = 255 ∷ 255 ∷ 255 ∷ 248 ∷ 0 ∷ 0 ∷ 0 ∷ 0 ∷ 0 ∷ 0 ∷ 0 ∷ 5 ∷ 255 ∷ 255 ∷ 255 ∷ 144 ∷ []

-- a turn that gives what is due
abbrev pub local_turn : List LocalEntry → Input → Item
local_turn earlier input =
    Turned (record { input = input; outputs = due_signals new_client (past_of new_client (items_at earlier)) (signals_of input) })

abbrev pub until_config : List LocalEntry
until_config =
    let accepted : List LocalEntry = map local_of until_accepted in
    let called : List LocalEntry = Goes 0 (local_turn accepted (Call 7 read_config)) ∷ accepted in
    let answered : List LocalEntry = Steps (Answers read_config what_config_held) (config_payload ∷ []) ∷ called in
    Goes 0 (local_turn answered (Bytes (frame config_payload))) ∷ answered

abbrev pub until_watched : List LocalEntry
until_watched =
    let called : List LocalEntry = Goes 0 (local_turn until_config (Call 8 read_a)) ∷ until_config in
    let answered : List LocalEntry = Steps (Answers read_a what_a_held) (second_payload ∷ []) ∷ called in
    Goes 0 (local_turn answered (Bytes (frame second_payload))) ∷ answered

-- up to the second acceptance
abbrev pub until_back : List LocalEntry
until_back =
    let cut : List LocalEntry = Goes 0 (local_turn until_watched Cut) ∷ until_watched in
    let opened : List LocalEntry = Goes 1 (local_turn cut Opening) ∷ cut in
    let admitted : List LocalEntry = Steps (Admits 5) (welcome_payload ∷ []) ∷ opened in
    Goes 0 (local_turn admitted (Bytes (frame welcome_payload))) ∷ admitted

-- the part is refused, and two bytes more come that nobody reads
abbrev pub until_refused : List LocalEntry
until_refused =
    let refused : List LocalEntry = Fails refusal_payload (9 ∷ 9 ∷ []) ∷ until_back in
    Goes 0 (local_turn refused (Bytes (frame refusal_payload))) ∷ refused

-- what the client shows then
abbrev pub shown_apart : View
shown_apart = view_at new_client (past_of new_client (items_at until_refused))
