-- One schedule, in bytes, with all that can befall a watch, after the beginning of the small one: a node is read with a watch, and 32
-- paths, as long as paths may be, are found absent. The connection is cut in the middle of a notice. The next one is to a server that is
-- after; the watches are set again in two parts, and the first tells of the change that was missed. A ping is answered; a write is
-- taken and answered; then the session expires over a third connection.
use Rattle.std.specs.Prelude.{ℕ, pos, negsuc, ◌+◌, true, false, List, [], ◌∷◌, ◌++◌, map, replicate, flat_map, Some}
use Rattle.std.specs.List.{range_with_len}
use Rattle.zk_nodes.specs.declared.stat.Stat.{Stat}
use Rattle.zk_nodes.specs.Path.{Text}
use Rattle.zk_nodes.specs.History.{Sets, Transaction, History}
use Rattle.zk_frames.specs.Frame.{frame}
use Rattle.zk_watches.specs.Lists.{Lists}
use Rattle.zk_conversation.specs.Calls.{Call, Exists, SetData}
use Rattle.zk_conversation.specs.Results.{Result, NoNode, Found}
use Rattle.zk_turns.specs.Turns.{Bytes, Cut, Now, Call as Calling, Opened as Opening}
use Rattle.zk_laws.specs.ServerSteps.{Advances, Admits, Refuses, Answers, Restores, Pongs}
use Rattle.zk_laws.specs.Served.{Entry, Goes_on, Serves}
use Rattle.theory_messages.specs.Example.{root_alone, two_changes, at_a, a_changed}
use Rattle.theory_messages.specs.Meeting_example.{due_turn, welcome_payload, reply_ends, notice_payload, until_half_read}

-- /a is set once more, at 7
abbrev pub third_change : Transaction
third_change = record { zxid = 7; time = pos 3000; changes = Sets ((97 ∷ []) ∷ []) (Some (104 ∷ [])) ∷ [] }

abbrev pub three_changes : History
three_changes = record { first = root_alone; transactions = two_changes.transactions ++ third_change ∷ [] }

-- a path as long as one may be; its first letter is the one of this number, from A on
abbrev pub long_path : ℕ → Text
long_path n = 47 ∷ (65 + n) ∷ replicate 4094 98

abbrev pub ask_long : ℕ → Call
ask_long n = Exists (long_path n) true

-- a part has room for /a and 31 of them
abbrev pub first_part : Lists
first_part = record { data_watches = at_a ∷ []; exist_watches = map long_path (range_with_len 0 31); child_watches = [] }

abbrev pub second_part : Lists
second_part = record { data_watches = []; exist_watches = long_path 31 ∷ []; child_watches = [] }

abbrev pub write_a : Call
write_a = SetData at_a (Some (104 ∷ [])) (negsuc 0)

abbrev pub stat_at_seven : Stat
stat_at_seven = record {
  czxid = pos 5;
  mzxid = pos 7;
  ctime = pos 1000;
  mtime = pos 3000;
  version = pos 2;
  cversion = pos 0;
  aversion = pos 0;
  ephemeral_owner = pos 0;
  data_length = pos 1;
  num_children = pos 0;
  pzxid = pos 5;
}

abbrev pub what_was_written : Result
what_was_written = Found stat_at_seven

-- the reply that there is no node: an xid from 2 on, zxid 5, code -101
abbrev pub absent_payload : ℕ → List ℕ
absent_payload n = 0 ∷ 0 ∷ 0 ∷ (2 + n) ∷ 0 ∷ 0 ∷ 0 ∷ 0 ∷ 0 ∷ 0 ∷ 0 ∷ 5 ∷ 255 ∷ 255 ∷ 255 ∷ 155 ∷ []

-- the reply to a part: xid -8, zxid 6
abbrev pub restored_payload : List ℕ
restored_payload = 255 ∷ 255 ∷ 255 ∷ 248 ∷ 0 ∷ 0 ∷ 0 ∷ 0 ∷ 0 ∷ 0 ∷ 0 ∷ 6 ∷ 0 ∷ 0 ∷ 0 ∷ 0 ∷ []

-- the reply to a ping: xid -2, zxid 6
abbrev pub pong_payload : List ℕ
pong_payload = 255 ∷ 255 ∷ 255 ∷ 254 ∷ 0 ∷ 0 ∷ 0 ∷ 0 ∷ 0 ∷ 0 ∷ 0 ∷ 6 ∷ 0 ∷ 0 ∷ 0 ∷ 0 ∷ []

-- the Stat: czxid, mzxid, the times, three versions, the owner, the length, the number of children, pzxid
abbrev pub stat_bytes : List ℕ
stat_bytes =
    0 ∷ 0 ∷ 0 ∷ 0 ∷ 0 ∷ 0 ∷ 0 ∷ 5 ∷ 0 ∷ 0 ∷ 0 ∷ 0 ∷ 0 ∷ 0 ∷ 0 ∷ 7 ∷ 0 ∷ 0 ∷ 0 ∷ 0 ∷ 0 ∷ 0 ∷ 3 ∷ 232 ∷ 0 ∷ 0 ∷ 0 ∷ 0 ∷ 0 ∷ 0 ∷ 11 ∷ 184
    ∷ 0 ∷ 0 ∷ 0 ∷ 2 ∷ 0 ∷ 0 ∷ 0 ∷ 0 ∷ 0 ∷ 0 ∷ 0 ∷ 0 ∷ 0 ∷ 0 ∷ 0 ∷ 0 ∷ 0 ∷ 0 ∷ 0 ∷ 0 ∷ 0 ∷ 0 ∷ 0 ∷ 1 ∷ 0 ∷ 0 ∷ 0 ∷ 0 ∷ 0 ∷ 0 ∷ 0
    ∷ 0 ∷ 0 ∷ 0 ∷ 0 ∷ 5 ∷ []

-- the reply to the write: xid 34, zxid 7
abbrev pub written_payload : List ℕ
written_payload = 0 ∷ 0 ∷ 0 ∷ 34 ∷ 0 ∷ 0 ∷ 0 ∷ 0 ∷ 0 ∷ 0 ∷ 0 ∷ 7 ∷ 0 ∷ 0 ∷ 0 ∷ 0 ∷ stat_bytes

-- timeOut 0, session 0, a password of sixteen zero bytes
abbrev pub expired_payload : List ℕ
expired_payload = 0 ∷ 0 ∷ 0 ∷ 0 ∷ 0 ∷ 0 ∷ 0 ∷ 0 ∷ 0 ∷ 0 ∷ 0 ∷ 0 ∷ 0 ∷ 0 ∷ 0 ∷ 0 ∷ 0 ∷ 0 ∷ 0 ∷ 16 ∷ replicate 16 0

-- the long paths of these numbers are asked about
abbrev pub asking : List ℕ → List Entry → List Entry
asking [] earlier = earlier
asking (n ∷ more) earlier = asking more (Goes_on 0 (due_turn earlier (Calling (8 + n) (ask_long n))) ∷ earlier)

-- and their calls are answered: there is no node
abbrev pub denying : List ℕ → List Entry → List Entry
denying [] earlier = earlier
denying (n ∷ more) earlier = denying more (Serves (Answers (ask_long n) NoNode) (absent_payload n ∷ []) ∷ earlier)

abbrev pub numbers : List ℕ
numbers = range_with_len 0 32

-- /a is read with a watch
abbrev pub until_read : List Entry
until_read = Goes_on 0 (due_turn until_half_read (Bytes reply_ends)) ∷ until_half_read

-- and the long paths are found absent, and watched
abbrev pub until_watched : List Entry
until_watched =
    let answered : List Entry = denying numbers (asking numbers until_read) in
    Goes_on 0 (due_turn answered (Bytes (flat_map (λ n. frame (absent_payload n)) numbers))) ∷ answered

-- /a is set, and the connection is cut in the notice
abbrev pub until_lost : List Entry
until_lost =
    let set : List Entry = Serves (Advances (a_changed ∷ [])) (notice_payload ∷ []) ∷ until_watched in
    let begun : List Entry = Goes_on 0 (due_turn set (Bytes (0 ∷ 0 ∷ 0 ∷ 30 ∷ 255 ∷ 255 ∷ []))) ∷ set in
    Goes_on 0 (due_turn begun Cut) ∷ begun

-- accepted again, by a server that does not hold the change
abbrev pub until_back : List Entry
until_back =
    let opened : List Entry = Goes_on 1 (due_turn until_lost Opening) ∷ until_lost in
    let admitted : List Entry = Serves (Admits 5) (welcome_payload ∷ []) ∷ opened in
    Goes_on 0 (due_turn admitted (Bytes (frame welcome_payload))) ∷ admitted

-- it takes the change, and tells of it as it sets the watches again, part by part
abbrev pub until_told : List Entry
until_told =
    let advanced : List Entry = Serves (Advances []) [] ∷ until_back in
    let first : List Entry = Serves (Restores false 5 first_part (a_changed ∷ [])) (notice_payload ∷ restored_payload ∷ []) ∷ advanced in
    let second : List Entry = Serves (Restores true 5 second_part []) (restored_payload ∷ []) ∷ first in
    Goes_on 0 (due_turn second (Bytes (frame notice_payload ++ frame restored_payload ++ frame restored_payload))) ∷ second

-- a third of the timeout goes by, and a ping is answered
abbrev pub until_ponged : List Entry
until_ponged =
    let idle : List Entry = Goes_on 0 (due_turn until_told (Now 10000)) ∷ until_told in
    let ponged : List Entry = Serves Pongs (pong_payload ∷ []) ∷ idle in
    Goes_on 0 (due_turn ponged (Bytes (frame pong_payload))) ∷ ponged

-- a write is taken and answered, and its reply is received: all is quiet
abbrev pub until_written : List Entry
until_written =
    let called : List Entry = Goes_on 0 (due_turn until_ponged (Calling 40 write_a)) ∷ until_ponged in
    let taken : List Entry = Serves (Advances []) [] ∷ called in
    let answered : List Entry = Serves (Answers write_a what_was_written) (written_payload ∷ []) ∷ taken in
    Goes_on 0 (due_turn answered (Bytes (frame written_payload))) ∷ answered

-- at the next connection the session has expired
abbrev pub until_expired : List Entry
until_expired =
    let lost : List Entry = Goes_on 0 (due_turn until_written Cut) ∷ until_written in
    let opened : List Entry = Goes_on 3 (due_turn lost Opening) ∷ lost in
    let refused : List Entry = Serves (Refuses 7) (expired_payload ∷ []) ∷ opened in
    Goes_on 0 (due_turn refused (Bytes (frame expired_payload))) ∷ refused
