-- Worked rows: what the definitions give for some inputs, computed.
use Rattle.std.proofs.Common.{◌≡◌, ℕ, ◌+◌, ◌*◌, pos, negsuc, List, [], ◌∷◌, ◌++◌, take, Some, None, true, false, codes, refl}
use Prim.Native.String.{String}
use Rattle.std.specs.Char.{digit_value}
use Rattle.std.specs.List.{flat_map}
use Rattle.std.specs.FinSet as set
use Rattle.zk_nodes.specs.declared.side.Side.TheVariants.{Data, Child}
use Rattle.zk_records.specs.declared.event.Event.TheVariants.{Deleted, DataChanged}
use Rattle.zk_nodes.specs.declared.stat.Stat.{Stat}
use Rattle.zk_nodes.specs.DataStats.{data_stat_of}
use Rattle.zk_conversation.specs.Calls.{Exists, GetData, GetChildren, SetData, Create, Delete, Close}
use Rattle.zk_conversation.specs.Arriving.{arriving}
use Rattle.zk_conversation.specs.Results.{record_of}
use Rattle.zk_jute.specs.Spelling.{int_bytes, long_bytes, counted_bytes}
use Rattle.zk_jute.specs.Reading.{bytes_at, int_at, long_at, boolean_at, length_of, length_at, counted_at, text_bytes_at, elements_at}
use Rattle.zk_records.specs.Response.{flag_at, response_at}
use Rattle.zk_conversation.specs.Results.{NoNode, Found, Made, Read, Listing, Done}
use Rattle.zk_turns.specs.Turns.{Fault, Framed, Talked, Replied, ConnectionLoss, SessionExpired, SessionClosed, NotConnected}
use Rattle.zk_turns.specs.Turns.{WatchesRefused, Silent, Behind, Input, Opened, Bytes, Cut, Now, Call, Output, Send, Answer, Report, Enters}
use Rattle.zk_turns.specs.Turns.{Drop, new_start, signals_of}
use Rattle.zk_jute.specs.declared.fault.TakeError.TheVariants.{Short, BadLength, NotUtf8, BadBool}
use Rattle.zk_frames.specs.declared.fault.FrameFault.TheVariants.{Negative, TooLong}
use Rattle.zk_conversation.specs.declared.fault.TalkFault.TheVariants.{BadHeader, BadNotice, NobodyAsked, OtherXid, BadRecord}
use Rattle.zk_session.specs.declared.states.State.TheVariants.{Idle, Connecting, Connected, Expired, Closed}
use Rattle.zk_conversation.specs.Calls.{connect_payload, call_payload, part_payload, ping_payload}
use Rattle.std.specs.Str.{is_utf8, chars}
use lib.Utf8.{encode}
use Rattle.zk_turns.specs.View.{View, view_at}
use Rattle.zk_turns.specs.Taken.{cut}
use Rattle.zk_turns.specs.Rule.{says_signals, after_signals}
use Rattle.zk_cache.specs.Kept.{Absent, Full, good, stale}
use Rattle.zk_watches.specs.Lists.{no_lists}

-- the bytes of a text of hex digits, two digits a byte; one digit alone after them is left out
abbrev bytes_of : List ℕ → List ℕ
bytes_of (high ∷ low ∷ digits) = (16 * digit_value high + digit_value low) ∷ bytes_of digits
bytes_of digits = []

abbrev hex : String → List ℕ
hex text = bytes_of (codes text)

-- each digit in each place of a byte
pub digits_in_turn : hex "0123456789abcdef1032547698badcfe"
    ≡ 1 ∷ 35 ∷ 69 ∷ 103 ∷ 137 ∷ 171 ∷ 205 ∷ 239 ∷ 16 ∷ 50 ∷ 84 ∷ 118 ∷ 152 ∷ 186 ∷ 220 ∷ 254 ∷ []
digits_in_turn = refl

-- the frame of the first bytes of a payload, as many as are told and fewer than 256
abbrev cut_to : ℕ → List ℕ → List ℕ
cut_to count payload = 0 ∷ 0 ∷ 0 ∷ count ∷ take count payload

abbrev Sa : Stat
Sa = record {
  czxid = pos 3;
  mzxid = pos 5;
  ctime = pos 1000;
  mtime = pos 2000;
  version = pos 1;
  cversion = pos 0;
  aversion = pos 0;
  ephemeral_owner = pos 0;
  data_length = pos 2;
  num_children = pos 0;
  pzxid = pos 3;
}

-- the fields of Sa as bytes
abbrev stat : List ℕ
stat =
    hex "0000000000000003000000000000000500000000000003e800000000000007d0000000010000000000000000000000000000000000000002000000000000000000000003"

-- payloads: the data and the Stat of /a, with xid 1 and zxid 5; the notice that /a was changed
abbrev replied : List ℕ
replied = hex "00000001000000000000000500000000000000026869" ++ stat

abbrev noticed : List ℕ
noticed = hex "ffffffffffffffffffffffff000000000000000300000003000000022f61"

-- the ConnectRequest of a new client, and of one that has a session and has seen zxid 5
abbrev hello : List ℕ
hello = hex "0000002d000000000000000000000000000075300000000000000000000000100000000000000000000000000000000000"

abbrev hello_again : List ℕ
hello_again = hex "0000002d000000000000000000000005000075300000000000000abc00000010000102030405060708090a0b0c0d0e0f00"

-- the response: timeout 30000, session 2748, a password of 16 bytes
abbrev welcome : List ℕ
welcome = hex "0000002400000000000075300000000000000abc00000010000102030405060708090a0b0c0d0e0f"

-- the response where the session has expired, and the notice after it
abbrev expiry_and_notice : List ℕ
expiry_and_notice = hex "00000024000000000000000000000000000000000000001000000000000000000000000000000000" ++ cut_to 30 noticed

-- getData of /a with a watch, and exists of /b with one, both with xid 1
abbrev asks_a : List ℕ
asks_a = hex "0000000f0000000100000004000000022f6101"

abbrev asks_b : List ℕ
asks_b = hex "0000000f0000000100000003000000022f6201"

-- the reply as a frame; the same with xid 2, and with xid 2 and zxid 7
abbrev reply : List ℕ
reply = cut_to 90 replied

abbrev second_reply : List ℕ
second_reply = hex "0000005a00000002000000000000000500000000000000026869" ++ stat

abbrev later_reply : List ℕ
later_reply = hex "0000005a00000002000000000000000700000000000000026869" ++ stat

-- one name and the Stat of /a, with xid 2 and zxid 5
abbrev names_reply : List ℕ
names_reply = hex "0000005d00000002000000000000000500000000000000010000000178" ++ stat

-- there is no node, with zxid 5, and done, with zxid 8; both with xid 1
abbrev no_node : List ℕ
no_node = hex "00000010000000010000000000000005ffffff9b"

abbrev done : List ℕ
done = hex "0000001000000001000000000000000800000000"

-- the reply and the notice in one piece
abbrev reply_and_notice : List ℕ
reply_and_notice = reply ++ cut_to 30 noticed

-- notices: /a was deleted; /a was changed, with zxid 6; /b was, with the reply to setWatches after it
abbrev deletion : List ℕ
deletion = hex "0000001effffffffffffffffffffffff000000000000000200000003000000022f61"

abbrev a_changed : List ℕ
a_changed = hex "0000001effffffff0000000000000006000000000000000300000003000000022f61"

abbrev b_changed : List ℕ
b_changed = hex "0000001effffffff0000000000000006000000000000000300000003000000022f6200000010fffffff8000000000000000600000000"

-- setWatches of /b, which was absent, and its reply, with zxid 8
abbrev sets_b : List ℕ
sets_b = hex "00000022fffffff80000006500000000000000050000000000000001000000022f6200000000"

abbrev watches_set : List ℕ
watches_set = hex "00000010fffffff8000000000000000800000000"

abbrev shown : {A : Type 0} → (View → A) → List Input → A
shown field inputs = field (after_signals (view_at (new_start 30000) []) (flat_map signals_of inputs))

abbrev outputs : List Input → List Output
outputs inputs = says_signals (view_at (new_start 30000) []) (flat_map signals_of inputs)

-- a client connects, and then these bytes come; before they do it has asked for /a
abbrev hearing : List ℕ → List Input
hearing bytes = Opened ∷ Bytes welcome ∷ Bytes bytes ∷ []

abbrev asking : List ℕ → List Input
asking bytes = Opened ∷ Bytes welcome ∷ Call 7 (GetData (codes "/a") true) ∷ Bytes bytes ∷ []

-- what a client says that connects, and then says these
abbrev began : List Output → List Output
began others = Send hello ∷ Enters Connecting ∷ Enters Connected ∷ others

-- and where the bytes that come then end the connection
abbrev hearing_ends : Fault → List Output
hearing_ends fault = began (Drop fault ∷ Enters Idle ∷ [])

abbrev asking_ends : Fault → List Output
asking_ends fault = began (Send asks_a ∷ Drop fault ∷ Answer 7 ConnectionLoss ∷ Enters Idle ∷ [])

-- inputs of more than one row: an absent path over a cut, two changed paths, a deletion on both sides, an expiry, and a reply
-- behind the last seen zxid
abbrev over_a_cut : List Input
over_a_cut = Opened ∷ Bytes welcome ∷ Call 1 (Exists (codes "/b") true) ∷ Bytes no_node ∷ Cut ∷ Opened ∷ Bytes welcome
    ∷ Bytes watches_set ∷ []

abbrev two_changes : List Input
two_changes =
    Opened ∷ Bytes welcome ∷ Call 1 (GetData (codes "/a") true) ∷ Call 2 (GetData (codes "/b") true) ∷ Bytes reply
    ∷ Bytes second_reply ∷ Bytes a_changed
    ∷ Cut ∷ Opened ∷ Bytes welcome ∷ Bytes b_changed ∷ []

abbrev two_deletions : List Input
two_deletions =
    Opened ∷ Bytes welcome ∷ Call 7 (GetData (codes "/a") true) ∷ Call 8 (GetChildren (codes "/a") true) ∷ Bytes reply ∷ Bytes names_reply
    ∷ Cut ∷ Opened ∷ Bytes welcome ∷ Bytes deletion ∷ Bytes deletion ∷ []

abbrev expiring : List Input
expiring = Opened ∷ Bytes welcome ∷ Call 1 (Exists (codes "/b") true) ∷ Bytes no_node ∷ Cut ∷ Opened ∷ Bytes expiry_and_notice
    ∷ Call 3 Close ∷ Opened ∷ []

abbrev falling_behind : List Input
falling_behind = Opened ∷ Bytes welcome ∷ Call 1 (Delete (codes "/c") (negsuc 0)) ∷ Bytes done ∷ Call 2 (GetData (codes "/a") true)
    ∷ Bytes later_reply ∷ []

-- what the rows compute with
definitions : Unit {0}
unfolding is_utf8 chars encode cut arriving connect_payload call_payload part_payload ping_payload int_bytes long_bytes counted_bytes
    bytes_at int_at long_at boolean_at length_of length_at counted_at text_bytes_at elements_at flag_at response_at record_of
definitions = tt

-- a new client opens
pub opened : outputs (Opened ∷ []) ≡ Send hello ∷ Enters Connecting ∷ []
unfolding definitions
opened = refl

-- the response is accepted
pub accepted : outputs (Opened ∷ Bytes welcome ∷ []) ≡ began []
unfolding definitions
accepted = refl

-- with a readOnly byte too
pub accepted_with_flag : outputs
    (Opened ∷ Bytes (hex "0000002500000000000075300000000000000abc00000010000102030405060708090a0b0c0d0e0f00") ∷ [])
    ≡ began []
unfolding definitions
accepted_with_flag = refl

-- and with another byte it is dropped
pub accepted_with_bad_flag : outputs
    (Opened ∷ Bytes (hex "0000002500000000000075300000000000000abc00000010000102030405060708090a0b0c0d0e0f02") ∷ [])
    ≡ Send hello ∷ Enters Connecting ∷ Drop (Talked (BadRecord (BadBool 36))) ∷ Enters Idle ∷ []
unfolding definitions
accepted_with_bad_flag = refl

-- a watched read is answered
pub read : outputs (asking reply) ≡ began (Send asks_a ∷ Answer 7 (Replied (pos 5) (Read (Some (codes "hi")) Sa)) ∷ [])
unfolding definitions
read = refl

-- the answer and the notice in one piece
pub read_and_notice : outputs (asking reply_and_notice)
    ≡ began (Send asks_a ∷ Answer 7 (Replied (pos 5) (Read (Some (codes "hi")) Sa)) ∷ Report (codes "/a") Data DataChanged ∷ [])
unfolding definitions
read_and_notice = refl

-- an absent path is watched again after a cut
pub absent_over_a_cut : outputs over_a_cut
    ≡ began (Send asks_b ∷ Answer 1 (Replied (pos 5) NoNode) ∷ Enters Idle ∷ Send hello_again ∷ Enters Connecting
    ∷ Enters Connected ∷ Send sets_b ∷ [])
unfolding definitions
absent_over_a_cut = refl

-- of two changed paths the second is told after a reconnect
pub two_paths_over_a_cut : outputs two_changes
    ≡ began (Send asks_a ∷ Send (hex "0000000f0000000200000004000000022f6201") ∷ Answer 1 (Replied (pos 5) (Read (Some (codes "hi")) Sa))
    ∷ Answer 2 (Replied (pos 5) (Read (Some (codes "hi")) Sa)) ∷ Report (codes "/a") Data DataChanged ∷ Enters Idle ∷ Send hello_again
    ∷ Enters Connecting ∷ Enters Connected
    ∷ Send (hex "00000022fffffff800000065000000000000000500000001000000022f620000000000000000") ∷ Report (codes "/b") Data DataChanged ∷ [])
unfolding definitions
two_paths_over_a_cut = refl

-- a deletion is told once on each side
pub both_sides : outputs two_deletions
    ≡ began (Send asks_a ∷ Send (hex "0000000f000000020000000c000000022f6101") ∷ Answer 7 (Replied (pos 5) (Read (Some (codes "hi")) Sa))
    ∷ Answer 8 (Replied (pos 5) (Listing (codes "x" ∷ []) Sa)) ∷ Enters Idle ∷ Send hello_again ∷ Enters Connecting ∷ Enters Connected
    ∷ Send (hex "00000028fffffff800000065000000000000000500000001000000022f610000000000000001000000022f61")
    ∷ Report (codes "/a") Data Deleted
    ∷ Report (codes "/a") Child Deleted ∷ [])
unfolding definitions
both_sides = refl

-- a reply with another xid is dropped
pub other_xid : outputs
    (Opened ∷ Bytes welcome ∷ Call 1 (Exists (codes "/b") true) ∷ Bytes (hex "00000010000000020000000000000005ffffff9b") ∷ [])
    ≡ began (Send asks_b ∷ Drop (Talked (OtherXid (pos 1) (pos 2))) ∷ Answer 1 ConnectionLoss ∷ Enters Idle ∷ [])
unfolding definitions
other_xid = refl

-- a watched read behind the last seen zxid is dropped
pub behind : outputs falling_behind
    ≡ began (Send (hex "000000120000000100000002000000022f63ffffffff") ∷ Answer 1 (Replied (pos 8) Done)
    ∷ Send (hex "0000000f0000000200000004000000022f6101")
    ∷ Drop (Behind (pos 8) (pos 7)) ∷ Answer 2 ConnectionLoss ∷ Enters Idle ∷ [])
unfolding definitions
behind = refl

-- an unfinished reply is lost with its connection
pub cut_in_a_reply : outputs
    (Opened ∷ Bytes welcome ∷ Call 7 (GetData (codes "/a") true) ∷ Bytes (take 50 reply) ∷ Cut ∷ Opened ∷ Bytes welcome ∷ [])
    ≡ began (Send asks_a ∷ Answer 7 ConnectionLoss ∷ Enters Idle
    ∷ Send (hex "0000002d000000000000000000000000000075300000000000000abc00000010000102030405060708090a0b0c0d0e0f00") ∷ Enters Connecting
    ∷ Enters Connected ∷ [])
unfolding definitions
cut_in_a_reply = refl

-- a second response is a reply that nobody asked for
pub response_twice : outputs (Opened ∷ Bytes (welcome ++ welcome) ∷ []) ≡ hearing_ends (Talked (NobodyAsked (pos 0)))
unfolding definitions
response_twice = refl

-- an expired session
pub expired : outputs expiring
    ≡ began (Send asks_b ∷ Answer 1 (Replied (pos 5) NoNode) ∷ Enters Idle ∷ Send hello_again ∷ Enters Connecting ∷ Enters Expired
    ∷ Answer 3 SessionExpired ∷ [])
unfolding definitions
expired = refl

-- pings and silence
pub moments : outputs (Opened ∷ Bytes welcome ∷ Now 9999 ∷ Now 10000 ∷ Now 20000 ∷ [])
    ≡ began (Send (hex "00000008fffffffe0000000b") ∷ Drop Silent ∷ Enters Idle ∷ [])
unfolding definitions
moments = refl

-- a close and a call before its reply
pub closing : outputs (Opened ∷ Bytes welcome ∷ Call 4 Close ∷ Call 5 Close ∷ Bytes (hex "0000001000000001000000000000000900000000") ∷ [])
    ≡ began (Send (hex "0000000800000001fffffff5") ∷ Answer 5 SessionClosed ∷ Answer 4 (Replied (pos 9) Done) ∷ Enters Closed ∷ [])
unfolding definitions
closing = refl

-- data that are null
pub null_data : outputs (asking (hex "0000005800000001000000000000000500000000ffffffff" ++ stat))
    ≡ began (Send asks_a ∷ Answer 7 (Replied (pos 5) (Read None Sa)) ∷ [])
unfolding definitions
null_data = refl

-- data of no bytes
pub empty_data : outputs (asking (hex "000000580000000100000000000000050000000000000000" ++ stat))
    ≡ began (Send asks_a ∷ Answer 7 (Replied (pos 5) (Read (Some []) Sa)) ∷ [])
unfolding definitions
empty_data = refl

-- a length below -1
pub bad_data : outputs (asking (hex "0000005800000001000000000000000500000000fffffffe" ++ stat))
    ≡ asking_ends (Talked (BadRecord (BadLength 16)))
unfolding definitions
bad_data = refl

-- getData of an absent path keeps nothing
pub absent_data : outputs (Opened ∷ Bytes welcome ∷ Call 1 (GetData (codes "/b") true) ∷ Bytes no_node ∷ [])
    ≡ began (Send (hex "0000000f0000000100000004000000022f6201") ∷ Answer 1 (Replied (pos 5) NoNode) ∷ [])
unfolding definitions
absent_data = refl

-- an unwatched read keeps nothing
pub unwatched : outputs (Opened ∷ Bytes welcome ∷ Call 1 (GetData (codes "/a") false) ∷ Bytes reply ∷ [])
    ≡ began (Send (hex "0000000f0000000100000004000000022f6100") ∷ Answer 1 (Replied (pos 5) (Read (Some (codes "hi")) Sa)) ∷ [])
unfolding definitions
unwatched = refl

-- a length above the limit
pub too_long : outputs (hearing (hex "00400001")) ≡ hearing_ends (Framed TooLong)
unfolding definitions
too_long = refl

-- the longest length is awaited
pub longest : outputs (hearing (hex "00400000")) ≡ began []
unfolding definitions
longest = refl

-- a length below 0
pub negative : outputs (hearing (hex "ffffffff")) ≡ hearing_ends (Framed Negative)
unfolding definitions
negative = refl

-- an empty frame
pub empty_frame : outputs (hearing (hex "00000000")) ≡ hearing_ends (Talked BadHeader)
unfolding definitions
empty_frame = refl

-- an empty frame in a response's place
pub empty_response : outputs (Opened ∷ Bytes (hex "00000000") ∷ [])
    ≡ Send hello ∷ Enters Connecting ∷ Drop (Talked (BadRecord (Short 0))) ∷ Enters Idle ∷ []
unfolding definitions
empty_response = refl

-- a reply with nothing pending
pub nobody_asked : outputs (hearing (hex "0000001000000005000000000000000500000000")) ≡ hearing_ends (Talked (NobodyAsked (pos 5)))
unfolding definitions
nobody_asked = refl

-- xids -2 and -4 give no output
pub skipped : outputs (hearing (hex "00000010fffffffe00000000000000050000000000000010fffffffc000000000000000500000000")) ≡ began []
unfolding definitions
skipped = refl

-- a reply below the first zxid
pub behind_by_one : outputs
    (Opened ∷ Bytes welcome ∷ Call 1 (Exists (codes "/b") true) ∷ Bytes (hex "0000001000000001ffffffffffffffffffffff9b") ∷ [])
    ≡ began (Send asks_b ∷ Drop (Behind (pos 0) (negsuc 0)) ∷ Answer 1 ConnectionLoss ∷ Enters Idle ∷ [])
unfolding definitions
behind_by_one = refl

-- a notice of another type, and one whose path is none
pub other_type : outputs (Opened ∷ Bytes welcome ∷ Bytes (hex "0000001effffffffffffffffffffffff000000000000000900000003000000022f61")
    ∷ Bytes (hex "0000001fffffffffffffffffffffffff00000000000000030000000300000003612f2f") ∷ [])
    ≡ began []
unfolding definitions
other_type = refl

-- setWatches that are refused
pub refused_watches : outputs (Opened ∷ Bytes welcome ∷ Call 1 (Exists (codes "/b") true) ∷ Bytes no_node ∷ Cut ∷ Opened ∷ Bytes welcome
    ∷ Bytes (hex "00000010fffffff80000000000000008fffffffc") ∷ Opened ∷ Bytes welcome ∷ [])
    ≡ began (Send asks_b ∷ Answer 1 (Replied (pos 5) NoNode) ∷ Enters Idle ∷ Send hello_again ∷ Enters Connecting
    ∷ Enters Connected ∷ Send sets_b
    ∷ Drop (WatchesRefused (negsuc 3)) ∷ Enters Idle ∷ Send hello_again ∷ Enters Connecting ∷ Enters Connected ∷ Send sets_b ∷ [])
unfolding definitions
refused_watches = refl

-- a sequential create
pub create : outputs (Opened ∷ Bytes welcome ∷ Call 1 (Create (codes "/l/n-") None 3)
    ∷ Bytes (hex "00000023000000010000000000000009000000000000000f2f6c2f6e2d30303030303030303037") ∷ [])
    ≡ began (Send (hex "000000340000000100000001000000052f6c2f6e2dffffffff000000010000001f00000005776f726c6400000006616e796f6e6500000003")
    ∷ Answer 1 (Replied (pos 9) (Made (codes "/l/n-0000000007"))) ∷ [])
unfolding definitions
create = refl

-- a write of data
pub set_data : outputs (Opened ∷ Bytes welcome ∷ Call 1 (SetData (codes "/a") (Some (codes "hi")) (negsuc 0))
    ∷ Bytes (hex "0000005400000001000000000000000a00000000" ++ stat) ∷ [])
    ≡ began (Send (hex "000000180000000100000005000000022f61000000026869ffffffff") ∷ Answer 1 (Replied (pos 10) (Found Sa)) ∷ [])
unfolding definitions
set_data = refl

-- a call where there is no talk
pub not_connected : outputs (Call 7 (Exists (codes "/a") true) ∷ Opened ∷ Call 8 Close ∷ [])
    ≡ Answer 7 NotConnected ∷ Send hello ∷ Enters Connecting ∷ Answer 8 NotConnected ∷ []
unfolding definitions
not_connected = refl

-- a name that is no text
pub bad_text : outputs (Opened ∷ Bytes welcome ∷ Call 1 (GetChildren (codes "/") false)
    ∷ Bytes (hex "00000019000000010000000000000005000000000000000100000001ff") ∷ [])
    ≡ began (Send (hex "0000000e000000010000000c000000012f00") ∷ Drop (Talked (BadRecord (NotUtf8 24)))
    ∷ Answer 1 ConnectionLoss ∷ Enters Idle ∷ [])
unfolding definitions
bad_text = refl

-- the reply cut to 0 bytes
pub reply_of_0_bytes : outputs (asking (cut_to 0 replied)) ≡ asking_ends (Talked BadHeader)
unfolding definitions
reply_of_0_bytes = refl

-- the reply cut to 15 bytes
pub reply_of_15_bytes : outputs (asking (cut_to 15 replied)) ≡ asking_ends (Talked BadHeader)
unfolding definitions
reply_of_15_bytes = refl

-- the reply cut to 16 bytes
pub reply_of_16_bytes : outputs (asking (cut_to 16 replied)) ≡ asking_ends (Talked (BadRecord (Short 16)))
unfolding definitions
reply_of_16_bytes = refl

-- the reply cut to 19 bytes
pub reply_of_19_bytes : outputs (asking (cut_to 19 replied)) ≡ asking_ends (Talked (BadRecord (Short 16)))
unfolding definitions
reply_of_19_bytes = refl

-- the reply cut to 20 bytes
pub reply_of_20_bytes : outputs (asking (cut_to 20 replied)) ≡ asking_ends (Talked (BadRecord (Short 20)))
unfolding definitions
reply_of_20_bytes = refl

-- the reply cut to 21 bytes
pub reply_of_21_bytes : outputs (asking (cut_to 21 replied)) ≡ asking_ends (Talked (BadRecord (Short 20)))
unfolding definitions
reply_of_21_bytes = refl

-- the reply cut to 22 bytes
pub reply_of_22_bytes : outputs (asking (cut_to 22 replied)) ≡ asking_ends (Talked (BadRecord (Short 22)))
unfolding definitions
reply_of_22_bytes = refl

-- the reply cut to 29 bytes
pub reply_of_29_bytes : outputs (asking (cut_to 29 replied)) ≡ asking_ends (Talked (BadRecord (Short 22)))
unfolding definitions
reply_of_29_bytes = refl

-- the reply cut to 30 bytes
pub reply_of_30_bytes : outputs (asking (cut_to 30 replied)) ≡ asking_ends (Talked (BadRecord (Short 30)))
unfolding definitions
reply_of_30_bytes = refl

-- the reply cut to 37 bytes
pub reply_of_37_bytes : outputs (asking (cut_to 37 replied)) ≡ asking_ends (Talked (BadRecord (Short 30)))
unfolding definitions
reply_of_37_bytes = refl

-- the reply cut to 38 bytes
pub reply_of_38_bytes : outputs (asking (cut_to 38 replied)) ≡ asking_ends (Talked (BadRecord (Short 38)))
unfolding definitions
reply_of_38_bytes = refl

-- the reply cut to 45 bytes
pub reply_of_45_bytes : outputs (asking (cut_to 45 replied)) ≡ asking_ends (Talked (BadRecord (Short 38)))
unfolding definitions
reply_of_45_bytes = refl

-- the reply cut to 46 bytes
pub reply_of_46_bytes : outputs (asking (cut_to 46 replied)) ≡ asking_ends (Talked (BadRecord (Short 46)))
unfolding definitions
reply_of_46_bytes = refl

-- the reply cut to 53 bytes
pub reply_of_53_bytes : outputs (asking (cut_to 53 replied)) ≡ asking_ends (Talked (BadRecord (Short 46)))
unfolding definitions
reply_of_53_bytes = refl

-- the reply cut to 54 bytes
pub reply_of_54_bytes : outputs (asking (cut_to 54 replied)) ≡ asking_ends (Talked (BadRecord (Short 54)))
unfolding definitions
reply_of_54_bytes = refl

-- the reply cut to 57 bytes
pub reply_of_57_bytes : outputs (asking (cut_to 57 replied)) ≡ asking_ends (Talked (BadRecord (Short 54)))
unfolding definitions
reply_of_57_bytes = refl

-- the reply cut to 58 bytes
pub reply_of_58_bytes : outputs (asking (cut_to 58 replied)) ≡ asking_ends (Talked (BadRecord (Short 58)))
unfolding definitions
reply_of_58_bytes = refl

-- the reply cut to 61 bytes
pub reply_of_61_bytes : outputs (asking (cut_to 61 replied)) ≡ asking_ends (Talked (BadRecord (Short 58)))
unfolding definitions
reply_of_61_bytes = refl

-- the reply cut to 62 bytes
pub reply_of_62_bytes : outputs (asking (cut_to 62 replied)) ≡ asking_ends (Talked (BadRecord (Short 62)))
unfolding definitions
reply_of_62_bytes = refl

-- the reply cut to 65 bytes
pub reply_of_65_bytes : outputs (asking (cut_to 65 replied)) ≡ asking_ends (Talked (BadRecord (Short 62)))
unfolding definitions
reply_of_65_bytes = refl

-- the reply cut to 66 bytes
pub reply_of_66_bytes : outputs (asking (cut_to 66 replied)) ≡ asking_ends (Talked (BadRecord (Short 66)))
unfolding definitions
reply_of_66_bytes = refl

-- the reply cut to 73 bytes
pub reply_of_73_bytes : outputs (asking (cut_to 73 replied)) ≡ asking_ends (Talked (BadRecord (Short 66)))
unfolding definitions
reply_of_73_bytes = refl

-- the reply cut to 74 bytes
pub reply_of_74_bytes : outputs (asking (cut_to 74 replied)) ≡ asking_ends (Talked (BadRecord (Short 74)))
unfolding definitions
reply_of_74_bytes = refl

-- the reply cut to 77 bytes
pub reply_of_77_bytes : outputs (asking (cut_to 77 replied)) ≡ asking_ends (Talked (BadRecord (Short 74)))
unfolding definitions
reply_of_77_bytes = refl

-- the reply cut to 78 bytes
pub reply_of_78_bytes : outputs (asking (cut_to 78 replied)) ≡ asking_ends (Talked (BadRecord (Short 78)))
unfolding definitions
reply_of_78_bytes = refl

-- the reply cut to 81 bytes
pub reply_of_81_bytes : outputs (asking (cut_to 81 replied)) ≡ asking_ends (Talked (BadRecord (Short 78)))
unfolding definitions
reply_of_81_bytes = refl

-- the reply cut to 82 bytes
pub reply_of_82_bytes : outputs (asking (cut_to 82 replied)) ≡ asking_ends (Talked (BadRecord (Short 82)))
unfolding definitions
reply_of_82_bytes = refl

-- the reply cut to 89 bytes
pub reply_of_89_bytes : outputs (asking (cut_to 89 replied)) ≡ asking_ends (Talked (BadRecord (Short 82)))
unfolding definitions
reply_of_89_bytes = refl

-- the notice cut to 16 bytes
pub notice_of_16_bytes : outputs (hearing (cut_to 16 noticed)) ≡ hearing_ends (Talked (BadNotice (Short 16)))
unfolding definitions
notice_of_16_bytes = refl

-- the notice cut to 19 bytes
pub notice_of_19_bytes : outputs (hearing (cut_to 19 noticed)) ≡ hearing_ends (Talked (BadNotice (Short 16)))
unfolding definitions
notice_of_19_bytes = refl

-- the notice cut to 20 bytes
pub notice_of_20_bytes : outputs (hearing (cut_to 20 noticed)) ≡ hearing_ends (Talked (BadNotice (Short 20)))
unfolding definitions
notice_of_20_bytes = refl

-- the notice cut to 23 bytes
pub notice_of_23_bytes : outputs (hearing (cut_to 23 noticed)) ≡ hearing_ends (Talked (BadNotice (Short 20)))
unfolding definitions
notice_of_23_bytes = refl

-- the notice cut to 24 bytes
pub notice_of_24_bytes : outputs (hearing (cut_to 24 noticed)) ≡ hearing_ends (Talked (BadNotice (Short 24)))
unfolding definitions
notice_of_24_bytes = refl

-- the notice cut to 27 bytes
pub notice_of_27_bytes : outputs (hearing (cut_to 27 noticed)) ≡ hearing_ends (Talked (BadNotice (Short 24)))
unfolding definitions
notice_of_27_bytes = refl

-- the notice cut to 28 bytes
pub notice_of_28_bytes : outputs (hearing (cut_to 28 noticed)) ≡ hearing_ends (Talked (BadNotice (Short 28)))
unfolding definitions
notice_of_28_bytes = refl

-- the notice cut to 29 bytes
pub notice_of_29_bytes : outputs (hearing (cut_to 29 noticed)) ≡ hearing_ends (Talked (BadNotice (Short 28)))
unfolding definitions
notice_of_29_bytes = refl

-- data are kept with seven fields
pub read_keeps : shown (λ v. v.cache.nodes (codes "/a")) (asking reply) ≡ good (Full (Some (codes "hi")) (data_stat_of Sa))
unfolding definitions
read_keeps = refl

-- the path is listed
pub read_lists : shown (λ v. v.lists) (asking reply) ≡ record { data_watches = codes "/a" ∷ []; exist_watches = []; child_watches = [] }
unfolding definitions
read_lists = refl

-- a notice makes the answer stale
pub notice_spoils : shown (λ v. v.cache.nodes (codes "/a"))
    (asking reply_and_notice) ≡ stale (good (Full (Some (codes "hi")) (data_stat_of Sa)))
unfolding definitions
notice_spoils = refl

-- and takes the path out of the list
pub notice_unlists : shown (λ v. v.lists) (asking reply_and_notice) ≡ no_lists
unfolding definitions
notice_unlists = refl

-- a notice leaves the last seen zxid
pub notice_last : shown (λ v. v.saved.last) (asking reply_and_notice) ≡ pos 5
unfolding definitions
notice_last = refl

-- the absence is good after the reconnect
pub absent_keeps : shown (λ v. v.cache.nodes (codes "/b")) over_a_cut ≡ good Absent
unfolding definitions
absent_keeps = refl

-- the last part moves the last seen zxid
pub absent_last : shown (λ v. v.saved.last) over_a_cut ≡ pos 8
unfolding definitions
absent_last = refl

-- and the path is in its list
pub absent_lists : shown (λ v. v.lists) over_a_cut ≡ record { data_watches = []; exist_watches = codes "/b" ∷ []; child_watches = [] }
unfolding definitions
absent_lists = refl

-- the reply moves it
pub two_last : shown (λ v. v.saved.last) two_changes ≡ pos 6
unfolding definitions
two_last = refl

-- names are stale too
pub both_stale : shown (λ v. v.cache.children (codes "/a")) two_deletions
    ≡ stale (good (record { names = set.from_list (codes "x" ∷ []); pzxid = pos 3 }))
unfolding definitions
both_stale = refl

-- nothing is kept
pub unwatched_keeps : shown (λ v. v.cache.nodes (codes "/a"))
    (Opened ∷ Bytes welcome ∷ Call 1 (GetData (codes "/a") false) ∷ Bytes reply ∷ []) ≡ None
unfolding definitions
unwatched_keeps = refl

-- nothing is kept
pub absent_data_keeps : shown (λ v. v.cache.nodes (codes "/b"))
    (Opened ∷ Bytes welcome ∷ Call 1 (GetData (codes "/b") true) ∷ Bytes no_node ∷ [])
    ≡ None
unfolding definitions
absent_data_keeps = refl

-- nothing is kept after an expiry
pub expired_keeps : shown (λ v. v.cache.nodes (codes "/b")) expiring ≡ None
unfolding definitions
expired_keeps = refl

-- the last seen zxid stays
pub expired_last : shown (λ v. v.saved.last) expiring ≡ pos 5
unfolding definitions
expired_last = refl

-- the session is saved
pub session : shown (λ v. v.saved.session.session) (Opened ∷ Bytes welcome ∷ []) ≡ pos 2748
unfolding definitions
session = refl

-- a reply that is dropped keeps nothing
pub behind_keeps : shown (λ v. v.cache.nodes (codes "/a")) falling_behind ≡ None
unfolding definitions
behind_keeps = refl
