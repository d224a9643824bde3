-- What a client keeps, by a look back over all that happened: a past is what happened, the newest first.
use Rattle.std.specs.FinSet as set
use Rattle.zk_watches.specs.Lists.{Lists, without, no_lists}
use Rattle.zk_cache.specs.Kept.{Answer, Absent, Known, Full, Names, same_fields, good, stale, without_stale}
use Rattle.zk_cache.specs.declared.held.Kept.{Kept}
use Rattle.zk_watches.specs.Parts.{parts}
use Rattle.zk_records.specs.Events.{concerns}
use Rattle.zk_conversation.specs.Pending.{Pending, part_waits, call_waits}
use Rattle.zk_conversation.specs.Calls.{Call}
use Rattle.zk_nodes.specs.Path.{Text}
use Rattle.zk_session.specs.SessionView.{Welcome}
use Rattle.std.specs.Prelude.{◌≡◌, ℕ, suc, ℤ, ◌+◌, ◌%◌, max, Bool, true, false, not, ◌&&◌, ◌||◌, List, [], ◌∷◌, ◌++◌, map, reverse, drop}
use Rattle.std.specs.Prelude.{filter, Option, Some, None, is_some, bytes_eq, if◌then◌else◌}
use Rattle.std.specs.Int.{int_max}
use Rattle.zk_nodes.specs.declared.side.Side.{Side}
use Rattle.zk_nodes.specs.declared.side.Side.TheVariants.{Data, Child}
use Rattle.zk_records.specs.declared.event.Event.{Event}
use Rattle.zk_nodes.specs.declared.stat.Stat.{Stat}
use Rattle.zk_nodes.specs.declared.data_stat.DataStat.{DataStat}
use Rattle.zk_nodes.specs.DataStats.{data_stat_of}
use Rattle.zk_conversation.specs.Questions.{Question, Exists, GetData, GetChildren, Close}
use Rattle.zk_conversation.specs.Results.{Result, NoNode, Found, Read, Listing}
use Rattle.zk_turns.specs.Turns.{Outcome, Fault, Start}
use Rattle.zk_session.specs.declared.states.State.{State}
pub use Rattle.zk_session.specs.States.{is_talking, is_open, is_final}
use Rattle.zk_session.specs.declared.states.State.TheVariants.{Idle, Connecting, Connected, Expired, Closed}

-- a payload as it is read
pub data Message : Type 0 where
  Accepted : Welcome → Message
  Expiry Pong Skipped : Message
  -- the reply to a question, with its ticket and the reply's zxid
  Replies : (ticket : ℕ) → Question → ℤ → Result → Message
  -- the reply to a setWatches part
  Watches_set : (last : Bool) → ℤ → Message
  Notifies : Event → Text → Message

pub data Happening : Type 0 where
  -- a connection began or was lost, a ping was sent, stale answers were forgotten, the client halted
  Began Lost Pinged Forgot Halted : Happening
  -- the connection's next byte; a moment
  Came Ticked : ℕ → Happening
  -- the bytes since the last payload were a payload, which was taken
  Took : Message → Happening
  -- the connection was given up
  Dropped : Fault → Happening
  -- a call was sent, or refused
  Asked : (ticket : ℕ) → Call → Happening
  Denied : (ticket : ℕ) → Outcome → Happening

abbrev pub Past : Type 0
Past = List Happening

-- The state

abbrev pub state_of : Past → State
state_of [] = Idle
state_of (Began ∷ past) = Connecting
state_of (Took (Accepted welcome) ∷ past) = Connected
state_of (Took Expiry ∷ past) = Expired
state_of (Took (Replies ticket Close zxid result) ∷ past) = Closed
state_of (Dropped fault ∷ past) = Idle
state_of (Lost ∷ past) = Idle
state_of (_ ∷ past) = state_of past

abbrev pub has_halted : Past → Bool
has_halted [] = false
has_halted (Halted ∷ past) = true
has_halted (_ ∷ past) = has_halted past

-- the session has expired or was closed, or the client has halted
abbrev pub is_over : Past → Bool
is_over past = has_halted past || is_final (state_of past)

-- The session

abbrev pub session_of : Start → Past → Welcome
session_of start [] = record { timeout = start.timeout; session = start.session; password = start.password }
session_of start (Took (Accepted welcome) ∷ past) = welcome
session_of start (_ ∷ past) = session_of start past

-- The last seen zxid: the greatest of the saved one and those of the replies that were taken; of the replies to the parts of a setWatches
-- the last one's counts alone.
abbrev pub last_of : Start → Past → ℤ
last_of start [] = start.last
last_of start (Took (Replies ticket question zxid result) ∷ past) = int_max zxid (last_of start past)
last_of start (Took (Watches_set true zxid) ∷ past) = int_max zxid (last_of start past)
last_of start (_ ∷ past) = last_of start past

-- The moments

abbrev pub now_of : Past → ℕ
now_of [] = 0
now_of (Ticked moment ∷ past) = max moment (now_of past)
now_of (_ ∷ past) = now_of past

-- the moment of the connection's beginning or of its newest byte
abbrev pub heard_of : Past → ℕ
heard_of [] = 0
heard_of (Began ∷ past) = now_of past
heard_of (Came byte ∷ past) = now_of past
heard_of (_ ∷ past) = heard_of past

-- Watched reads

-- the names of the children as a set, with the zxid of its last change
abbrev pub names_of : List Text → Stat → Names
names_of listing stat = record { names = set.from_list listing; pzxid = stat.pzxid }

-- what a reply that leaves a watch says of its path, on the side of the watch
pub record Left (A : Type 0) : Type 0 where
  pub path : Text
  pub says : A

-- exists leaves a data watch in any case, getData where the node is there
abbrev pub leaves_data : Question → Result → Option (Left Answer)
leaves_data (Exists path true) NoNode = Some (record { path = path; says = Absent })
leaves_data (Exists path true) (Found stat) = Some (record { path = path; says = Known (data_stat_of stat) })
leaves_data (GetData path true) (Read bytes stat) = Some (record { path = path; says = Full bytes (data_stat_of stat) })
leaves_data _ _ = None

-- getChildren leaves a child watch where the node is there
abbrev pub leaves_child : Question → Result → Option (Left Names)
leaves_child (GetChildren path true) (Listing listing stat) = Some (record { path = path; says = names_of listing stat })
leaves_child _ _ = None

-- what a happening says of one path on one side
pub data Word (A : Type 0) : Type 0 where
  -- a reply that leaves a watch says this
  Says : A → Word A
  -- a notice ends what was known; nothing is kept any more; it says nothing of that path and side
  Ends Empties Nothing : Word A

abbrev pub if_at : {A : Type 0} → Option (Left A) → Text → Word A
if_at None path = Nothing
if_at (Some left) path = if bytes_eq left.path path then Says left.says else Nothing

abbrev pub reply_word : {A : Type 0} → Question → Option (Left A) → Text → Word A
reply_word Close left path = Empties
reply_word _ left path = if_at left path

-- the word on a side, by what replies leave there
abbrev pub word_on : {A : Type 0} → Side → (Question → Result → Option (Left A)) → Text → Happening → Word A
word_on side leaves path (Took (Replies ticket question zxid result)) = reply_word question (leaves question result) path
word_on side leaves path (Took (Notifies event at)) = if concerns event side && bytes_eq at path then Ends else Nothing
word_on side leaves path (Took Expiry) = Empties
word_on side leaves path Halted = Empties
word_on side leaves path _ = Nothing

abbrev pub word_data : Text → Happening → Word Answer
word_data path happening = word_on Data leaves_data path happening

abbrev pub word_child : Text → Happening → Word Names
word_child path happening = word_on Child leaves_child path happening

-- what the newest reply that leaves a watch said, if since then nothing ended it
abbrev pub still_said : {A : Type 0} → (Happening → Word A) → Past → Option A
still_said word [] = None
still_said word (happening ∷ past) = elim (word happening) [ Says answer ↦ Some answer | Nothing ↦ still_said word past | _ ↦ None ]

-- whether the answer of a side for a path is good
abbrev pub is_good : Side → Text → Past → Bool
is_good Data path past = is_some (still_said (word_data path) past)
is_good Child path past = is_some (still_said (word_child path) past)

-- The cache

abbrev pub data_by : Word Answer → DataStat → Option (Option (List ℕ)) → Option (Option (List ℕ))
data_by (Says (Full bytes others)) fields before = if same_fields others fields then Some bytes else None
data_by (Says (Known others)) fields before = if same_fields others fields then before else None
data_by Nothing fields before = before
data_by _ fields before = None

-- The data that go with these fields: those of the newest getData since the answer last became good, if that and all
-- later replies gave the same seven fields.
abbrev pub data_with : Text → DataStat → Past → Option (Option (List ℕ))
data_with path fields [] = None
data_with path fields (happening ∷ past) = data_by (word_data path happening) fields (data_with path fields past)

-- the answer that is good once a reply has said this
abbrev pub good_answer : Text → Answer → Past → Answer
good_answer path Absent past = Absent
good_answer path (Known fields) past = elim (data_with path fields past) [ None ↦ Known fields | Some bytes ↦ Full bytes fields ]
good_answer path (Full bytes fields) past = Full bytes fields

-- What is kept where a happening says this word: what a reply said, or what was good last, as stale. Only forget_stale takes
-- out stale answers by itself.
abbrev pub kept_by : {A : Type 0} → Word A → (A → A) → Happening → Option (Kept A) → Option (Kept A)
kept_by (Says answer) known happening before = good (known answer)
kept_by Ends known happening before = stale before
kept_by Empties known happening before = None
kept_by Nothing known happening before = elim happening [ Forgot ↦ without_stale before | _ ↦ before ]

abbrev pub kept_data : Text → Past → Option (Kept Answer)
kept_data path [] = None
kept_data path (happening ∷ past) =
    kept_by (word_data path happening) (λ answer. good_answer path answer past) happening (kept_data path past)

abbrev pub kept_names : Text → Past → Option (Kept Names)
kept_names path [] = None
kept_names path (happening ∷ past) = kept_by (word_child path happening) (λ names. names) happening (kept_names path past)

-- The lists

-- which paths are in a list: those whose good answer says that the node is there, that it is absent, or which its children are
abbrev pub in_known : Text → Past → Bool
in_known path past = elim (still_said (word_data path) past) [ Some (Known fields) ↦ true | Some (Full bytes fields) ↦ true | _ ↦ false ]

abbrev pub in_missing : Text → Past → Bool
in_missing path past = elim (still_said (word_data path) past) [ Some Absent ↦ true | _ ↦ false ]

abbrev pub in_parents : Text → Past → Bool
in_parents path past = is_some (still_said (word_child path) past)

-- the path that a question is about
abbrev pub path_of_read : Question → List Text
path_of_read (Exists path watch) = path ∷ []
path_of_read (GetData path watch) = path ∷ []
path_of_read (GetChildren path watch) = path ∷ []
path_of_read _ = []

abbrev pub path_of_reply : Happening → List Text
path_of_reply (Took (Replies ticket question zxid result)) = path_of_read question
path_of_reply _ = []

-- the paths that ever came into a list, by the test of being in it, the newest first
abbrev pub arrivals : (Text → Past → Bool) → Past → List Text
arrivals is_in [] = []
arrivals is_in (happening ∷ past) =
    filter (λ path. is_in path (happening ∷ past) && not (is_in path past)) (path_of_reply happening) ++ arrivals is_in past

-- each path once, where it stands first
abbrev pub firsts : List Text → List Text
firsts [] = []
firsts (path ∷ paths) = path ∷ without (firsts paths) path

-- the paths of a list, in the order in which they last came into it
abbrev pub listed : (Text → Past → Bool) → Past → List Text
listed is_in past = reverse (filter (λ path. is_in path past) (firsts (arrivals is_in past)))

abbrev pub lists_of : Past → Lists
lists_of past =
    record { data_watches = listed in_known past; exist_watches = listed in_missing past; child_watches = listed in_parents past }

pub record KeepsNothing (past : Past) : Type 0 where
  pub nodes : (path : Text) → kept_data path past ≡ None
  pub children : (path : Text) → kept_names path past ≡ None
  pub lists : lists_of past ≡ no_lists

-- The questions of a connection

-- What was asked on a connection: a part of setWatches, or a call, with its xid and the caller's ticket.
pub data Asking : Type 0 where
  For_part : (last : Bool) → Asking
  For_call : (xid ticket : ℕ) → Call → Asking

-- what of it is kept while the reply is awaited
abbrev pub pending_for : Asking → Pending
pending_for (For_part last) = part_waits last
pending_for (For_call xid ticket call) = call_waits xid ticket call

abbrev pub parts_asked : List Lists → List Asking
parts_asked [] = []
parts_asked (part ∷ []) = For_part true ∷ []
parts_asked (part ∷ next ∷ more) = For_part false ∷ parts_asked (next ∷ more)

-- how many calls were sent, over all connections
abbrev pub calls_sent : Past → ℕ
calls_sent [] = 0
calls_sent (Asked ticket call ∷ past) = suc (calls_sent past)
calls_sent (_ ∷ past) = calls_sent past

-- xids run from 1 to 2,147,483,647, and from 1 again
abbrev pub xid_of : Past → ℕ
xid_of past = calls_sent past % 2147483647 + 1

-- what was asked on the newest connection, in order
abbrev pub questions : Past → List Asking
questions [] = []
questions (Began ∷ past) = []
questions (Took (Accepted welcome) ∷ past) = parts_asked (parts (lists_of past))
questions (Asked ticket call ∷ past) = questions past ++ For_call (xid_of past) ticket call ∷ []
questions (_ ∷ past) = questions past

-- how many of them have their reply
abbrev pub answered : Past → ℕ
answered [] = 0
answered (Began ∷ past) = 0
answered (Took (Accepted welcome) ∷ past) = 0
answered (Took (Replies ticket question zxid result) ∷ past) = suc (answered past)
answered (Took (Watches_set last zxid) ∷ past) = suc (answered past)
answered (_ ∷ past) = answered past

-- What awaits its reply, the oldest first: each reply answers the first. Where nobody talks there is none.
abbrev pub awaited : Past → List Asking
awaited past = if is_talking (state_of past) then drop (answered past) (questions past) else []

abbrev pub pending_of : Past → List Pending
pending_of past = map pending_for (awaited past)

-- the moment of the newest frame that was sent
abbrev pub sent_of : Past → ℕ
sent_of [] = 0
sent_of (Began ∷ past) = now_of past
sent_of (Asked ticket call ∷ past) = now_of past
sent_of (Pinged ∷ past) = now_of past
sent_of (Took (Accepted welcome) ∷ past) = elim (parts (lists_of past)) [ [] ↦ sent_of past | _ ↦ now_of past ]
sent_of (_ ∷ past) = sent_of past

-- the bytes of the newest connection since its last payload
abbrev pub held_of : Past → List ℕ
held_of [] = []
held_of (Began ∷ past) = []
held_of (Came byte ∷ past) = held_of past ++ byte ∷ []
held_of (Took message ∷ past) = []
held_of (Dropped fault ∷ past) = []
held_of (Lost ∷ past) = []
held_of (_ ∷ past) = held_of past
