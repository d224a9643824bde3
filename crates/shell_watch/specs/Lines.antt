-- What a watch prints, word by word.
use Rattle.std.specs.Prelude.{◌≡◌, ◌==◌, ◌/◌, ◌%◌, ◌&&◌, not, nat_lt, chars, map, ℕ, ℤ, pos, negsuc, Bool, true, false}
use Rattle.std.specs.Prelude.{if◌then◌else◌, List, [], ◌∷◌, ◌++◌, codes, Option, Some, None}
use Rattle.std.specs.Fmt.{decimal, signed_decimal}
use Rattle.std.specs.FinSet as set
use Rattle.std.specs.List.{find, list_any}
use Rattle.std.specs.Str.{is_utf8}
use Rattle.json.specs.Print.{print}
use Rattle.json.specs.Token as json
use Rattle.zk_nodes.specs.Path.{Text}
use Rattle.zk_nodes.specs.declared.data_stat.DataStat.{DataStat}
use Rattle.zk_nodes.specs.declared.side.Side.{Side}
use Rattle.zk_nodes.specs.declared.side.Side.TheVariants.{Data, Child}
use Rattle.zk_session.specs.declared.states.State.{State}
use Rattle.zk_session.specs.declared.states.State.TheVariants.{Connected}
use Rattle.zk_turns.specs.Turns.{Fault, Enters, Drop}
use Rattle.zk_cache.specs.Kept.{Answer, Absent, Known, Full, Names}
use Rattle.zk_cache.specs.declared.held.Kept.{Kept}
use Rattle.zk_cache.specs.declared.held.Mark.{Mark}
use Rattle.zk_turns.specs.View.{View}
use Rattle.zk_client.specs.FaultText.{fault_code, fault_words}
use Rattle.zk_follow.specs.declared.news.News.TheVariants as news
use Rattle.zk_follow.specs.declared.progress.Refusal.{Refusal}
use Rattle.zk_follow.specs.declared.progress.Refusal.TheVariants.{Code, TooManyWatches, TooLarge, SessionClosed}
use Rattle.zk_follow.specs.Following.{is_kept, says_none}
use Rattle.zk_agent.specs.Telling.{Told, Says, Tells, Begins, action_view}
use Rattle.zk_driver.specs.declared.reason.Reason.{Reason}
use Rattle.zk_driver.specs.declared.reason.Reason.TheVariants as reason
use Rattle.zk_driver.specs.declared.turn.Turn.{Turn}
use Rattle.zk_driver.specs.declared.turn.Turn.TheVariants as turn
use Rattle.script_words.specs.Values.{spaced, stat_words, AreNames}
use Rattle.script_words.specs.Words.{bytes_word, text_word}
use Rattle.shell_words.specs.Objects.{data_members, field_members, number_members, text_members}
use Rattle.shell_words.specs.Texts.{is_hidden}
use Rattle.script_replay.specs.ClientLines.{PeekLine}
use Rattle.script_replay.specs.Played.{DoesClient}
use Rattle.script_replay.specs.Shown.{drop_words, mark_word, state_word}
use Rattle.shell_watch.specs.declared.plan.Style.{Style}
use Rattle.shell_watch.specs.declared.plan.Style.TheVariants as style_is
use Rattle.shell_watch.specs.declared.shown.Watched.{Watched}

-- ---- a line

-- seconds, and milliseconds after a dot
abbrev pub zeros_before : ℕ → List ℕ
zeros_before ms = if nat_lt ms 10 then codes "00" else if nat_lt ms 100 then codes "0" else []

abbrev pub stamp_of : ℕ → List ℕ
stamp_of ms = decimal (ms / 1000) ++ (codes "." ++ (zeros_before (ms % 1000) ++ decimal (ms % 1000)))

-- the moment and the words, and nothing if there are no words
abbrev pub line_of : (stamp words : List ℕ) → List ℕ
line_of stamp [] = []
line_of stamp words = stamp ++ 32 ∷ (words ++ 10 ∷ [])

-- ---- what is kept of a subject

abbrev pub none_words : Side → List ℕ
none_words Data = codes "data none"
none_words Child = codes "names none"

-- What is kept of a subject: that there is no node, if that is good; else what a look-up prints.
abbrev pub LooksWhere : (is_missing : Bool) → Side → Text → View → List ℕ → Type 0
LooksWhere true side path view words = words ≡ codes "does not exist"
LooksWhere false side path view words = DoesClient (PeekLine side path) view view (words ++ 10 ∷ [])

abbrev pub Looks : Side → Text → View → List ℕ → Type 0
Looks side path view words = LooksWhere (is_kept says_none (view.cache.nodes path)) side path view words

-- ---- data as text

-- UTF-8 with no character that is hidden
abbrev pub is_text : List ℕ → Bool
is_text bytes = is_utf8 bytes && not (list_any is_hidden (chars bytes))

-- a text in quotes, with the escapes of JSON
abbrev pub quoted_word : List ℕ → List ℕ
quoted_word text = print (json.string text ∷ [])

-- data in quotes if they are text, and else in hex
abbrev pub data_word : Option (List ℕ) → List ℕ
data_word None = bytes_word None
data_word (Some bytes) = if is_text bytes then quoted_word bytes else bytes_word (Some bytes)

-- the words of a look-up, and those of data that are kept whole, with the data as text
abbrev pub words_by : Answer → Mark → (words : List ℕ) → List ℕ
words_by (Full bytes stat) mark words = codes "data full " ++ (data_word bytes ++ (stat_words stat ++ spaced (mark_word mark)))
words_by answer mark words = words

abbrev pub text_words : Option (Kept Answer) → (words : List ℕ) → List ℕ
text_words None words = words
text_words (Some kept) words = words_by kept.answer kept.mark words

-- the words of a look-up in a style
abbrev pub words_in : Style → Side → Option (Kept Answer) → (words : List ℕ) → List ℕ
words_in style_is.Text Data kept words = text_words kept words
words_in style side kept words = words

-- the path, what is kept, and the last seen zxid
abbrev pub subject_words : Text → List ℕ → ℤ → List ℕ
subject_words path words zxid = text_word (Some path) ++ (spaced words ++ (codes " last" ++ spaced (signed_decimal zxid)))

-- the line of words of a subject of which a look-up has these words
abbrev pub subject_line : Style → (ms : ℕ) → Side → Text → View → (words : List ℕ) → List ℕ
subject_line style ms side path view words =
    line_of (stamp_of ms) (subject_words path (words_in style side (view.cache.nodes path) words) view.saved.last)

-- ---- a line of JSON

-- the object with these members
abbrev pub object_tokens : List json.Token → List json.Token
object_tokens members = json.begin_object ∷ (members ++ json.end_object ∷ [])

-- an object of this kind, of a moment in milliseconds, with these members too; and nothing if there is no kind
abbrev pub object_line : (ms : ℕ) → (kind : List ℕ) → List json.Token → List ℕ
object_line ms [] members = []
object_line ms kind members =
    print (object_tokens (text_members (codes "kind") kind ++ (number_members (codes "ms") (pos ms) ++ members))) ++ 10 ∷ []

-- ---- what is kept of a subject, as JSON

-- which side of a path is watched
abbrev pub side_name : Side → List ℕ
side_name Data = codes "data"
side_name Child = codes "names"

-- the seven fields by ZooKeeper's names
abbrev pub fields : DataStat → List (List ℕ × ℤ)
fields s =
    (codes "czxid", s.czxid)
    ∷ ((codes "mzxid", s.mzxid) ∷ ((codes "ctime", s.ctime) ∷ ((codes "mtime", s.mtime) ∷ ((codes "version", s.version)
    ∷ ((codes "ephemeralOwner", s.ephemeral_owner) ∷ ((codes "dataLength", s.data_length) ∷ []))))))

abbrev pub stat_members : DataStat → List json.Token
stat_members stat = field_members (fields stat)

-- what an answer about a node itself says: that there is none, its fields, or its data too
abbrev pub answer_kind : Answer → List ℕ
answer_kind Absent = codes "absent"
answer_kind (Known stat) = codes "known"
answer_kind (Full bytes stat) = codes "data"

abbrev pub answer_members : Answer → List json.Token
answer_members Absent = []
answer_members (Known stat) = stat_members stat
answer_members (Full bytes stat) = data_members bytes ++ stat_members stat

abbrev pub mark_members : Mark → List json.Token
mark_members mark = text_members (codes "mark") (mark_word mark)

-- what is kept of a node itself
abbrev pub node_kind : Option (Kept Answer) → List ℕ
node_kind None = codes "none"
node_kind (Some kept) = answer_kind kept.answer

abbrev pub node_members : Option (Kept Answer) → List json.Token
node_members None = []
node_members (Some kept) = answer_members kept.answer ++ mark_members kept.mark

-- what is kept of the names below it: an array of them
abbrev pub names_kind : Option (Kept Names) → List ℕ
names_kind None = codes "none"
names_kind (Some kept) = codes "names"

abbrev pub array_members : (name : List ℕ) → List Text → List json.Token
array_members name texts = json.key name ∷ (json.begin_array ∷ (map json.string texts ++ json.end_array ∷ []))

-- The members of names: each once, in the order of their bytes.
abbrev pub AreNamesMembers : Option (Kept Names) → List json.Token → Type 0
AreNamesMembers None members = members ≡ []
AreNamesMembers (Some kept) members =
    (each : List Text) × AreNames each (set.contains kept.answer.names)
    × (members ≡ array_members (codes "names") each ++ (number_members (codes "pzxid") kept.answer.pzxid ++ mark_members kept.mark))

-- What is kept of a subject: that there is no node, if that is good; else what is kept of its side.
abbrev pub kind_where : (is_missing : Bool) → Side → Text → View → List ℕ
kind_where false Child path view = names_kind (view.cache.children path)
kind_where is_missing side path view = node_kind (view.cache.nodes path)

abbrev pub AreMembersWhere : (is_missing : Bool) → Side → Text → View → List json.Token → Type 0
AreMembersWhere false Child path view members = AreNamesMembers (view.cache.children path) members
AreMembersWhere is_missing side path view members = members ≡ node_members (view.cache.nodes path)

abbrev pub kind_of : Side → Text → View → List ℕ
kind_of side path view = kind_where (is_kept says_none (view.cache.nodes path)) side path view

abbrev pub AreMembers : Side → Text → View → List json.Token → Type 0
AreMembers side path view members = AreMembersWhere (is_kept says_none (view.cache.nodes path)) side path view members

-- the path, the side, what is kept, and the last seen zxid
abbrev pub subject_members : Side → Text → (kept : List json.Token) → (zxid : ℤ) → List json.Token
subject_members side path kept zxid =
    text_members (codes "path") path ++ (text_members (codes "side") (side_name side) ++ (kept ++ number_members (codes "last") zxid))

-- The object of a subject.
abbrev pub IsSubjectObject : (ms : ℕ) → Side → Text → View → List ℕ → Type 0
IsSubjectObject ms side path view text =
    (kept : List json.Token) × AreMembers side path view kept
    × (text ≡ object_line ms (kind_of side path view) (subject_members side path kept view.saved.last))

-- ---- the line of a subject, in each style

-- The line of a subject of which a look-up has these words.
abbrev pub IsSubjectLine : Style → (ms : ℕ) → Side → Text → View → (words text : List ℕ) → Type 0
IsSubjectLine style_is.Json ms side path view words text = IsSubjectObject ms side path view text
IsSubjectLine style ms side path view words text = text ≡ subject_line style ms side path view words

-- ---- what a driver tells

abbrev pub reason_words : Reason → List ℕ
reason_words reason.EndOfStream = codes "end of stream"
reason_words reason.Refused = codes "connection refused"
reason_words reason.TimedOut = codes "timed out"
reason_words reason.Reset = codes "connection reset"
reason_words reason.Unreachable = codes "unreachable"
reason_words reason.NotFound = codes "host not found"
reason_words reason.Unwritten = codes "a write failed"
reason_words reason.Other = codes "another fault"

-- negsuc n is -(n + 1)
abbrev pub code_words : ℤ → List ℕ
code_words (pos n) = codes "the server refuses it"
code_words (negsuc n) =
    if n == 3 then codes "the server has lost its connection"
    else if n == 101 then codes "the ACL does not admit it"
    else if n == 111 then codes "the session is over"
    else if n == 117 then codes "the session was taken up over another connection"
    else if n == 126 then codes "the server throttles"
    else codes "the server refuses it"

abbrev pub why_text : Refusal → List ℕ
why_text (Code code) = codes " refused code" ++ (spaced (signed_decimal code) ++ spaced (code_words code))
why_text TooManyWatches = codes " refused K5 too many paths are watched"
why_text TooLarge = codes " refused K6 the answer is too long"
why_text SessionClosed = codes " refused K3 the session is being closed"

-- the path of the subject that has a ticket
abbrev pub path_in : {A : Type 0} → Option (Watched A) → Text
path_in None = []
path_in (Some one) = one.subject.path

abbrev pub path_of : {A : Type 0} → List (Watched A) → (ticket : ℕ) → Text
path_of watched ticket = path_in (find (λ one. one.ticket == ticket) watched)

-- whether a subject has it
abbrev pub has_ticket : {A : Type 0} → (ticket : ℕ) → List (Watched A) → Bool
has_ticket ticket watched = list_any (λ one. one.ticket == ticket) watched

abbrev pub refusal_words : Text → Refusal → List ℕ
refusal_words path why = text_word (Some path) ++ why_text why

-- Whether it is printed that a read was refused: of a subject that is watched, unless the watch itself is ending the session.
abbrev pub shows_refusal : {A : Type 0} → (ticket : ℕ) → List (Watched A) → Refusal → Bool
shows_refusal ticket watched SessionClosed = false
shows_refusal ticket watched why = has_ticket ticket watched

abbrev pub refused_words : {A : Type 0} → List (Watched A) → (ticket : ℕ) → Refusal → List ℕ
refused_words watched ticket why = if shows_refusal ticket watched why then refusal_words (path_of watched ticket) why else []

-- the address, the session's number, and the timeout that was granted
abbrev pub connected_words : (at : Text) → View → List ℕ
connected_words at view =
    codes "state Connected" ++ (spaced at ++ (codes " session" ++ (spaced (signed_decimal view.saved.session.session)
    ++ (codes " timeout" ++ spaced (decimal view.saved.session.timeout)))))

abbrev pub state_words : (at : Text) → View → State → List ℕ
state_words at view Connected = connected_words at view
state_words at view state = codes "state" ++ spaced (state_word state)

-- the code of the fault and its values, the address, and the words of the fault
abbrev pub drop_text : (at : Text) → Fault → List ℕ
drop_text at fault = codes "drop" ++ (drop_words fault ++ (spaced at ++ spaced (fault_words fault)))

-- Of what the agent tells: each state, each connection that is given up, each session that begins after another, and each refusal of a
-- subject that is watched. That a subject is good, and reports, are seen by what is kept; the answer to the call that ends the session is
-- its state; and what is told of trees is seen by what is watched.
abbrev pub action_words : {A : Type 0} → List (Watched A) → (at : Text) → View → Told → List ℕ
action_words watched at view (Says (Enters state)) = state_words at view state
action_words watched at view (Says (Drop fault)) = drop_text at fault
action_words watched at view Begins = codes "session new"
action_words watched at view (Tells ticket (news.Refused why)) = refused_words watched ticket why
action_words watched at view told = []

-- Of a turn: what the agent tells; each address that is dialled, each that could not be, and each connection that has ended, with the
-- reason.
abbrev pub turn_words : {A : Type 0} → List (Watched A) → (at : Text) → View → Turn A → List ℕ
turn_words watched at view (turn.Told action) = action_words watched at view (action_view action)
turn_words watched at view turn.Dials = codes "dial" ++ spaced at
turn_words watched at view (turn.Failed why) = codes "failed" ++ (spaced at ++ spaced (reason_words why))
turn_words watched at view (turn.Ended why) = codes "ended" ++ (spaced at ++ spaced (reason_words why))
turn_words watched at view turn = []

-- ---- what a driver tells, as JSON

-- what a line tells of what the agent tells, and nothing if it is not printed
abbrev pub refused_kind : {A : Type 0} → (ticket : ℕ) → List (Watched A) → Refusal → List ℕ
refused_kind ticket watched why = if shows_refusal ticket watched why then codes "refused" else []

abbrev pub action_kind : {A : Type 0} → List (Watched A) → Told → List ℕ
action_kind watched (Says (Enters state)) = codes "state"
action_kind watched (Says (Drop fault)) = codes "drop"
action_kind watched Begins = codes "renewed"
action_kind watched (Tells ticket (news.Refused why)) = refused_kind ticket watched why
action_kind watched told = []

abbrev pub turn_kind : {A : Type 0} → List (Watched A) → Turn A → List ℕ
turn_kind watched (turn.Told action) = action_kind watched (action_view action)
turn_kind watched turn.Dials = codes "dial"
turn_kind watched (turn.Failed why) = codes "failed"
turn_kind watched (turn.Ended why) = codes "ended"
turn_kind watched turn = []

abbrev pub address_members : (at : Text) → List json.Token
address_members at = text_members (codes "address") at

abbrev pub reason_members : (why : List ℕ) → List json.Token
reason_members why = text_members (codes "reason") why

-- a fault of the client's own: its code, and why in words
abbrev pub fault_members : (code why : List ℕ) → List json.Token
fault_members code why = text_members (codes "fault") code ++ reason_members why

-- why a read was refused: a server's code, or the client's own
abbrev pub code_members : ℤ → List json.Token
code_members code = number_members (codes "code") code ++ reason_members (code_words code)

abbrev pub why_members : Refusal → List json.Token
why_members (Code code) = code_members code
why_members TooManyWatches = fault_members (codes "K5") (codes "too many paths are watched")
why_members TooLarge = fault_members (codes "K6") (codes "the answer is too long")
why_members SessionClosed = fault_members (codes "K3") (codes "the session is being closed")

-- the session's number, and the timeout that was granted
abbrev pub session_members : View → List json.Token
session_members view = number_members (codes "session") view.saved.session.session
    ++ number_members (codes "timeout") (pos view.saved.session.timeout)

abbrev pub state_members : (at : Text) → View → State → List json.Token
state_members at view Connected = text_members (codes "state") (state_word Connected) ++ (address_members at ++ session_members view)
state_members at view state = text_members (codes "state") (state_word state)

abbrev pub action_members : {A : Type 0} → List (Watched A) → (at : Text) → View → Told → List json.Token
action_members watched at view (Says (Enters state)) = state_members at view state
action_members watched at view (Says (Drop fault)) = address_members at ++ fault_members (fault_code fault) (fault_words fault)
action_members watched at view (Tells ticket (news.Refused why)) = text_members (codes "path") (path_of watched ticket) ++ why_members why
action_members watched at view told = []

abbrev pub turn_members : {A : Type 0} → List (Watched A) → (at : Text) → View → Turn A → List json.Token
turn_members watched at view (turn.Told action) = action_members watched at view (action_view action)
turn_members watched at view turn.Dials = address_members at
turn_members watched at view (turn.Failed why) = address_members at ++ reason_members (reason_words why)
turn_members watched at view (turn.Ended why) = address_members at ++ reason_members (reason_words why)
turn_members watched at view turn = []

-- ---- the line of a turn, in each style

abbrev pub turn_line : {A : Type 0} → Style → (ms : ℕ) → List (Watched A) → (at : Text) → View → Turn A → List ℕ
turn_line style_is.Json ms watched at view turn = object_line ms (turn_kind watched turn) (turn_members watched at view turn)
turn_line style ms watched at view turn = line_of (stamp_of ms) (turn_words watched at view turn)
