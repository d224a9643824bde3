-- What a client says and keeps, as printed lines.
use Rattle.std.specs.Prelude.{◌≡◌, ℕ, ℤ, negsuc, List, [], ◌∷◌, ◌++◌, length, codes, Option, Some, None}
use Rattle.std.specs.Fmt.{decimal, signed_decimal}
use Rattle.std.specs.FinSet as set
use Rattle.zk_nodes.specs.Path.{Text}
use Rattle.zk_nodes.specs.DataStats.{data_stat_of}
use Rattle.zk_nodes.specs.Names.{Names as NameSet}
use Rattle.zk_nodes.specs.declared.side.Side.{Side}
use Rattle.zk_nodes.specs.declared.side.Side.TheVariants.{Data, Child}
use Rattle.zk_nodes.specs.declared.stat.Stat.{Stat}
use Rattle.zk_records.specs.declared.event.Event.{Event}
use Rattle.zk_records.specs.declared.event.Event.TheVariants.{Created, Deleted, DataChanged, ChildrenChanged}
use Rattle.zk_conversation.specs.Results.{Result, NoNode, Refused, Found, Read, Listing, Made, Done, Brought}
use Rattle.zk_session.specs.declared.states.State.{State}
use Rattle.zk_session.specs.declared.states.State.TheVariants.{Idle, Connecting, Connected, Expired, Closed}
use Rattle.zk_cache.specs.Kept.{Answer, Absent, Known, Full, Names}
use Rattle.zk_cache.specs.declared.held.Kept.{Kept}
use Rattle.zk_cache.specs.declared.held.Mark.{Mark}
use Rattle.zk_cache.specs.declared.held.Mark.TheVariants.{Good, Stale}
use Rattle.zk_turns.specs.Turns.{Outcome, Replied, Fault, Output, Send, Answer as Answers, Report, Enters, Drop}
use Rattle.zk_client.specs.FaultText.{fault_code, outcome_code}
use Rattle.script_words.specs.Values.{AreNames, front_words, spaced, stat_words, names_text}
use Rattle.script_words.specs.Lines.{line, TellsInOrder}
use Rattle.script_words.specs.Words.{bytes_word, text_word}
use Rattle.script_replay.specs.FaultTexts.{fault_values}

-- the six numbers of a Stat after the first five, in wire order
unfoldable pub back_words : Stat → List ℕ
back_words s =
    spaced (signed_decimal s.cversion) ++ (spaced (signed_decimal s.aversion) ++ (spaced (signed_decimal s.ephemeral_owner)
    ++ (spaced (signed_decimal s.data_length) ++ (spaced (signed_decimal s.num_children) ++ spaced (signed_decimal s.pzxid)))))

-- the eleven numbers of a Stat, a space before each
unfoldable pub full_words : Stat → List ℕ
full_words s = front_words (data_stat_of s) ++ back_words s

-- how many names there are, and each of them
abbrev pub names_words : List Text → List ℕ
names_words names = codes "names" ++ (spaced (decimal (length names)) ++ names_text names)

-- What is printed of a set of names: each once, in the order of their bytes.
pub record TellsSet (names : NameSet) (text : List ℕ) : Type 0 where
  pub each : List Text
  pub are : AreNames each (set.contains names)
  pub printed : text ≡ names_words each

abbrev pub code_text : ℤ → List ℕ
code_text code = codes "code" ++ spaced (signed_decimal code)

-- what is printed of a result that is no list of names
abbrev pub plain_text : Result → List ℕ
plain_text NoNode = code_text (negsuc 100)
plain_text (Refused code) = code_text code
plain_text (Found stat) = codes "stat" ++ full_words stat
plain_text (Read bytes stat) = codes "data " ++ (bytes_word bytes ++ full_words stat)
plain_text (Listing names stat) = []
plain_text (Made path) = codes "created" ++ spaced (text_word (Some path))
plain_text Done = codes "done"
plain_text (Brought bytes) = codes "raw " ++ bytes_word (Some bytes)

-- What is printed of a result.
abbrev pub TellsResult : Result → List ℕ → Type 0
TellsResult (Listing names stat) text = (told : List ℕ) × TellsSet (set.from_list names) told × (text ≡ told ++ full_words stat)
TellsResult result text = text ≡ plain_text result

-- what is printed where there is no reply: why, by its code
abbrev pub coded : Option (List ℕ) → List ℕ
coded None = []
coded (Some code) = codes "-" ++ spaced code

abbrev pub reason_text : Outcome → List ℕ
reason_text outcome = coded (outcome_code outcome)

-- What is printed of what a call is answered: the reply's zxid and its result, or why there is none.
abbrev pub TellsOutcome : Outcome → List ℕ → Type 0
TellsOutcome (Replied zxid result) text = (told : List ℕ) × TellsResult result told × (text ≡ signed_decimal zxid ++ 32 ∷ told)
TellsOutcome outcome text = text ≡ reason_text outcome

-- why a connection is given up, with a space before it: the code of the fault, and its values
abbrev pub drop_words : Fault → List ℕ
drop_words fault = spaced (fault_code fault) ++ fault_values fault

abbrev pub side_word : Side → List ℕ
side_word Data = codes "data"
side_word Child = codes "child"

abbrev pub event_word : Event → List ℕ
event_word Created = codes "Created"
event_word Deleted = codes "Deleted"
event_word DataChanged = codes "DataChanged"
event_word ChildrenChanged = codes "ChildrenChanged"

abbrev pub state_word : State → List ℕ
state_word Idle = codes "Idle"
state_word Connecting = codes "Connecting"
state_word Connected = codes "Connected"
state_word Expired = codes "Expired"
state_word Closed = codes "Closed"

-- the line of an output that is no answer
abbrev pub plain_line : Output → List ℕ
plain_line (Send bytes) = line (codes "send") (bytes_word (Some bytes))
plain_line (Answers ticket outcome) = []
plain_line (Report path side event) =
    codes "report" ++ (spaced (side_word side) ++ (spaced (event_word event) ++ (spaced (text_word (Some path)) ++ 10 ∷ [])))
plain_line (Enters state) = line (codes "state") (state_word state)
plain_line (Drop fault) = codes "drop" ++ (drop_words fault ++ 10 ∷ [])

-- What is printed of an output: one line.
abbrev pub TellsOutput : Output → List ℕ → Type 0
TellsOutput (Answers ticket outcome) text =
    (told : List ℕ) × TellsOutcome outcome told × (text ≡ codes "answer" ++ (spaced (decimal ticket) ++ (codes " " ++ (told ++ 10 ∷ []))))
TellsOutput output text = text ≡ plain_line output

-- What is printed of outputs: a line each, in order.
abbrev pub TellsAll : List Output → List ℕ → Type 0
TellsAll outputs text = TellsInOrder TellsOutput outputs text

-- Look-ups

abbrev pub mark_word : Mark → List ℕ
mark_word Good = codes "good"
mark_word Stale = codes "stale"

abbrev pub answer_text : Answer → List ℕ
answer_text Absent = codes "data absent"
answer_text (Known stat) = codes "data known" ++ stat_words stat
answer_text (Full bytes stat) = codes "data full " ++ (bytes_word bytes ++ stat_words stat)

-- what is printed of what is kept about the data of a path
abbrev pub kept_line : Option (Kept Answer) → List ℕ
kept_line None = codes "data none\n"
kept_line (Some kept) = answer_text kept.answer ++ (spaced (mark_word kept.mark) ++ 10 ∷ [])

-- What is printed of what is kept about the names below a path.
abbrev pub TellsKept : Option (Kept Names) → List ℕ → Type 0
TellsKept None text = text ≡ codes "names none\n"
TellsKept (Some kept) text =
    (told : List ℕ) × TellsSet kept.answer.names told
    × (text ≡ told ++ (spaced (signed_decimal kept.answer.pzxid) ++ (spaced (mark_word kept.mark) ++ 10 ∷ [])))

abbrev pub last_line : ℤ → List ℕ
last_line zxid = codes "last" ++ (spaced (signed_decimal zxid) ++ 10 ∷ [])

abbrev pub saved_line : (session : ℤ) (password : List ℕ) (last : ℤ) → List ℕ
saved_line session password last =
    codes "saved" ++ (spaced (signed_decimal session) ++ (spaced (bytes_word (Some password)) ++ (spaced (signed_decimal last) ++ 10 ∷ [])))
