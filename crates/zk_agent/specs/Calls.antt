-- What becomes of the calls of a program.
use Rattle.std.specs.Prelude.{◌≡◌, ◌≢◌, ◌≤◌, ◌⊎◌, ◌&&◌, ◌==◌, not, ℕ, Bool, true, false, List, [], ◌∷◌, ◌++◌, fold, map, bytes_eq}
use Rattle.std.specs.Prelude.{if◌then◌else◌}
use Rattle.std.specs.List.{count_by, list_any}
use Rattle.zk_session.specs.declared.states.State.TheVariants.{Connected}
use Rattle.zk_conversation.specs.Pending.{Pending, Part_waits, Call_waits, calls_pending}
use Rattle.zk_conversation.specs.Questions.{question_of, Question, Exists, GetData, GetChildren, SetData, Create, Delete, Close, Raw}
use Rattle.zk_conversation.specs.Views.{call_view}
use Rattle.zk_turns.specs.Turns.{Outcome, Output, Answer, Enters, Input}
use Rattle.zk_turns.specs.Turns as turns
use Rattle.zk_turns.specs.View.{View}
use Rattle.zk_limits.specs.declared.limits.TheConstants.{MOST_PENDING}
use Rattle.zk_calls.specs.declared.entry.Entry.{Entry}
use Rattle.zk_calls.specs.declared.entry.Ending.{Ending}
use Rattle.zk_calls.specs.declared.entry.Ending.TheVariants.{Lost, LostOf}
use Rattle.zk_calls.specs.Lines.{answered, ended, ended_of, first_handed, has_come, left, settles}
use Rattle.zk_agent.specs.Telling.{Told, Says, closed_told, ended_told}

-- ---- what the client says of them

-- What an output makes of the line: an answer is to the first call of its ticket that was handed over, which is settled or waits for its
-- turn again. With another state no call that was handed over waits any more: the client has answered each before. No two calls have one
-- ticket, and if two have, what cannot be told apart is lost.
abbrev pub hears : {A : Type 0} → List (Entry A) → Output → List (Entry A)
hears entries (Answer ticket outcome) = left (LostOf ticket) (answered ticket outcome entries)
hears entries (Enters state) = left Lost entries
hears entries _ = entries

-- what outputs make of it, in order
abbrev pub hears_all : {A : Type 0} → List (Entry A) → List Output → List (Entry A)
hears_all entries outputs = fold hears entries outputs

-- what is told of calls that wait no more, in the order of asking
abbrev pub endings : {A : Type 0} → Ending → List (Entry A) → List Told
endings ending entries = map (ended_told ending) (map ended_of (ended ending entries))

-- what is told of calls that wait after a close, in the order of asking: what the client itself answers a call then
abbrev pub closings : {A : Type 0} → List (Entry A) → List Told
closings entries = map closed_told (map ended_of entries)

-- the answer, if it settles a call of the program
abbrev pub answers : {A : Type 0} → (ticket : ℕ) → Outcome → List (Entry A) → List Told
answers ticket outcome entries = if settles ticket outcome entries then Says (Answer ticket outcome) ∷ [] else []

-- What a program is told of an output: all that the client says, but of the answers those alone that settle a call of the program. The
-- others answer reads of subjects, calls that have timed out, and calls that wait for their turn again.
abbrev pub tells : {A : Type 0} → List (Entry A) → Output → List Told
tells entries (Answer ticket outcome) = answers ticket outcome entries ++ endings (LostOf ticket) (answered ticket outcome entries)
tells entries (Enters state) = endings Lost entries ++ Says (Enters state) ∷ []
tells entries output = Says output ∷ []

abbrev pub tells_all : {A : Type 0} → List (Entry A) → List Output → List Told
tells_all entries [] = []
tells_all entries (output ∷ outputs) = tells entries output ++ tells_all (hears entries output) outputs

-- the line once the client takes an input: a call that is handed over is the one whose turn it is
abbrev pub handed : {A : Type 0} → Input → List (Entry A) → List (Entry A)
handed (turns.Call ticket asked) entries = first_handed entries
handed input entries = entries

-- ---- where a call waits

abbrev pub is_same : (b other : Bool) → Bool
is_same true other = other
is_same false other = not other

abbrev pub is_question : (question other : Question) → Bool
is_question (Exists path watch) (Exists other its) = bytes_eq path other && is_same watch its
is_question (GetData path watch) (GetData other its) = bytes_eq path other && is_same watch its
is_question (GetChildren path watch) (GetChildren other its) = bytes_eq path other && is_same watch its
is_question (SetData path) (SetData other) = bytes_eq path other
is_question (Create path) (Create other) = bytes_eq path other
is_question (Delete path) (Delete other) = bytes_eq path other
is_question Close Close = true
is_question Raw Raw = true
is_question question other = false

-- whether what waits for its reply is this call, by its ticket and its question
abbrev pub is_call_of : {A : Type 0} → Entry A → Pending → Bool
is_call_of entry pending = elim pending.waiting [
  | Part_waits last ↦ false
  | Call_waits its question ↦
      (entry.ticket == its) && is_question (question_of (call_view entry.call)) question
]

abbrev pub IsPending : {A : Type 0} → View → Entry A → Type 0
IsPending view entry = list_any (is_call_of entry) view.pending ≡ true

-- As many calls wait for their replies as may.
abbrev pub IsFull : View → Type 0
IsFull view = MOST_PENDING ≤ calls_pending view.pending

-- No call can be handed over: no server has accepted the connection, or as many calls are on their way as may be.
abbrev pub IsAway : View → Type 0
IsAway view = (view.standing.state ≢ Connected) ⊎ IsFull view

-- THE promise about a call that waits: the client waits for its reply, or no call can be handed over.
abbrev pub IsServed : {A : Type 0} → View → Entry A → Type 0
IsServed view entry = IsPending view entry ⊎ IsAway view

-- its limit, if it has one, has not come
abbrev pub IsInTime : {A : Type 0} → (now : ℕ) → Entry A → Type 0
IsInTime now entry = has_come now entry.until ≡ false

-- how many calls of this ticket wait
abbrev pub how_many : {A : Type 0} → (ticket : ℕ) → List (Entry A) → ℕ
how_many ticket entries = count_by (λ entry. entry.ticket == ticket) entries
