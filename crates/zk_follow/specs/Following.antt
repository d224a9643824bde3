-- What it is to follow a subject, and what becomes of its reading.
use Rattle.std.specs.Prelude.{◌≡◌, ◌≢◌, ◌≤◌, ◌<◌, ◌⊎◌, ◌==◌, ◌+◌, ◌-◌, ◌^◌, ◌||◌, ◌&&◌, not, ⊤, min, ℕ, negsuc, Bool, true, false, List, []}
use Rattle.std.specs.Prelude.{◌∷◌, ◌++◌, All, fold, Option, Some, None, if◌then◌else◌, nat_le, length, slice_index_or, bytes_eq}
use Rattle.std.specs.List.{count_by, filter, list_any, flat_map, FoldsTo}
use Rattle.std.specs.Ordering.{int_eq}
use Rattle.zk_nodes.specs.Path.{Text}
use Rattle.zk_nodes.specs.declared.side.Side.{Side}
use Rattle.zk_nodes.specs.declared.side.Side.TheVariants.{Data, Child}
use Rattle.zk_conversation.specs.Pending.{Pending, Part_waits, Call_waits, calls_pending}
use Rattle.zk_conversation.specs.Calls.{Call}
use Rattle.zk_watches.specs.Lists.{side_has}
use Rattle.zk_conversation.specs.Questions.{question_of, Question, Exists, GetData, GetChildren}
use Rattle.zk_conversation.specs.Results.{Result, NoNode, Listing, Read, Refused as Refused_by}
use Rattle.zk_cache.specs.declared.held.Kept.{Kept}
use Rattle.zk_cache.specs.Kept.{Answer, Absent, Known, Full, is_good, is_marked_good}
use Rattle.zk_session.specs.declared.states.State.TheVariants.{Connected}
use Rattle.zk_turns.specs.Turns.{Outcome, Replied, TooManyWatches as Too_many_watches, TooLarge as Too_large}
use Rattle.zk_turns.specs.Turns.{SessionClosed as Session_closed, Output, Enters, Input, Now, Turn}
use Rattle.zk_turns.specs.Turns as turns
use Rattle.zk_turns.specs.Past.{Ticked}
use Rattle.zk_turns.specs.View.{View, Cache}
use Rattle.zk_turns.specs.Rule.{next, Rule, HaltsAs}
use Rattle.zk_limits.specs.declared.limits.TheConstants.{MOST_PENDING}
use Rattle.zk_follow.specs.declared.progress.Progress.{Progress}
use Rattle.zk_follow.specs.declared.progress.Progress.TheVariants.{Due, Reading, Refused}
use Rattle.zk_follow.specs.declared.progress.Refusal.{Refusal}
use Rattle.zk_follow.specs.declared.progress.Refusal.TheVariants.{Code, TooManyWatches, TooLarge, SessionClosed}
use Rattle.zk_follow.specs.declared.news.News.{News}
use Rattle.zk_follow.specs.declared.news.News.TheVariants.{Shown, Refused as Denied}
use Rattle.zk_follow.specs.declared.reads.TheConstants.{MOST_READS}
use Rattle.zk_follow.specs.declared.subject.Subject.{Subject}

-- a second later, and never after the last moment that there is
abbrev pub later : ℕ → ℕ
later now = min (now + 1000) (2 ^ 64 - 1)

-- How far the reading of a subject is once a read was answered. Where there is no node, it is read in another way; but where the server has
-- just said that there is one, and has reported nothing of the path since, it contradicts itself, and that counts as a refusal. Where the
-- connection was lost, or the session is over, it is read once there is another one; where too many calls wait, once fewer do.
abbrev pub after_code : ℕ → (was_there : Bool) → Result → Progress
after_code now was_there (Refused_by code) = Refused (Code code) (later now)
after_code now true NoNode = Refused (Code (negsuc 100)) (later now)
after_code now was_there _ = Due

abbrev pub progress_after : ℕ → (was_there : Bool) → Outcome → Progress
progress_after now was_there (Replied zxid result) = after_code now was_there result
progress_after now was_there Too_many_watches = Refused TooManyWatches (later now)
progress_after now was_there Too_large = Refused TooLarge (later now)
progress_after now was_there Session_closed = Refused SessionClosed (later now)
progress_after now was_there _ = Due

-- whether the last reply said that there is no node
abbrev pub missing_by : Bool → Result → Bool
missing_by was NoNode = true
missing_by was (Refused_by code) = was
missing_by was _ = false

abbrev pub missing_after : Bool → Outcome → Bool
missing_after was (Replied zxid result) = missing_by was result
missing_after was _ = was

-- whether the last reply said that there is a node, where the one before it said that there is none
abbrev pub there_by : (was_missing was_there : Bool) → Result → Bool
there_by was_missing was_there NoNode = false
there_by was_missing was_there (Refused_by code) = was_there
there_by was_missing was_there _ = was_missing

abbrev pub there_after : (was_missing was_there : Bool) → Outcome → Bool
there_after was_missing was_there (Replied zxid result) = there_by was_missing was_there result
there_after was_missing was_there _ = was_there

-- What another state leaves of the reading: no call waits any more, so that the subject is to be read. But an answer that was too long has
-- ended the connection, and would end the next one: that refusal lasts until its moment.
abbrev pub entered : Progress → Progress
entered (Refused TooLarge until) = Refused TooLarge until
entered _ = Due

-- Whether a subject is doubted still once a read of it was answered. A doubt ends with a reply that the client keeps: the data, or the
-- names, or that there is no node, if the read asked whether there is one. It ends with no loss, and with none that came before the doubt.
abbrev pub doubted_by : (was_missing was : Bool) → Result → Bool
doubted_by was_missing was (Read bytes stat) = false
doubted_by was_missing was (Listing names stat) = false
doubted_by true was NoNode = false
doubted_by was_missing was _ = was

abbrev pub doubted_after : (was_missing was : Bool) → Outcome → Bool
doubted_after was_missing was (Replied zxid result) = doubted_by was_missing was result
doubted_after was_missing was _ = was

-- What one output makes of a subject. A report of its path says that the node is another one.
abbrev pub answered : {A : Type 0} → ℕ → Outcome → Subject A → Subject A
answered now outcome subject = record subject {
  progress = progress_after now subject.is_there outcome;
  is_missing = missing_after subject.is_missing outcome;
  is_there = there_after subject.is_missing subject.is_there outcome;
  is_doubted = doubted_after subject.is_missing subject.is_doubted outcome;
}

abbrev pub heard : {A : Type 0} → ℕ → Subject A → Output → Subject A
heard now subject (turns.Answer ticket outcome) = if subject.ticket == ticket then answered now outcome subject else subject
heard now subject (turns.Report at side event) = if bytes_eq at subject.path then record subject { is_there = false } else subject
heard now subject (Enters state) = record subject { progress = entered subject.progress; is_there = false }
heard now subject _ = subject

-- what outputs make of it, in order
abbrev pub heard_all : {A : Type 0} → ℕ → Subject A → List Output → Subject A
heard_all now subject outputs = fold (heard now) subject outputs

-- A subject is good where its data are kept and good, or that there is no node; or the names below it are.
abbrev pub is_whole : Answer → Bool
is_whole Absent = true
is_whole (Known fields) = false
is_whole (Full bytes fields) = true

abbrev pub says_none : Answer → Bool
says_none Absent = true
says_none _ = false

abbrev pub is_kept : (Answer → Bool) → Option (Kept Answer) → Bool
is_kept test None = false
is_kept test (Some kept) = if is_good kept.mark then test kept.answer else false

abbrev pub is_shown : Cache → Side → Text → Bool
is_shown cache Data path = is_kept is_whole (cache.nodes path)
is_shown cache Child path = is_marked_good (cache.children path) || is_kept says_none (cache.nodes path)

-- What is kept of a subject is sure if it is good, and the subject is not doubted.
abbrev pub is_sure : {A : Type 0} → View → Subject A → Bool
is_sure view subject = not subject.is_doubted && is_shown view.cache subject.side subject.path

-- the question that reads a subject, and asks for a watch: the other one where there is no node
abbrev pub read_of : Side → Bool → Text → Question
read_of Data false path = GetData path true
read_of Child false path = GetChildren path true
read_of _ true path = Exists path true

-- whether a question is one of the two that read a subject
abbrev pub reads : Side → Text → Question → Bool
reads Data path (GetData at true) = bytes_eq at path
reads Child path (GetChildren at true) = bytes_eq at path
reads side path (Exists at true) = bytes_eq at path
reads side path _ = false

abbrev pub is_read_by : ℕ → Side → Text → Pending → Bool
is_read_by ticket side path pending =
    elim pending.waiting [ Part_waits last ↦ false | Call_waits its question ↦ (ticket == its) && reads side path question ]

-- A refusal is over once its moment has come: the subject is to be read again.
abbrev pub woken_progress : (now : ℕ) → Progress → Progress
woken_progress now Due = Due
woken_progress now Reading = Reading
woken_progress now (Refused why until) = if nat_le until now then Due else Refused why until

abbrev pub woken : {A : Type 0} → (now : ℕ) → Subject A → Subject A
woken now subject = record subject { progress = woken_progress now subject.progress }

-- a subject that has taken what was said, at this moment
abbrev pub taken : {A : Type 0} → (now : ℕ) → List Output → Subject A → Subject A
taken now outputs subject = woken now (heard_all now subject outputs)

-- A read of a subject, with a watch, is on its way: the call waits for its reply.
abbrev pub IsBeingRead : View → ℕ → Side → Text → Type 0
IsBeingRead view ticket side path = list_any (is_read_by ticket side path) view.pending ≡ true

-- how many of these subjects are being read
abbrev pub reads_of : {A : Type 0} → View → List (Subject A) → ℕ
reads_of view subjects = count_by (λ subject. list_any (is_read_by subject.ticket subject.side subject.path) view.pending) subjects

-- Of a client that has not halted: where a subject counts as one that is being read, it is.
abbrev pub IsCounted : {A : Type 0} → View → Subject A → Type 0
IsCounted view subject =
    view.standing.halted ≡ false → subject.progress ≡ Reading → IsBeingRead view subject.ticket subject.side subject.path

-- As many subjects are being read as may be at once, or the session has as many calls on their way as it may: no other subject can be read
-- then. Calls of a program count in the second alone, so that without them 960 are read at once, and with as many of them as there may be a
-- subject is read with the first reply.
abbrev pub IsBusy : View → (reads : ℕ) → Type 0
IsBusy view reads = (MOST_READS ≤ reads) ⊎ (MOST_PENDING ≤ calls_pending view.pending)

-- how many of these subjects count as being read
abbrev pub is_reading : Progress → Bool
is_reading Reading = true
is_reading _ = false

abbrev pub how_many_reading : {A : Type 0} → List (Subject A) → ℕ
how_many_reading subjects = count_by (λ subject. is_reading subject.progress) subjects

-- No more are than may be at once, so that the other places are left to calls of the program.
abbrev pub LeavesRoom : {A : Type 0} → List (Subject A) → Type 0
LeavesRoom subjects = how_many_reading subjects ≤ MOST_READS

-- A moment is after this one, or the last that there is.
abbrev pub IsAfter : (now moment : ℕ) → Type 0
IsAfter now moment = min (now + 1) (2 ^ 64 - 1) ≤ moment

-- The last read of it was refused, and the moment to read it again is after this one.
abbrev pub IsRefused : (now : ℕ) → Progress → Type 0
IsRefused now (Refused why until) = IsAfter now until
IsRefused now _ = ⊥

-- Where it counts as refused, the moment to read it again is after this one.
abbrev pub IsAhead : (now : ℕ) → Progress → Type 0
IsAhead now (Refused why until) = IsAfter now until
IsAhead now _ = ⊤

-- THE promise about a subject, where this many are being read: what is kept of it is sure; or else a read of it is under way, or waits its
-- turn, or no server has accepted the connection, or the last read was refused, and the moment to read it again is after this one.
abbrev pub IsFollowed : {A : Type 0} → (now : ℕ) → View → (reads : ℕ) → Subject A → Type 0
IsFollowed now view reads subject =
    (is_sure view subject ≡ true) ⊎ (IsBeingRead view subject.ticket subject.side subject.path
    ⊎ (IsBusy view reads ⊎ ((view.standing.state ≢ Connected) ⊎ IsRefused now subject.progress)))

-- of each of these, where no other is followed
abbrev pub AreFollowed : {A : Type 0} → (now : ℕ) → View → List (Subject A) → Type 0
AreFollowed now view subjects = All (IsFollowed now view (reads_of view subjects)) subjects

-- what is kept of a side of a path is good of itself, and not since there is no node
abbrev pub holds : Cache → Side → Text → Bool
holds cache Data path = is_kept is_whole (cache.nodes path)
holds cache Child path = is_marked_good (cache.children path)

abbrev pub is_due : Progress → Bool
is_due Due = true
is_due _ = false

-- A subject rests where what is kept of it is sure and its path is watched, and nothing is noted of its reading.
abbrev pub is_resting : {A : Type 0} → View → Subject A → Bool
is_resting view subject =
    is_due subject.progress && (not subject.is_missing && (not subject.is_there && (not subject.is_doubted
    && (side_has view.lists subject.side subject.path && holds view.cache subject.side subject.path))))

-- what becomes of a subject of which what is kept is sure
abbrev pub rested_progress : Progress → Progress
rested_progress Reading = Reading
rested_progress _ = Due

abbrev pub rested : {A : Type 0} → Subject A → Subject A
rested subject = record subject { progress = rested_progress subject.progress; is_missing = false; is_there = false }

-- A turn is a call that reads a subject, with a watch.
abbrev pub IsReadOf : {A : Type 0} → Subject A → (is_missing : Bool) → Turn → Type 0
IsReadOf subject is_missing turn =
    (call : Call) × (turn.input ≡ turns.Call subject.ticket call) × (question_of call ≡ read_of subject.side is_missing subject.path)

-- One visit: nothing is asked, and the subject is as it was, or it rests; or it is read by one call, and hears what came of that.
abbrev pub Visits : {A : Type 0} → (now : ℕ) → View → Subject A → List Turn → View → Subject A → Type 0
Visits now view subject calls after new =
    ((after ≡ view) × (calls ≡ []) × ((new ≡ subject) ⊎ (new ≡ rested subject)))
    ⊎ ((turn : Turn) × (calls ≡ turn ∷ []) × IsReadOf subject subject.is_missing turn × Rule view turn after
    × (new ≡ heard_all now (record subject { progress = Reading }) turn.outputs))

-- what turns said, the oldest first
abbrev pub outputs_in : List Turn → List Output
outputs_in calls = flat_map (λ turn. turn.outputs) calls

-- So a subject counts as refused only where an answer said so.
abbrev pub IsVisited : {A : Type 0} → (now : ℕ) → Subject A → Subject A → Type 0
IsVisited now subject new = (view : View) × (calls : List Turn) × (after : View) × Visits now view subject calls after new

-- each of these subjects has heard these outputs, and was visited
abbrev pub AreVisited : {A : Type 0} → (now : ℕ) → List Output → (old new : List (Subject A)) → Type 0
AreVisited {A} now outputs old new =
    (k : ℕ) (d : Subject A) → k < length old → IsVisited now (taken now outputs (slice_index_or old k d)) (slice_index_or new k d)

-- each of these turns is a call that reads one of these subjects
abbrev pub AreReads : {A : Type 0} → List (Subject A) → List Turn → Type 0
AreReads subjects [] = ⊤
AreReads {A} subjects (turn ∷ more) =
    ((k : ℕ) × (d : Subject A) × (is_missing : Bool) × (k < length subjects) × IsReadOf (slice_index_or subjects k d) is_missing turn)
    × AreReads subjects more

-- One step. The client takes its input at a moment; each subject hears what it says, and is visited. The turns are one chain from the
-- client before to the client after it: the moment, the input, and the calls that read subjects. What is given is what they said, in order.
-- Where any subject is read, no more are being read after it than may be at once.
pub record Steps {A : Type 0} (now : ℕ) (view : View) (input : Input) (old : List (Subject A)) (after : View) (given : List Output)
    (new : List (Subject A)) : Type 0 where
  pub first : List Output
  pub second : List Output
  pub calls : List Turn
  pub chain : FoldsTo Rule view (record { input = Now now; outputs = first } ∷ record { input = input; outputs = second } ∷ calls) after
  pub reads : AreReads old calls
  pub said : given ≡ (first ++ second) ++ outputs_in calls
  pub room : (calls ≡ []) ⊎ LeavesRoom new
  pub visited : AreVisited now (first ++ second) old new
  pub count : length new ≡ length old

-- ---- where memory runs out

-- It ran out within a client that was here, which has halted then, or beside it.
abbrev pub RunsOut : (here new : View) → Type 0
RunsOut here new = (new ≡ here) ⊎ HaltsAs here new

-- A step was broken off. The turns that were taken are one chain from the client before, and memory ran out after them.
pub record BreaksOff (view new : View) : Type 0 where
  pub turns : List Turn
  pub here : View
  pub chain : FoldsTo Rule view turns here
  pub ends : RunsOut here new

-- ---- between steps

-- to be read: another session begins
abbrev pub due_again : {A : Type 0} → Subject A → Subject A
due_again subject = record subject { progress = Due; is_there = false }

-- What is kept of a subject is doubted: it is to be read once more, whether or not that is good.
abbrev pub doubted : {A : Type 0} → Subject A → Subject A
doubted subject = record subject { is_doubted = true }

-- a subject that is followed from now on: it is to be read, and nothing is known of it
abbrev pub fresh : {A : Type 0} → (ticket : ℕ) → Side → Text → Subject A
fresh ticket side path = record {
  ticket = ticket;
  side = side;
  path = path;
  progress = Due;
  is_missing = false;
  is_there = false;
  is_doubted = false;
  told = None;
}

-- those that are followed on, once this ticket is followed no more
abbrev pub unfollowed : {A : Type 0} → (ticket : ℕ) → List (Subject A) → List (Subject A)
unfollowed ticket subjects = filter (λ subject. not (subject.ticket == ticket)) subjects

-- and once none of these tickets is, one after the other
abbrev pub unfollowed_all : {A : Type 0} → (tickets : List ℕ) → List (Subject A) → List (Subject A)
unfollowed_all tickets subjects = fold (λ all ticket. unfollowed ticket all) subjects tickets

-- when a subject is read again whose read was refused
abbrev pub again_at : Progress → Option ℕ
again_at (Refused why until) = Some until
again_at _ = None

-- the first of two moments
abbrev pub first_of : (moment other : Option ℕ) → Option ℕ
first_of None other = other
first_of (Some moment) None = Some moment
first_of (Some moment) (Some other) = Some (min moment other)

-- the first moment at which one of them is read again
abbrev pub first_again : {A : Type 0} → List (Subject A) → Option ℕ
first_again subjects = fold (λ first subject. first_of first (again_at subject.progress)) None subjects

-- ---- what there is to tell

-- whether this was told of a subject last
abbrev pub was_shown : Option News → Bool
was_shown (Some Shown) = true
was_shown _ = false

abbrev pub is_same : (why other : Refusal) → Bool
is_same (Code code) (Code other) = int_eq code other
is_same TooManyWatches TooManyWatches = true
is_same TooLarge TooLarge = true
is_same SessionClosed SessionClosed = true
is_same why other = false

abbrev pub was_refused : Refusal → Option News → Bool
was_refused why (Some (Denied other)) = is_same why other
was_refused why _ = false

-- whether a report among these is about the path
abbrev pub is_report_of : Text → Output → Bool
is_report_of path (turns.Report at side event) = bytes_eq at path
is_report_of path _ = false

abbrev pub is_reported : Text → List Output → Bool
is_reported path outputs = list_any (is_report_of path) outputs

-- What there is to tell of a subject, by whether what is kept of it is sure, and whether its path was reported since. That it is sure is
-- told once, and again after each report and each doubt; why its read was refused, once for each new reason.
abbrev pub news_about : (is_sure is_reported : Bool) → Progress → (told : Option News) → Option News
news_about true is_reported progress told = if was_shown told && not is_reported then None else Some Shown
news_about false is_reported (Refused why until) told = if was_refused why told then None else Some (Denied why)
news_about false is_reported progress told = None

-- what was told of it last, after that
abbrev pub told_after : (is_sure : Bool) → Progress → (told : Option News) → Option News
told_after true progress told = Some Shown
told_after false (Refused why until) told = Some (Denied why)
told_after false progress told = if was_shown told then None else told

-- with the ticket of the subject
abbrev pub news_list : (ticket : ℕ) → Option News → List (ℕ × News)
news_list ticket None = []
news_list ticket (Some what) = (ticket, what) ∷ []

abbrev pub news_in : {A : Type 0} → View → List Output → Subject A → List (ℕ × News)
news_in view outputs subject =
    news_list subject.ticket
    (news_about (is_sure view subject) (is_reported subject.path outputs) subject.progress subject.told)

-- A subject is quiet if it rests and that was told of it last.
abbrev pub is_quiet : {A : Type 0} → View → Subject A → Bool
is_quiet view subject = is_resting view subject && was_shown subject.told

-- whether a number is one of these
abbrev pub is_among : ℕ → List ℕ → Bool
is_among number numbers = list_any (λ its. number == its) numbers

-- Of the first, as many as `count` says, each is quiet whose place is not among these.
abbrev pub AreQuietBut : {A : Type 0} → View → (count : ℕ) → List (Subject A) → (awake : List ℕ) → Type 0
AreQuietBut {A} view count subjects awake =
    (k : ℕ) (d : Subject A) → k < count → is_among k awake ≡ false → is_quiet view (slice_index_or subjects k d) ≡ true

-- A subject is awaited if it is to be read, and what is kept of it is not sure.
abbrev pub is_awaited : {A : Type 0} → View → Subject A → Bool
is_awaited view subject = is_due subject.progress && not (is_sure view subject)

-- A step may pass it over, and there is nothing to tell of it: it is quiet; or it is awaited, and that it is sure was not told last.
abbrev pub is_still : {A : Type 0} → View → Subject A → Bool
is_still view subject = is_quiet view subject || (is_awaited view subject && not (was_shown subject.told))

-- Of the first, as many as `count` says, each is so whose place is not among these.
abbrev pub AreStillBut : {A : Type 0} → View → (count : ℕ) → List (Subject A) → (awake : List ℕ) → Type 0
AreStillBut {A} view count subjects awake =
    (k : ℕ) (d : Subject A) → k < count → is_among k awake ≡ false → is_still view (slice_index_or subjects k d) ≡ true

-- Each is quiet.
abbrev pub AreQuiet : {A : Type 0} → View → List (Subject A) → Type 0
AreQuiet view subjects = All (λ subject. is_quiet view subject ≡ true) subjects

-- a client that was told a moment at which nothing is due
abbrev pub ticked : (now : ℕ) → View → View
ticked now view = next view (Ticked now)

-- each was told of
abbrev pub told_of : {A : Type 0} → View → Subject A → Subject A
told_of view subject = record subject { told = told_after (is_sure view subject) subject.progress subject.told }
