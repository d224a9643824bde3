-- What the client of a session's handle has come through, use by use, and what was told of it meanwhile.
use Rattle.std.specs.Prelude.{◌≡◌, ◌⊎◌, ◌+◌, ◌==◌, ◌||◌, ◌<◌, ℕ, zero, ℤ, pos, negsuc, Bool, true, false, List, [], ◌∷◌, ◌++◌, fold, max}
use Rattle.std.specs.Prelude.{◌≤◌, ◌^◌, ⊤, Option, Some, Ok, unsigned_abs, if◌then◌else◌}
use Rattle.std.specs.List.{count_by, filter, list_any, AllByRecursion, FoldsTo}
use Rattle.std.specs.declared.alloc.Global.{Global}
use Rattle.zk_nodes.specs.History.{History}
use Rattle.zk_nodes.specs.Path.{Text, path_of}
use Rattle.zk_nodes.specs.declared.side.Side.{Side}
use Rattle.zk_conversation.specs.Calls.{Call}
use Rattle.zk_conversation.specs.Questions.{question_of}
use Rattle.zk_session.specs.declared.states.State.TheVariants.{Expired}
use Rattle.zk_turns.specs.Turns.{Halts, Input, Item, Output, Start, Turn, Turned, new_start}
use Rattle.zk_turns.specs.Turns as turns
use Rattle.zk_turns.specs.Past.{last_of}
use Rattle.zk_turns.specs.Taken.{past_of}
use Rattle.zk_turns.specs.View.{View}
use Rattle.zk_turns.specs.Rule.{Stands}
use Rattle.zk_turns.specs.Reported.{is_report, reports_in}
use Rattle.zk_turns.specs.Sent.{outputs_of}
use Rattle.zk_client.specs.Clients.{renewed_start, view_of}
use Rattle.zk_client.specs.Runs as run
use Rattle.zk_client.specs.SavedSessions.{PutAway, bytes_read}
use Rattle.zk_contend.specs.Collections.{one_of}
use Rattle.zk_conclusions.specs.Seen.{IsEither, IsServedAt}
use Rattle.zk_conclusions.specs.Standings.{NumbersRise}
use Rattle.zk_contend.specs.Namings.{kind_of_all}
use Rattle.zk_contend.specs.Standings.{HasHeard, HoldsTruly, ShowsContender}
use Rattle.zk_contend.specs.declared.contender.LockContender.{LockContender}
use Rattle.zk_contend.specs.declared.listed.Listed.{Listed}
use Rattle.zk_contend.specs.declared.place.Place.TheVariants.{At}
use Rattle.zk_dialler.specs.Dialling.{is_open}
use Rattle.zk_follow.specs.Following.{outputs_in, read_of}
use Rattle.zk_agent.specs.declared.agent.Agent.{Agent}
use Rattle.zk_agent.specs.declared.input.AgentInput.{AgentInput}
use Rattle.zk_agent.specs.Agents.{Advance, ByRenewal, ByTurn, Hands, Hears, IsAt, LeavesLate, Move, Renews}
use Rattle.zk_agent.specs.Agents.{how_many_ended, is_given, moves_of}
use Rattle.zk_agent.specs.Agents.{rises}
use Rattle.zk_agent.specs.Calls.{how_many}
use Rattle.zk_agent.specs.Replies.{is_lost}
use Rattle.zk_agent.specs.Telling.{Told, Says, Begins, TellsTree, told_by, trees_in}
use Rattle.zk_trees.specs.Tending.{TreeTold, TakesOn}
use Rattle.ffi_device.specs.Sessions.{put_start}
use Rattle.ffi_device.specs.Happenings as happens
use Rattle.ffi_device.specs.Happenings.{Happening, given_of, happening, is_contend}
use Rattle.ffi_device.specs.Chains.{first_own, IsOwn}
use Rattle.ffi_device.specs.Contending.{view_in}
use Rattle.ffi_device.specs.Steps.{within}
use Rattle.ffi_device.specs.declared.device.Device.{Device}
use Rattle.ffi_c.specs.Lives.{Forgets, Frees, IsLife, Opens, Resumes, Steps, Use, Used, held_after}

-- ---- the turns of moves

-- A turn is a call that reads what is followed, with a watch.
abbrev pub IsRead : Turn → Type 0
IsRead turn =
    (ticket : ℕ) × (call : Call) × (side : Side) × (is_missing : Bool) × (path : Text)
    × (turn.input ≡ turns.Call ticket call) × (question_of call ≡ read_of side is_missing path)

-- The turns of an input that is heard, the oldest first: that of its moment, its own, and reads of what is followed.
pub record AreHeard (now : ℕ) (input : Input) (made : List Turn) : Type 0 where
  pub first : List Output
  pub second : List Output
  pub reads : List Turn
  pub are_reads : AllByRecursion IsRead reads
  pub are : made ≡ record { input = turns.Now now; outputs = first } ∷ record { input = input; outputs = second } ∷ reads

-- If a server says that the session is not its own, the client hears after that that the connection is over.
abbrev pub AreLeft : (is_lost : Bool) → (now : ℕ) → (made : List Turn) → Type 0
AreLeft true now made = AreHeard now turns.Cut made
AreLeft false now made = made ≡ []

-- If another epoch was seen with that, the client hears the moment once more, and reads what is followed.
abbrev pub AreAnew : (is_risen : Bool) → (now : ℕ) → (made : List Turn) → Type 0
AreAnew true now made = AreHeard now (turns.Now now) made
AreAnew false now made = made ≡ []

-- ---- one session after the other

-- Of one session: what its client began with, and what it has come through since, the newest first.
pub record Chapter : Type 0 where
  pub start : Start
  pub items : List Item

-- with these turns more, of which the oldest is first
abbrev pub with_turns : List Turn → List Item → List Item
with_turns made items = fold (λ all turn. Turned turn ∷ all) items made

-- the zxid that a client has seen last then
abbrev pub last_seen : Start → List Item → ℤ
last_seen start items = last_of start (past_of start items)

-- the turns that a move makes
abbrev pub AreOf : Chapter → Move → (made : List Turn) → Type 0
AreOf old (Hears now input) made =
    (heard : List Turn) × (after : List Turn) × (anew : List Turn) × AreHeard now input heard
    × AreLeft (list_any is_lost (outputs_in heard)) now after
    × AreAnew (rises (last_seen old.start old.items) (last_seen old.start (with_turns (heard ++ after) old.items))) now anew
    × (made ≡ (heard ++ after) ++ anew)
AreOf old (Hands now ticket asked) made = AreHeard now (turns.Call ticket asked) made
AreOf old (LeavesLate now) made = AreHeard now turns.Cut made
AreOf old move made = made ≡ []

-- After an expiry another session begins, which asks for this timeout. The last seen zxid is kept.
abbrev pub BeginsAnew : (timeout : ℤ) → Chapter → Chapter → Type 0
BeginsAnew timeout old new =
    (view : View) × Stands old.start old.items view × (view.standing.state ≡ Expired)
    × (new ≡ record { start = renewed_start timeout view; items = [] })

abbrev pub Moves : (timeout : ℤ) → Chapter → Move → Chapter → Type 0
Moves timeout old Renews new = BeginsAnew timeout old new
Moves timeout old move new = (made : List Turn) × AreOf old move made × (new ≡ record old { items = with_turns made old.items })

-- The agent takes one input. Of its moves those that come from outside are those of this input, and no other.
pub record Takes (moment : ℕ) (given : AgentInput Global) (before after : Agent Global) (old new : Chapter) : Type 0 where
  pub moves : List Move
  pub outside : filter is_given moves ≡ moves_of (is_open after.dialler.phase) (max before.latest moment) given before
  pub at : AllByRecursion (IsAt (max before.latest moment)) moves
  pub leads : FoldsTo (Moves before.timeout_ms) old moves new
  pub latest : after.latest ≡ max before.latest moment

-- It takes inputs at one moment, one after the other.
abbrev pub TakesAll : (moment : ℕ) → (before : Agent Global × Chapter) → List (AgentInput Global) → (after : Agent Global × Chapter)
    → Type 0
TakesAll moment before inputs after =
    FoldsTo (λ (from : Agent Global × Chapter) (given : AgentInput Global) to. Takes moment given from.0 to.0 from.1 to.1)
    before inputs after

-- A step: its agent takes what was handed in, and then nothing but calls of the device's own, none of which brings bytes or begins a
-- connection. So the bytes that the client heard, and when its connections began, are what the caller handed in. A device on which nobody
-- contends asks none.
pub record Goes (moment : ℕ) (what : Happening) (before after : Device) (old new : Chapter) : Type 0 where
  pub given : AgentInput Global
  pub is : happening given ≡ given_of what
  pub own : List (AgentInput Global)
  pub takes : TakesAll moment (before.agent, old) (given ∷ own) (after.agent, new)
  pub are_own : AllByRecursion (λ its. IsOwn (happening its)) own
  pub alone : after.is_contending ≡ false → own ≡ []

-- A step within which memory ran out. The client went on by turns and renewals, and then halted, or stayed as it was.
abbrev pub Advances : (timeout : ℤ) → Chapter → Advance → Chapter → Type 0
Advances timeout old (ByTurn turn) new = new ≡ record old { items = Turned turn ∷ old.items }
Advances timeout old ByRenewal new = BeginsAnew timeout old new

abbrev pub Breaks : (timeout : ℤ) → (old new : Chapter) → Type 0
Breaks timeout old new =
    (advances : List Advance) × (between : Chapter) × FoldsTo (Advances timeout) old advances between
    × ((new ≡ between) ⊎ (new ≡ record between { items = Halts ∷ between.items }))

-- ---- a whole life

abbrev pub CameOn : (Goes_on : Device → Device → Chapter → Chapter → Type 0) → (before after : Option Device)
    → (Earlier : Chapter → Type 0) → Chapter → Type 0
CameOn Goes_on before after Earlier new =
    (was : Device) × (is : Device) × (before ≡ Some was) × (after ≡ Some is)
    × ((old : Chapter) × Earlier old × Goes_on was is old new)

-- what the client of a handle is in, by the last use and by the earlier ones
abbrev pub CameBy : Use → (before after : Option Device) → (Earlier : Chapter → Type 0) → Chapter → Type 0
CameBy (Opens limits timeout code) before after Earlier new =
    new ≡ record { start = within limits (new_start (unsigned_abs timeout)); items = [] }
CameBy (Resumes limits timeout saved code) before after Earlier new =
    (put : PutAway) × (bytes_read saved ≡ Ok put) × (new ≡ record { start = within limits (put_start timeout put); items = [] })
CameBy (Steps moment what (pos zero)) before after Earlier new = CameOn (Goes moment what) before after Earlier new
CameBy (Steps moment what (negsuc zero)) before after Earlier new =
    CameOn (λ was is. Breaks was.agent.timeout_ms) before after Earlier new
CameBy (Forgets code) before after Earlier new =
    CameOn (λ was is old new. new ≡ record old { items = turns.Forgets ∷ old.items }) before after Earlier new
CameBy Frees before after Earlier new = ⊥
CameBy _ before after Earlier new = Earlier new

abbrev pub Came : List Used → Chapter → Type 0
Came [] new = ⊥
Came (used ∷ earlier) new = CameBy used.use_of (held_after earlier) used.held (Came earlier) new

-- ---- what was told

-- The reports that were told, the newest first, and of the session that is there alone.
abbrev pub reported : List Output → Told → List Output
reported before (Says output) = if is_report output then output ∷ before else before
reported before Begins = []
reported before told = before

abbrev pub reported_by : Use → (after : Option Device) → List Output → List Output
reported_by (Opens limits timeout code) after before = []
reported_by (Resumes limits timeout saved code) after before = []
reported_by (Steps moment what (pos zero)) (Some session) before = fold reported before (told_by session.said.items)
reported_by used after before = before

abbrev pub told_reports : List Used → List Output
told_reports [] = []
told_reports (used ∷ earlier) = reported_by used.use_of used.held (told_reports earlier)

-- with what happens: whether a call of this ticket is asked
abbrev pub asked_in : (ticket : ℕ) → Happening → ℕ → ℕ
asked_in ticket (happens.Calls its asked until) before = if its == ticket then 1 + before else before
asked_in ticket what before = before

-- how many calls of a ticket were asked since the handle was opened, and how many answers and ends of them were told
abbrev pub asked_by : (ticket : ℕ) → Use → ℕ → ℕ
asked_by ticket (Opens limits timeout code) before = 0
asked_by ticket (Resumes limits timeout saved code) before = 0
asked_by ticket (Steps moment what (pos zero)) before = asked_in ticket what before
asked_by ticket used before = before

abbrev pub how_many_asked : (ticket : ℕ) → List Used → ℕ
how_many_asked ticket [] = 0
how_many_asked ticket (used ∷ earlier) = asked_by ticket used.use_of (how_many_asked ticket earlier)

abbrev pub settled_by : (ticket : ℕ) → Use → (after : Option Device) → ℕ → ℕ
settled_by ticket (Opens limits timeout code) after before = 0
settled_by ticket (Resumes limits timeout saved code) after before = 0
settled_by ticket (Steps moment what (pos zero)) (Some session) before = how_many_ended ticket (told_by session.said.items) + before
settled_by ticket used after before = before

abbrev pub how_many_settled : (ticket : ℕ) → List Used → ℕ
how_many_settled ticket [] = 0
how_many_settled ticket (used ∷ earlier) = settled_by ticket used.use_of used.held (how_many_settled ticket earlier)

-- whether somebody has contended since the handle was opened
abbrev pub contended_by : Use → Bool → Bool
contended_by (Opens limits timeout code) before = false
contended_by (Resumes limits timeout saved code) before = false
contended_by (Steps moment what (pos zero)) before = is_contend what || before
contended_by used before = before

abbrev pub has_contended : List Used → Bool
has_contended [] = false
has_contended (used ∷ earlier) = contended_by used.use_of (has_contended earlier)

-- A ticket that the program alone has: it is below those of the calls that contenders ask, or nobody has contended.
abbrev pub IsOfProgram : (ticket : ℕ) → List Used → Type 0
IsOfProgram ticket uses = (ticket < first_own) ⊎ (has_contended uses ≡ false)

-- ---- the listings of contenders

-- The tickets with which a program calls and follows are below those of the calls that contenders ask, and so are those with which the
-- nodes of trees are followed. The first are below 2^63, and the others run from there, one for each node.
abbrev pub AsksBelow : Happening → Type 0
AsksBelow (happens.Calls ticket asked until) = ticket < first_own
AsksBelow (happens.Follows ticket side path) = ticket < first_own
AsksBelow what = ⊤

abbrev pub TellsBelow : Told → Type 0
TellsBelow (TellsTree (TakesOn tree ticket side path)) = ticket < first_own
TellsBelow told = ⊤

abbrev pub IsBelow : Use → (after : Option Device) → Type 0
IsBelow (Steps moment what (pos zero)) (Some session) = AsksBelow what × AllByRecursion TellsBelow (told_by session.said.items)
IsBelow used after = ⊤

abbrev pub AreBelow : List Used → Type 0
AreBelow uses = AllByRecursion (λ used. IsBelow used.use_of used.held) uses

-- ---- the same by a count

-- The tickets with which a program calls, follows, and follows trees are below those of the calls that contenders ask.
abbrev pub KeepsBelow : Happening → Type 0
KeepsBelow (happens.FollowsTree ticket root most) = ticket < first_own
KeepsBelow what = AsksBelow what

abbrev pub IsKeptBelow : Use → Type 0
IsKeptBelow (Steps moment what (pos zero)) = KeepsBelow what
IsKeptBelow used = ⊤

abbrev pub AreKeptBelow : List Used → Type 0
AreKeptBelow uses = AllByRecursion (λ used. IsKeptBelow used.use_of) uses

-- how many sides of nodes are taken on, by what is told of trees
abbrev pub is_taken : TreeTold → Bool
is_taken (TakesOn tree ticket side path) = true
is_taken told = false

abbrev pub taken : List TreeTold → ℕ
taken told = count_by is_taken told

abbrev pub taken_by : Use → (after : Option Device) → ℕ → ℕ
taken_by (Steps moment what (pos zero)) (Some session) before = taken (trees_in (told_by session.said.items)) + before
taken_by used after before = before

-- by all that was told, of whichever session of the handle
abbrev pub all_taken : List Used → ℕ
all_taken [] = 0
all_taken (used ∷ earlier) = taken_by used.use_of used.held (all_taken earlier)

-- THE law of tickets by a count: if those of the program are below, and it was told of at most 2^62 sides of nodes that are taken on, all
-- are below.
abbrev pub BelowByCount : Type 0
BelowByCount = (uses : List Used) → IsLife uses → AreKeptBelow uses → all_taken uses ≤ 2 ^ 62 → AreBelow uses

-- ---- the law

-- Its client has all of `holds` for the turns that it has come through. While memory has not run out within a step, each report of these
-- turns was told once, and no other; each call that was asked, by a ticket that the program alone has, was settled once, or waits; the
-- session has contenders exactly if somebody has contended; and the listing of each is one that the client was answered, if tickets of
-- contenders' calls are theirs alone.
pub record IsCoherent (uses : List Used) (session : Device) : Type 0 where
  pub chapter : Chapter
  pub came : Came uses chapter
  pub holds : run.Holds chapter.start chapter.items (view_of session.agent.asker.follower.client)
  pub reports : session.is_over ≡ false → told_reports uses ≡ reports_in (outputs_of chapter.items)
  pub contends : session.is_over ≡ false → session.is_contending ≡ has_contended uses
  pub calls : session.is_over ≡ false → (ticket : ℕ) → IsOfProgram ticket uses
      → how_many ticket session.agent.asker.line.entries.items + how_many_settled ticket uses ≡ how_many_asked ticket uses
  pub listings : session.is_over ≡ false → AreBelow uses
      → (ticket : ℕ) (contender : LockContender Global) (own : Text) (listed : Listed Global)
      → one_of session.contenders ticket ≡ Some contender → contender.place ≡ At own (Some listed)
      → HasHeard chapter.start chapter.items contender.directory listed

-- THE law of what a session shows: whoever made it by these functions alone, whatever they answered, has one that is coherent.
abbrev pub CoherentForLife : Type 0
CoherentForLife = (uses : List Used) (session : Device) → IsLife uses → held_after uses ≡ Some session → IsCoherent uses session

-- ---- who holds

-- THE law of who holds: of a session that is coherent, and within whose steps memory never ran out, a contender that its client shows to
-- hold stands first in the history at the client's last seen zxid, if tickets of contenders' calls are theirs alone, numbers rise with
-- creation, and servers keep to the model at the directory and at the place for the turns that the client has come through.
abbrev pub HeldForLife : Type 0
HeldForLife = (uses : List Used) (session : Device) (coherent : IsCoherent uses session) (h : History) (ticket : ℕ)
    (contender : LockContender Global) (own : Text) (listed : Listed Global) (token : ℤ)
    (seen : IsServedAt (IsEither contender.directory own) h (view_in session.agent))
    → session.is_over ≡ false → AreBelow uses → seen.start ≡ coherent.chapter.start → seen.items ≡ coherent.chapter.items
    → one_of session.contenders ticket ≡ Some contender → contender.place ≡ At own (Some listed)
    → NumbersRise h (path_of contender.directory) (kind_of_all contender.naming) → ShowsContender (view_in session.agent) contender token
    → HoldsTruly h (view_in session.agent) contender own listed token
