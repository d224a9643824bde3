-- How far an agent has come, move by move.
use Rattle.std.specs.Prelude.{◌≡◌, ◌≢◌, ◌==◌, ⊤, ℕ, ℤ, ◌+◌, ◌/◌, ◌^◌, ◌&&◌, Bool, true, false, not, if◌then◌else◌, List, [], ◌∷◌, ◌++◌, map}
use Rattle.std.specs.Prelude.{Option, Some, is_some, length, nat_lt, unsigned_abs}
use Rattle.std.specs.List.{count_by, filter, flat_map, AllByRecursion, FoldsTo}
use Rattle.std.specs.List.Sorted.{IsPermutation}
use Rattle.zk_nodes.specs.Path.{Text}
use Rattle.zk_nodes.specs.declared.side.Side.{Side}
use Rattle.zk_conversation.specs.Calls.{Call}
use Rattle.zk_conversation.specs.Views.{call_view}
use Rattle.zk_session.specs.declared.states.State.{State}
use Rattle.zk_session.specs.declared.states.State.TheVariants.{Connected, Expired, Closed}
use Rattle.zk_turns.specs.Turns.{Output, Input, Item, Start, Turn}
use Rattle.zk_turns.specs.Turns as turns
use Rattle.zk_turns.specs.View.{View, view_at}
use Rattle.zk_turns.specs.Rule.{Rule, Stands}
use Rattle.zk_turns.specs.Taken.{NothingIsDue}
use Rattle.zk_client.specs.Clients.{renewed_start, view_of}
use Rattle.zk_dialler.specs.declared.dialler.Dialler.{Dialler}
use Rattle.zk_dialler.specs.declared.dialler.DialDue.{DialDue}
use Rattle.zk_dialler.specs.declared.dialler.Phase.{Phase}
use Rattle.zk_dialler.specs.declared.dialler.Phase.TheVariants.{Waiting, Dialling}
use Rattle.zk_dialler.specs.Backoffs.{connected_at, row_ended}
use Rattle.zk_dialler.specs.Chances.{next_state, state_after}
use Rattle.zk_dialler.specs.Dialling.{first_moment, has_come, is_due, is_open, is_waiting, DialsWell, Ends, Opens}
use Rattle.zk_dialler.specs.Moves.{moves_by, order_of, tries_kept}
use Rattle.zk_dialler.specs.Orders.{numbers, shuffled}
use Rattle.zk_follow.specs.declared.subject.Subject.{Subject}
use Rattle.zk_follow.specs.Following.{doubted, due_again, first_again, fresh, news_in, told_of, unfollowed, AreFollowed, RunsOut, Steps}
use Rattle.zk_trees.specs.Tending.{are_at_rest, shifted, TreeTold}
use Rattle.zk_calls.specs.declared.entry.Entry.{Entry}
use Rattle.zk_calls.specs.declared.entry.Ending.TheVariants as ending
use Rattle.zk_calls.specs.Lines.{first_limit, left, next_call}
use Rattle.zk_agent.specs.declared.action.Action.{Action}
use Rattle.zk_agent.specs.declared.agent.Agent.{Agent}
use Rattle.zk_agent.specs.declared.input.AgentInput.{AgentInput}
use Rattle.zk_agent.specs.declared.input.AgentInput.TheVariants as happens
use Rattle.zk_agent.specs.declared.replies.Heard.{Heard}
use Rattle.zk_agent.specs.Calls.{closings, endings, handed, hears_all, tells_all}
use Rattle.zk_agent.specs.Credentials.{judging_of, papers_of, unwritten, with_credential, with_judging, Judging, Papers}
use Rattle.zk_agent.specs.Overlong.{refused_by, too_long_in, with_too_long}
use Rattle.zk_agent.specs.Replies.{heard_in}
use Rattle.zk_agent.specs.Telling.{Told, HangsUp, Begins, Introduces, TellsTree, due_told, is_end_of, judged_told, news_told, told_by}
use Rattle.zk_agent.specs.Waits.{Waited, ends_at, heard_input, nothing_waits, waited_after, waited_of}

-- ---- how far it has come

-- A client, the subjects that are followed, the calls that wait, the dialler, the timeout of later sessions, since when what waits for the
-- server, and what the program was told.
pub record Trail (A : Type 0) : Type 0 where
  pub view : View
  pub subjects : List (Subject A)
  pub line : List (Entry A)
  pub dialler : Dialler A
  pub timeout : ℤ
  pub waits : Waited
  pub told : List Told

abbrev pub trail_of : {A : Type 0} → Agent A → List (Action A) → Trail A
trail_of agent actions = record {
  view = view_of agent.asker.follower.client;
  subjects = agent.asker.follower.subjects.items;
  line = agent.asker.line.entries.items;
  dialler = agent.dialler;
  timeout = agent.timeout_ms;
  waits = waited_of agent.waits;
  told = told_by actions;
}

-- ---- moves

pub data Move : Type 0 where
  Hears : (now : ℕ) → Input → Move
  Hands : (now : ℕ) → (ticket : ℕ) → Call → Move
  Follows : (ticket : ℕ) → Side → Text → Move
  Unfollows : (ticket : ℕ) → Move
  Asks : (ticket : ℕ) → Call → (until : Option ℕ) → Move
  GivesUp : (now : ℕ) → Move
  LeavesLate : (now : ℕ) → Move
  Opened Ended : (now : ℕ) → Move
  HungUp Renews Closes : Move
  Addressed : (kept added : ℕ) → (is_listed : Bool) → Move
  Decides : (now : ℕ) → Option DialDue → Move
  Tends : TreeTold → Move
  Presents : (judged : List (ℕ × ℤ)) → (frames : List (List ℕ)) → Move

-- The dialler after outputs, where the client is in this state then. A row of failures ends with a reply, and with a connection that has
-- lived for a third of the timeout.
abbrev pub row_after : {A : Type 0} → (is_answered : Bool) → Dialler A → Dialler A
row_after is_answered dialler = if is_answered then record dialler { backoff = row_ended dialler.backoff } else dialler

abbrev pub is_connected : State → Bool
is_connected Connected = true
is_connected _ = false

-- Whether the session was closed. That is final: no connection is of use then.
abbrev pub is_closed : State → Bool
is_closed Closed = true
is_closed _ = false

abbrev pub noted : {A : Type 0} → (timeout now : ℕ) → State → Dialler A → Dialler A
noted timeout now state dialler =
    if is_connected state then record dialler { backoff = connected_at timeout now dialler.backoff } else dialler

-- A connection that is over is let go, and the program is told so.
abbrev pub LetsGoWhere : {A : Type 0} → (is_there : Bool) → (timeout now : ℕ) → (old new : Dialler A) → (before after : List Told) → Type 0
LetsGoWhere true timeout now old new before after = Ends timeout now old new × (after ≡ before ++ HangsUp ∷ [])
LetsGoWhere false timeout now old new before after = (new ≡ old) × (after ≡ before)

abbrev pub LetsGo : {A : Type 0} → (is_over : Bool) → (timeout now : ℕ) → (old new : Dialler A) → (before after : List Told) → Type 0
LetsGo is_over timeout now old new before after = LetsGoWhere (is_over && is_open old.phase) timeout now old new before after

-- Bytes come on a connection that is there, and that it begins is told once it is. A call is handed over if a server has accepted the
-- connection, and it is the one whose turn it is: the first of those that wait for theirs, in the order of asking. Each subject is followed
-- before it is: who was to be read is being read, unless its turn has not come. So no call goes out while a subject that is due could be
-- read, and only if as many others are being read as may be is a call sent before it that was asked later.
abbrev pub MayHear : {A : Type 0} → (now : ℕ) → Input → Trail A → Type 0
MayHear now turns.Opened old = is_open old.dialler.phase ≡ true
MayHear now (turns.Bytes bytes) old = is_open old.dialler.phase ≡ true
MayHear now (turns.Call ticket asked) old =
    (old.view.standing.state ≡ Connected) × (next_call old.line ≡ Some (ticket, asked)) × AreFollowed now old.view old.subjects
MayHear now _ old = ⊤

-- The client takes an input at a moment, and subjects are read. What it says is told, in order, and then what there is to tell of the
-- subjects. The line, which is this one once the client takes the input, hears the answers, in the same order. If an answer is too
-- long, its call is answered so ahead of that, and at last a subject of its ticket is refused.
pub record TakesSo {A : Type 0} (now : ℕ) (input : Input) (old_view : View) (old_subjects : List (Subject A))
    (old_line : List (Entry A)) (old_told : List Told)
    (new_view : View) (new_subjects : List (Subject A)) (new_line : List (Entry A)) (new_told : List Told) (says : Heard) : Type 0 where
  pub given : List Output
  pub stepped : List (Subject A)
  pub steps : Steps now old_view input old_subjects new_view given stepped
  pub subjects : new_subjects ≡ refused_by now (too_long_in given) (map (told_of new_view) stepped)
  pub line : new_line ≡ hears_all old_line (with_too_long old_line given)
  pub told : new_told
      ≡ (old_told ++ tells_all old_line (with_too_long old_line given))
      ++ map news_told (flat_map (news_in new_view given) stepped)
  pub heard : says ≡ heard_in given

-- So it hears an input. A connection is hung up if it is over with that.
pub record HearsSo {A : Type 0} (now : ℕ) (input : Input) (old new : Trail A) : Type 0 where
  pub may : MayHear now input old
  pub timeout : new.timeout ≡ old.timeout
  pub heard : Heard
  pub told : List Told
  pub takes : TakesSo now input old.view old.subjects (handed input old.line) old.told new.view new.subjects new.line told heard
  pub lets_go : LetsGo heard.is_over new.view.saved.session.timeout now
      (noted new.view.saved.session.timeout now new.view.standing.state (row_after heard.ends_row old.dialler)) new.dialler told new.told
  pub waits : new.waits ≡ waited_after now heard.sent (heard_input old.waits input)

-- If a server says that the session is not its own, the client hears after it that the connection is over.
abbrev pub LeavesWhere : {A : Type 0} → (is_lost : Bool) → (now : ℕ) → (old new : Trail A) → Type 0
LeavesWhere true now old new = HearsSo now turns.Cut old new
LeavesWhere false now old new = new ≡ old

-- Whether another epoch was seen than before, by the zxids that were seen last: the upper half of a zxid counts the elections of servers.
-- Who had seen none has nothing to doubt.
abbrev pub rises : (was is : ℤ) → Bool
rises was is = nat_lt 0 (unsigned_abs was) && nat_lt (unsigned_abs was / 2 ^ 32) (unsigned_abs is / 2 ^ 32)

-- After an election servers may have taken back what one of them had acknowledged. So if another epoch was seen, what is kept of each
-- subject is doubted, and the client hears the moment, so that each is read.
abbrev pub DoubtsWhere : {A : Type 0} → (is_risen : Bool) → (now : ℕ) → (old new : Trail A) → Type 0
DoubtsWhere true now old new = HearsSo now (turns.Now now) (record old { subjects = map doubted old.subjects }) new
DoubtsWhere false now old new = new ≡ old

pub record HearsOn {A : Type 0} (now : ℕ) (input : Input) (old new : Trail A) : Type 0 where
  pub between : Trail A
  pub hears : HearsSo now input old between
  pub after : Trail A
  pub leaves : LeavesWhere hears.heard.is_lost now between after
  pub doubts : DoubtsWhere (rises old.view.saved.last after.view.saved.last) now after new

-- Another session begins, after an expiry alone, and asks for the agent's timeout. The last seen zxid is kept, each subject is to be read,
-- and a row of failures ends. Each call that waits is answered before, that the session has expired.
pub record RenewsSo {A : Type 0} (old new : Trail A) : Type 0 where
  pub expired : old.view.standing.state ≡ Expired
  pub view : new.view ≡ view_at (renewed_start old.timeout old.view) []
  pub timeout : new.timeout ≡ old.timeout
  pub waits : new.waits ≡ old.waits
  pub subjects : new.subjects ≡ map due_again old.subjects
  pub dialler : new.dialler ≡ record old.dialler { backoff = row_ended old.dialler.backoff }
  pub line : new.line ≡ []
  pub told : new.told ≡ (old.told ++ endings ending.Expired old.line) ++ Begins ∷ []

-- A call is asked: it waits after those that were asked before.
pub record AsksSo {A : Type 0} (ticket : ℕ) (asked : Call) (until : Option ℕ) (old new : Trail A) : Type 0 where
  pub entry : Entry A
  pub its_ticket : entry.ticket ≡ ticket
  pub its_call : call_view entry.call ≡ asked
  pub its_limit : entry.until ≡ until
  pub waits : entry.is_sent ≡ false
  pub last : new ≡ record old { line = old.line ++ entry ∷ [] }

-- Whether a session moves with another list of addresses, by the next random number: its first addresses, this many, are kept, and the
-- others are added.
abbrev pub moves_with : {A : Type 0} → Dialler A → (kept added : ℕ) → (is_listed : Bool) → Bool
moves_with dialler kept added is_listed =
    moves_by (length dialler.ring.order.items) (kept + added) is_listed (next_state dialler.backoff.chance.state)

-- Another list of addresses is dialled in a new order, which goes on with the same random numbers. A session that moves tries one group of
-- them ahead of the other.
pub record AddressesSo {A : Type 0} (kept added : ℕ) (is_listed : Bool) (old new : Dialler A) : Type 0 where
  pub order : new.ring.order.items ≡ order_of (moves_with old kept added is_listed)
      (tries_kept (length old.ring.order.items) kept (kept + added)
      (next_state (state_after (kept + added) (next_state old.backoff.chance.state)))) kept
      (shuffled (next_state old.backoff.chance.state) (kept + added) (numbers (kept + added)))
  pub each : IsPermutation (numbers (kept + added)) new.ring.order.items
  pub first : new.ring.next ≡ 0
  pub phase : new.phase ≡ old.phase
  pub backoff : new.backoff ≡ record old.backoff {
    chance = record { state = next_state (next_state (state_after (kept + added) (next_state old.backoff.chance.state))) };
  }

-- After a close each call that waits is answered so.
pub record ClosesSo {A : Type 0} (old new : Trail A) : Type 0 where
  pub closed : old.view.standing.state ≡ Closed
  pub last : new ≡ record old { line = []; told = old.told ++ closings old.line }

-- An address is dialled, or an attempt given up, by the rule of the dialler alone: not before its moment, and not after a close.
pub record DecidesSo {A : Type 0} (now : ℕ) (due : Option DialDue) (old new : Trail A) : Type 0 where
  pub goes_on : old.view.standing.state ≢ Closed
  pub dials : DialsWell old.view.saved.session.timeout now old.dialler new.dialler due
  pub all : is_some due ≡ is_due now old.dialler
  pub last : new ≡ record old { dialler = new.dialler; told = old.told ++ due_told due }

-- By when a call, a ping or the request that opens the session is to have its answer, whatever else the server sends.
abbrev pub ends_of : {A : Type 0} → Trail A → Option ℕ
ends_of trail = ends_at trail.view.saved.session.timeout trail.waits

-- If one has waited for so long, and not before, the connection is let go, the program is told so, and the client hears that it is over.
pub record LeavesLateSo {A : Type 0} (now : ℕ) (old new : Trail A) : Type 0 where
  pub late : has_come now (ends_of old) ≡ true
  pub between : Trail A
  pub ends : Ends old.view.saved.session.timeout now old.dialler between.dialler
  pub hangs : between ≡ record old { dialler = between.dialler; told = old.told ++ HangsUp ∷ [] }
  pub after : Trail A
  pub hears : HearsSo now turns.Cut between after
  pub last : new ≡ record after { waits = nothing_waits }

-- What each move does.
abbrev pub Does : {A : Type 0} → Trail A → Move → Trail A → Type 0
Does old (Hears now input) new = HearsOn now input old new
Does old (Hands now ticket asked) new = HearsSo now (turns.Call ticket asked) old new
Does old Renews new = RenewsSo old new
Does old (Follows ticket side path) new =
    new ≡ record old { subjects = old.subjects ++ fresh ticket side path ∷ [] }
Does old (Unfollows ticket) new = new ≡ record old { subjects = unfollowed ticket old.subjects }
Does old (Asks ticket asked until) new = AsksSo ticket asked until old new
Does old (GivesUp now) new =
    new ≡ record old { line = left (ending.Late now) old.line; told = old.told ++ endings (ending.Late now) old.line }
Does old (LeavesLate now) new = LeavesLateSo now old new
Does old (Opened now) new =
    Opens old.view.saved.session.timeout now old.dialler new.dialler true × (new ≡ record old { dialler = new.dialler })
Does old (Ended now) new = Ends old.view.saved.session.timeout now old.dialler new.dialler × (new ≡ record old { dialler = new.dialler })
Does old HungUp new = new ≡ record old { told = old.told ++ HangsUp ∷ [] }
Does old (Addressed kept added is_listed) new =
    AddressesSo kept added is_listed old.dialler new.dialler × (new ≡ record old { dialler = new.dialler })
Does old (Decides now due) new = DecidesSo now due old new
Does old Closes new = ClosesSo old new
Does old (Presents judged frames) new =
    new ≡ record old { told = (old.told ++ map judged_told judged) ++ map Introduces frames }
Does old (Tends one) new = new ≡ record old { subjects = shifted one old.subjects; told = old.told ++ TellsTree one ∷ [] }

-- A client stands where turns by the rule have led, from what some session began with.
abbrev pub IsLed : View → Type 0
IsLed view = (start : Start) × (items : List Item) × Stands start items view

-- After a close there is no connection, and none is asked for.
abbrev pub IsShut : {A : Type 0} → Trail A → Type 0
IsShut trail = trail.view.standing.state ≡ Closed → trail.dialler.phase ≡ Waiting

-- ---- moves that come from outside, and those of its own

-- What is told of credentials follows from what is handed in, and counts with that. Of its own an agent hands calls over, begins another
-- session, settles calls, leaves a server that does not answer, decides about the connection, and follows what is wanted of trees.
abbrev pub is_given : Move → Bool
is_given (Hands now ticket asked) = false
is_given Renews = false
is_given (GivesUp now) = false
is_given (LeavesLate now) = false
is_given (Decides now due) = false
is_given Closes = false
is_given (Tends one) = false
is_given _ = true

-- each at this moment
abbrev pub IsAt : (now : ℕ) → Move → Type 0
IsAt now (Hears its input) = its ≡ now
IsAt now (Hands its ticket asked) = its ≡ now
IsAt now (GivesUp its) = its ≡ now
IsAt now (LeavesLate its) = its ≡ now
IsAt now (Opened its) = its ≡ now
IsAt now (Ended its) = its ≡ now
IsAt now (Decides its due) = its ≡ now
IsAt now _ = ⊤

-- The attempt has failed, or the connection is over.
abbrev pub over_at : (now : ℕ) → List Move
over_at now = Ended now ∷ Hears now turns.Cut ∷ []

-- A connection is there. One that was not asked for is hung up, and so is the one that is there then.
abbrev pub opened_at : Phase → (now : ℕ) → List Move
opened_at (Dialling began until) now = Opened now ∷ Hears now turns.Opened ∷ []
opened_at _ now = HungUp ∷ over_at now

-- Bytes are of no connection if there is none: the client hears the moment alone.
abbrev pub bytes_at : (is_open : Bool) → (now : ℕ) → List ℕ → List Move
bytes_at true now bytes = Hears now (turns.Bytes bytes) ∷ []
bytes_at false now bytes = Hears now (turns.Now now) ∷ []

-- Whether a session leaves its connection, or its attempt, with another list of addresses: if it has one, and moves.
abbrev pub leaves_with : {A : Type 0} → Dialler A → (kept added : ℕ) → (is_listed : Bool) → Bool
leaves_with dialler kept added is_listed = moves_with dialler kept added is_listed && not (is_waiting dialler.phase)

-- It hangs up, or gives the attempt up, and the client hears that the connection is over.
abbrev pub left_at : (leaves : Bool) → (now : ℕ) → List Move
left_at true now = HungUp ∷ over_at now
left_at false now = Hears now (turns.Now now) ∷ []

-- what an input makes at a moment, by where the connection is
abbrev pub given_of : {A : Type 0} → Dialler A → (now : ℕ) → AgentInput A → List Move
given_of dialler now happens.Opened = opened_at dialler.phase now
given_of dialler now happens.Failed = over_at now
given_of dialler now happens.Cut = over_at now
given_of dialler now (happens.Bytes bytes) = bytes_at (is_open dialler.phase) now bytes.items
given_of dialler now happens.Moment = Hears now (turns.Now now) ∷ []
given_of dialler now (happens.Addresses kept added is_listed) =
    Addressed kept added is_listed ∷ left_at (leaves_with dialler kept added is_listed) now
given_of dialler now (happens.Call ticket call until) = Asks ticket (call_view call) until ∷ Hears now (turns.Now now) ∷ []
given_of dialler now (happens.Credential credential) = Hears now (turns.Now now) ∷ []
given_of dialler now (happens.Follow ticket side path) = Follows ticket side path ∷ Hears now (turns.Now now) ∷ []
given_of dialler now (happens.Unfollow ticket) = Unfollows ticket ∷ Hears now (turns.Now now) ∷ []
given_of dialler now (happens.FollowTree ticket root most) = Hears now (turns.Now now) ∷ []
given_of dialler now (happens.UnfollowTree ticket) = Hears now (turns.Now now) ∷ []

-- what the bytes of an input answer, if they come on the connection
abbrev pub judging_in : {A : Type 0} → AgentInput A → Agent A → Judging
judging_in input agent =
    judging_of (is_open agent.dialler.phase) (view_of agent.asker.follower.client).standing.state agent.waits.came input
    (papers_of agent.credentials)

-- the credentials with one that is handed in, and with these answers
abbrev pub papers_in : {A : Type 0} → AgentInput A → Agent A → Papers
papers_in input agent = with_credential input (with_judging (judging_in input agent) (papers_of agent.credentials))

-- What a step makes, by whether a connection is there at its end: what the input makes; then it tells of credentials which were answered,
-- and writes those that were not yet written on the connection that is there.
abbrev pub moves_of : {A : Type 0} → (is_open : Bool) → (now : ℕ) → AgentInput A → Agent A → List Move
moves_of is_open now input agent =
    given_of agent.dialler now input
    ++ Presents (judging_in input agent).1.judged (unwritten is_open (papers_in input agent)) ∷ []

-- Moves, the oldest first, all at one moment. Those that come from outside are these, and no other. A client that was led stands where it
-- was led, after a close there is no connection, and the timeout of later sessions stays.
pub record Comes {A : Type 0} (now : ℕ) (given : List Move) (old new : Trail A) : Type 0 where
  pub moves : List Move
  pub does : FoldsTo Does old moves new
  pub comes : filter is_given moves ≡ given
  pub at : AllByRecursion (IsAt now) moves
  pub led : IsLed old.view → IsLed new.view
  pub shut : IsShut old → IsShut new
  pub timeout : new.timeout ≡ old.timeout

-- Nothing that was due of the connection at this moment is left undone: it was done last.
pub record IsDecided {A : Type 0} (now : ℕ) (new : Trail A) : Type 0 where
  pub before : Dialler A
  pub due : Option DialDue
  pub dials : DialsWell new.view.saved.session.timeout now before new.dialler due
  pub all : is_some due ≡ is_due now before
  pub rest : List Told
  pub told : new.told ≡ rest ++ due_told due

-- ---- where memory runs out

-- A client goes on by a turn, or after an expiry as that of another session, which asks for this timeout.
pub data Advance : Type 0 where
  ByTurn : Turn → Advance
  ByRenewal : Advance

abbrev pub Advances : (timeout : ℤ) → View → Advance → View → Type 0
Advances timeout view (ByTurn turn) after = Rule view turn after
Advances timeout view ByRenewal after = (view.standing.state ≡ Expired) × (after ≡ view_at (renewed_start timeout view) [])

-- A step was broken off. So far did the client go on from where it stood before, and memory ran out after that.
pub record BreaksOff (timeout : ℤ) (view new : View) : Type 0 where
  pub advances : List Advance
  pub here : View
  pub chain : FoldsTo (Advances timeout) view advances here
  pub ends : RunsOut here new

-- that of an agent's client
abbrev pub IsBroken : {A : Type 0} → (old new : Agent A) → Type 0
IsBroken old new = BreaksOff old.timeout_ms (view_of old.asker.follower.client) (view_of new.asker.follower.client)

-- ---- calls

abbrev pub how_many_asked : {A : Type 0} → (ticket : ℕ) → AgentInput A → ℕ
how_many_asked ticket (happens.Call its call until) = if its == ticket then 1 else 0
how_many_asked ticket _ = 0

abbrev pub how_many_ended : (ticket : ℕ) → List Told → ℕ
how_many_ended ticket told = count_by (is_end_of ticket) told

-- ---- moments

-- Nothing is due at a moment: no ping, no silence, no attempt, no end of one, no read of a subject that was refused, no limit of a call,
-- and no end of the wait for an answer.
abbrev pub NothingOpen : {A : Type 0} → Agent A → (moment : ℕ) → Type 0
NothingOpen agent moment =
    NothingIsDue (view_of agent.asker.follower.client) moment × (has_come moment (first_moment agent.dialler) ≡ false)
    × (has_come moment (first_again agent.asker.follower.subjects.items) ≡ false)
    × (has_come moment (first_limit agent.asker.line.entries.items) ≡ false)
    × (has_come moment (ends_at (view_of agent.asker.follower.client).saved.session.timeout (waited_of agent.waits)) ≡ false)

-- Nor are trees to be tended. After a close nothing is due any more.
abbrev pub NothingIn : {A : Type 0} → (is_closed : Bool) → Agent A → (moment : ℕ) → Type 0
NothingIn true agent moment = ⊤
NothingIn false agent moment = NothingOpen agent moment × (are_at_rest moment agent.trees ≡ true)

abbrev pub NothingAt : {A : Type 0} → Agent A → (moment : ℕ) → Type 0
NothingAt agent moment = NothingIn (is_closed (view_of agent.asker.follower.client).standing.state) agent moment

-- No call, no ping and no request for the session waits for its answer since two thirds of the timeout.
abbrev pub IsAnswered : {A : Type 0} → Agent A → Type 0
IsAnswered agent =
    has_come agent.latest (ends_at (view_of agent.asker.follower.client).saved.session.timeout (waited_of agent.waits)) ≡ false

-- when the server was heard last, once bytes have come on a connection that is there
abbrev pub heard_after : {A : Type 0} → (is_open : Bool) → (now : ℕ) → AgentInput A → Option ℕ → Option ℕ
heard_after true now (happens.Bytes bytes) was = Some now
heard_after is_open now input was = was
