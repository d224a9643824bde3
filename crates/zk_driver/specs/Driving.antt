-- How far a driver has come: what its agent was handed, what was carried out, and what was passed on.
use Rattle.std.specs.Prelude.{◌≡◌, ◌≢◌, ◌≤◌, ◌<◌, ◌⊎◌, ⊤, ◌+◌, ◌-◌, ℕ, Bool, true, false, List, [], ◌∷◌, ◌++◌, fold}
use Rattle.std.specs.Prelude.{max, Option, Some, None, is_some, All}
use Rattle.std.specs.List.{filter, FoldsTo}
use Rattle.zk_turns.specs.Turns.{Send}
use Rattle.zk_session.specs.declared.states.State.TheVariants.{Expired, Closed}
use Rattle.zk_client.specs.Clients.{view_of}
use Rattle.zk_dialler.specs.Dialling.{is_open}
use Rattle.zk_follow.specs.Following as following
use Rattle.zk_agent.specs.declared.action.Action.{Action}
use Rattle.zk_agent.specs.declared.agent.Agent.{Agent}
use Rattle.zk_agent.specs.declared.input.AgentInput.{AgentInput}
use Rattle.zk_agent.specs.declared.input.AgentInput.TheVariants as happens
use Rattle.zk_agent.specs.Agents.{heard_after, how_many_asked, how_many_ended, moves_of, papers_in, trail_of, Comes, IsAnswered, IsDecided}
use Rattle.zk_agent.specs.Agents.{IsLed, IsShut, NothingAt}
use Rattle.zk_agent.specs.Calls.{how_many, IsInTime, IsServed}
use Rattle.zk_agent.specs.Credentials.{all_written, papers_of}
use Rattle.zk_agent.specs.Telling.{Told, Says, Dials, HangsUp, action_view, told_by}
use Rattle.zk_agent.specs.Trees.{GoesOn}
use Rattle.zk_link.specs.Written.{IsLeftOf}
use Rattle.zk_driver.specs.declared.channel.Attempt.{Attempt}
use Rattle.zk_driver.specs.declared.channel.Channel.{Channel}
use Rattle.zk_driver.specs.declared.engine.Engine.{Engine}
use Rattle.zk_driver.specs.declared.look.Look.{Look}

-- ---- the connection

-- Whether there is one, the address that is to be dialled, what is left to be written, and the last read of it.
pub record ChannelView : Type 0 where
  pub is_open : Bool
  pub attempt : Option Attempt
  pub unsent : List ℕ
  pub looked : Option Look

abbrev pub channel_view : {A S : Type 0} → Channel A S → ChannelView
channel_view channel =
    record { is_open = is_some channel.stream; attempt = channel.attempt; unsent = channel.unsent.items; looked = channel.looked }

abbrev pub opened : ChannelView
opened = record { is_open = true; attempt = None; unsent = []; looked = None }

abbrev pub closed : ChannelView
closed = record { is_open = false; attempt = None; unsent = []; looked = None }

-- What a driver does itself: it dials, hangs up and sends. All else is for the program. Nobody hands it a credential, so its agent has none
-- to write.
abbrev pub is_passed : Told → Bool
is_passed (Dials place within) = false
is_passed HangsUp = false
is_passed (Says (Send bytes)) = false
is_passed _ = true

-- what it makes of a connection: an address is to be dialled, the connection is over, or bytes are to be written after the others
abbrev pub carried : ChannelView → Told → ChannelView
carried channel (Dials place within) = record channel { attempt = Some (record { place = place; within_ms = within }) }
carried channel HangsUp = closed
carried channel (Says (Send bytes)) = record channel { unsent = channel.unsent ++ bytes }
carried channel _ = channel

-- Some of what is left may be written, the first bytes first.
pub record Writes (old new : ChannelView) : Type 0 where
  pub is_open : new.is_open ≡ old.is_open
  pub attempt : new.attempt ≡ old.attempt
  pub unsent : IsLeftOf old.unsent new.unsent
  pub looked : new.looked ≡ old.looked

-- how many reads were made one after the other, up to the last one
abbrev pub row_of : Option Look → ℕ
row_of None = 0
row_of (Some look) = look.row

-- The connection is read once, after some of what is left was written.
pub record Looks (look : Look) (old new : ChannelView) : Type 0 where
  pub is_open : new.is_open ≡ old.is_open
  pub attempt : new.attempt ≡ old.attempt
  pub unsent : IsLeftOf old.unsent new.unsent
  pub looked : new.looked ≡ Some look
  pub row : look.row ≤ row_of old.looked + 1

-- ---- how far it has come

-- The agent, the connection, and what the program is told: what was passed on, and after it what waits for that.
pub record Course (A : Type 0) : Type 0 where
  pub agent : Agent A
  pub channel : ChannelView
  pub told : List Told

abbrev pub passed_by : {A : Type 0} → Option (Action A) → List Told
passed_by None = []
passed_by (Some action) = action_view action ∷ []

-- What waited still waits, before what came to it.
abbrev pub Extends : (old new : List Told) → Type 0
Extends old new = (more : List Told) × (new ≡ old ++ more)

abbrev pub course_of : {A S : Type 0} → Engine A S → Option (Action A) → Course A
course_of engine passed =
    record { agent = engine.agent; channel = channel_view engine.channel; told = passed_by passed ++ told_by engine.waiting.items }

-- each subject is followed, at the latest moment
abbrev pub AreFollowed : {A : Type 0} → Agent A → Type 0
AreFollowed agent = following.AreFollowed agent.latest (view_of agent.asker.follower.client) agent.asker.follower.subjects.items

-- after a close there is no connection, and none is asked for
abbrev pub IsShutAgent : {A : Type 0} → Agent A → Type 0
IsShutAgent agent = IsShut (trail_of agent [])

-- Something was due at this moment, or before it.
abbrev pub IsOverdue : {A : Type 0} → Agent A → (moment : ℕ) → Type 0
IsOverdue agent moment = (first : ℕ) × (first ≤ moment) × ¬ (NothingAt agent first)

-- The last read began if something was due already, and brought nothing; or it was the 64th in a row.
abbrev pub IsSeen : {A : Type 0} → Agent A → Option Look → Type 0
IsSeen agent None = ⊥
IsSeen agent (Some look) = ((look.is_quiet ≡ true) × IsOverdue agent look.began) ⊎ (64 ≤ look.row)

-- A moment may be told: if something was due on a connection before it, what that has brought was read.
abbrev pub IsTimely : {A : Type 0} → (now : ℕ) → Course A → Type 0
IsTimely now course = course.channel.is_open ≡ true → NothingAt course.agent (now - 1) ⊎ IsSeen course.agent course.channel.looked

-- What comes on a connection, its end, and what the program asks for while one is there, are handed in at a moment at which nothing is due.
-- A moment itself is told if it may be.
abbrev pub IsPatient : {A : Type 0} → (now : ℕ) → AgentInput A → Course A → Type 0
IsPatient now happens.Moment course = IsTimely now course
IsPatient now (happens.Bytes bytes) course = 0 < now → NothingAt course.agent now
IsPatient now happens.Opened course = ⊤
IsPatient now happens.Failed course = ⊤
IsPatient now happens.Cut course = 0 < now → NothingAt course.agent now
IsPatient now _ course = course.channel.is_open ≡ true → 0 < now → NothingAt course.agent now

-- The agent takes an input that was noticed at a moment, and what comes from outside is that: each subject is followed then, each call is
-- settled once or waits, none waits past its limit or after a close, no server is kept that leaves a call or a ping without its answer for
-- two thirds of the timeout, a session that has expired is over, what was due of the connection is done, and trees were tended. What it
-- says is carried out, or put after what the program is told, each in its order.
pub record Takes {A : Type 0} (now : ℕ) (input : AgentInput A) (old new : Course A) : Type 0 where
  pub patient : IsPatient now input old
  pub actions : List (Action A)
  pub comes : Comes (max old.agent.latest now) (moves_of (is_open new.agent.dialler.phase) (max old.agent.latest now) input old.agent)
      (trail_of old.agent []) (trail_of new.agent actions)
  pub followed : AreFollowed new.agent
  pub calls : (ticket : ℕ) → how_many ticket new.agent.asker.line.entries.items + how_many_ended ticket (told_by actions)
      ≡ how_many ticket old.agent.asker.line.entries.items + how_many_asked ticket input
  pub served : All (IsServed (view_of new.agent.asker.follower.client)) new.agent.asker.line.entries.items
  pub limits : All (IsInTime new.agent.latest) new.agent.asker.line.entries.items
  pub answers : IsAnswered new.agent
  pub closed : (view_of new.agent.asker.follower.client).standing.state ≡ Closed → new.agent.asker.line.entries.items ≡ []
  pub renewed : (view_of new.agent.asker.follower.client).standing.state ≢ Expired
  pub dials : (view_of new.agent.asker.follower.client).standing.state ≢ Closed
      → IsDecided (max old.agent.latest now) (trail_of new.agent actions)
  pub latest : new.agent.latest ≡ max old.agent.latest now
  pub heard : new.agent.heard_at ≡ heard_after (is_open old.agent.dialler.phase) (max old.agent.latest now) input old.agent.heard_at
  pub trees : GoesOn (max old.agent.latest now) input old.agent new.agent actions
  pub credentials : papers_of new.agent.credentials ≡ all_written (is_open new.agent.dialler.phase) (papers_in input old.agent)
  pub channel : new.channel ≡ fold carried old.channel (told_by actions)
  pub told : new.told ≡ old.told ++ filter is_passed (told_by actions)

-- What may happen on a connection, and the connection with it. An address that is to be dialled is dialled before anything else is noted,
-- and that it could not be is noted too. Bytes come, and the end does, where a connection is.
abbrev pub Meets : {A : Type 0} → ChannelView → AgentInput A → ChannelView → Type 0
Meets old happens.Opened new = (is_some old.attempt ≡ true) × (new ≡ opened)
Meets old happens.Failed new = (is_some old.attempt ≡ true) × (new ≡ closed)
Meets old (happens.Bytes bytes) new = (old.attempt ≡ None) × (old.is_open ≡ true) × (new ≡ old)
Meets old happens.Cut new = (old.attempt ≡ None) × (old.is_open ≡ true) × (new ≡ closed)
Meets old happens.Moment new = (old.attempt ≡ None) × (new ≡ old)
Meets old _ new = ⊥

pub data Move (A : Type 0) : Type 0 where
  Written : Move A
  Looked : Look → Move A
  Noted : (now : ℕ) → AgentInput A → Move A

-- What each move does.
abbrev pub Does : {A : Type 0} → Course A → Move A → Course A → Type 0
Does old Written new = Writes old.channel new.channel × (new ≡ record old { channel = new.channel })
Does old (Looked look) new = Looks look old.channel new.channel × (new ≡ record old { channel = new.channel })
Does {A} old (Noted now input) new =
    (between : ChannelView) × Meets old.channel input between × Takes now input (record old { channel = between }) new

-- Moves, the oldest first. A client that was led stands where it was led, and after a close there is no connection.
pub record Goes {A : Type 0} (old new : Course A) : Type 0 where
  pub moves : List (Move A)
  pub does : FoldsTo Does old moves new
  pub followed : AreFollowed old.agent → AreFollowed new.agent
  pub led : IsLed (view_of old.agent.asker.follower.client) → IsLed (view_of new.agent.asker.follower.client)
  pub shut : IsShutAgent old.agent → IsShutAgent new.agent

-- what a program asks for, and a driver hands in for it
abbrev pub IsAsked : {A : Type 0} → AgentInput A → Type 0
IsAsked (happens.Call ticket call until) = ⊤
IsAsked (happens.Follow ticket side path) = ⊤
IsAsked (happens.Unfollow ticket) = ⊤
IsAsked (happens.FollowTree ticket root most) = ⊤
IsAsked (happens.UnfollowTree ticket) = ⊤
IsAsked (happens.Addresses kept added is_listed) = ⊤
IsAsked _ = ⊥

-- The program hands the agent an input, at the moment at which it does.
pub record Hands {A : Type 0} (input : AgentInput A) (old new : Course A) : Type 0 where
  pub now : ℕ
  pub between : Course A
  pub takes : Takes now input old between
  pub writes : Does between Written new
