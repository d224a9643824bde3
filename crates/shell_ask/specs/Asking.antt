-- What a program asks of a driver, and what it hears of that.
use Rattle.std.specs.Prelude.{◌≡◌, ◌≤◌, ℕ, pos, not, Bool, true, [], ◌∷◌, Some}
use Rattle.std.specs.Ordering.{int_eq}
use Rattle.zk_link.specs.FarEnds.{FarEnd, Reached}
use Rattle.zk_conversation.specs.Calls.{Call}
use Rattle.zk_conversation.specs.Views.{call_view}
use Rattle.zk_conversation.specs.declared.call.Call.{Call as Handed}
use Rattle.zk_turns.specs.Turns.{Outcome, Answer, new_start}
use Rattle.zk_turns.specs.View.{View, view_at}
use Rattle.zk_client.specs.Clients.{view_of}
use Rattle.zk_agent.specs.Telling.{Told, Says, TimesOut}
use Rattle.zk_agent.specs.declared.input.AgentInput.TheVariants as happens
use Rattle.zk_driver.specs.Driving.{closed, Course, Goes, Hands}
use Rattle.zk_driver.specs.Flowing.{Flow, Runs}
use Rattle.shell_ask.specs.declared.came.Came.TheVariants as came

-- What came of a call: its answer, or its limit, with whether it was sent and whether a server had accepted the session by then.
pub data Coming : Type 0 where
  Answered : Outcome → Coming
  Late : (was_sent was_accepted : Bool) → Coming

-- a server has accepted the session: it has a number
abbrev pub has_session : View → Bool
has_session view = not (int_eq view.saved.session.session (pos 0))

abbrev pub is_accepted : {A : Type 0} → Course A → Bool
is_accepted course = has_session (view_of course.agent.asker.follower.client)

-- The program hears this next: the driver goes on, and this is the first that is told.
abbrev pub Tells : {A : Type 0} → (old : Course A) → Told → (new : Course A) → Type 0
Tells {A} old told new =
    (between : Course A) × Goes old between × (between.told ≡ told ∷ new.told) × (new ≡ record between { told = new.told })

-- What a program hears of a call that waits to a moment, after whatever else it is told: its answer, that its limit has come, or nothing by
-- this moment.
pub data Hears {A : Type 0} (ticket until : ℕ) (new : Course A) : Course A → Coming → Type 0 where
  answers : (old : Course A) (outcome : Outcome)
      → Tells old (Says (Answer ticket outcome)) new → Hears ticket until new old (Answered outcome)
  ends : (old : Course A) (was_sent : Bool)
      → Tells old (TimesOut ticket was_sent) new → Hears ticket until new old (Late was_sent (is_accepted new))
  passes : (old : Course A) → Goes old new → until ≤ new.agent.latest → Hears ticket until new old (Late true (is_accepted new))
  goes_on : (old between : Course A) (told : Told) (coming : Coming)
      → Tells old told between → Hears ticket until new between coming → Hears ticket until new old coming

-- A driver is handed a call that waits to a moment, and this comes of it.
pub record Heard {A : Type 0} (call : Call) (until : ℕ) (start : Course A) (coming : Coming) (last : Course A) : Type 0 where
  pub ticket : ℕ
  pub handed : Handed A
  pub asked : Course A
  pub is : call_view handed ≡ call
  pub hands : Hands (happens.Call ticket handed (Some until)) start asked
  pub hears : Hears ticket until last asked coming

-- how far a driver has come, what is known of its connection, and nothing that was read and is not handed in
abbrev pub flow_at : {A : Type 0} {far : FarEnd} → Course A → Reached far → Flow A far
flow_at course known = record { course = course; known = known; held = [] }

-- So does a driver with a new session, which has no connection yet. Byte by byte it is a run of that driver.
pub record ComesOf (A : Type 0) (far : FarEnd) (call : Call) (coming : Coming) : Type 0 where
  pub timeout : ℕ
  pub until : ℕ
  pub start : Course A
  pub last : Course A
  pub begins : view_of start.agent.asker.follower.client ≡ view_at (new_start timeout) []
  pub parted : start.channel ≡ closed
  pub untold : start.told ≡ []
  pub heard : Heard call until start coming last
  pub before : Reached far
  pub after : Reached far
  pub runs : Runs (flow_at start before) (flow_at last after)
