-- What goes through a driver, byte by byte, over streams that know what they have still to give and what they took.
use Rattle.std.specs.Prelude.{◌≡◌, ⊤, ℕ, true, List, [], ◌∷◌, ◌++◌, Option, Some, None, IfSome}
use Rattle.std.specs.List.{flat_map, FoldsTo}
use Rattle.std.specs.Io.KnownBytes.{Appends}
use Rattle.zk_turns.specs.Turns.{Send}
use Rattle.zk_agent.specs.declared.action.Action.{Action}
use Rattle.zk_agent.specs.declared.input.AgentInput.{AgentInput}
use Rattle.zk_agent.specs.declared.input.AgentInput.TheVariants as happens
use Rattle.zk_agent.specs.Telling.{Told, Says, told_by}
use Rattle.zk_link.specs.FarEnds.{reached_of, Begun, FarEnd, Reached, Reaches}
use Rattle.zk_driver.specs.declared.engine.Engine.{Engine}
use Rattle.zk_driver.specs.Driving.{course_of, Course, Does, IsAsked, Move, Written, Looked, Noted, Takes}

-- How far a driver has come, what is known of its connection, and what was read and is not handed to the agent yet.
pub record Flow (A : Type 0) (far : FarEnd) : Type 0 where
  pub course : Course A
  pub known : Reached far
  pub held : List ℕ

abbrev pub flow_of : {A S : Type 0} → (remaining contents : S → Option (List ℕ)) → (far : FarEnd) → (state : S → far.State)
    → Engine A S → Option (Action A) → Flow A far
flow_of remaining contents far state engine passed =
    record { course = course_of engine passed; known = reached_of remaining contents far state engine.channel.stream; held = [] }

-- the bytes that the agent is handed by an input
abbrev pub bytes_in : {A : Type 0} → AgentInput A → List ℕ
bytes_in (happens.Bytes bytes) = bytes.items
bytes_in input = []

-- The connection is as it was, unless it is over, or one begins.
abbrev pub Lasts : {A : Type 0} {far : FarEnd} → AgentInput A → (old new : Flow A far) → Type 0
Lasts {A} {far} happens.Opened old new = new.course.channel.is_open ≡ true → Begun far new.known.end
Lasts happens.Failed old new = ⊤
Lasts happens.Cut old new = ⊤
Lasts input old new = new.course.channel.is_open ≡ true → new.known ≡ old.known

-- A driver makes a move, or its program asks for something.
pub data Deed (A : Type 0) : Type 0 where
  Made : Move A → Deed A
  Asked : (now : ℕ) → AgentInput A → Deed A

-- What each does. What a read brings is held, and is what the agent is handed next, whole; nothing else is handed to it as bytes, and
-- nothing is read before that.
abbrev pub Carries : {A : Type 0} {far : FarEnd} → Flow A far → Deed A → Flow A far → Type 0
Carries old (Made Written) new =
    Does old.course Written new.course
    × Reaches old.course.channel.unsent new.course.channel.unsent old.known new.known [] × (new.held ≡ old.held)
Carries old (Made (Looked look)) new =
    Does old.course (Looked look) new.course
    × Reaches old.course.channel.unsent new.course.channel.unsent old.known new.known new.held × (old.held ≡ [])
Carries old (Made (Noted now input)) new =
    Does old.course (Noted now input) new.course × Lasts input old new × (bytes_in input ≡ old.held) × (new.held ≡ [])
Carries old (Asked now input) new =
    Takes now input old.course new.course × IsAsked input × (new.course.channel.is_open ≡ true → new.known ≡ old.known)
    × (old.held ≡ []) × (new.held ≡ [])

-- deeds, the oldest first
pub record Flows {A : Type 0} {far : FarEnd} (old new : Flow A far) : Type 0 where
  pub deeds : List (Deed A)
  pub carries : FoldsTo Carries old deeds new

-- ---- call after call

-- A driver does something; or its program takes of what it is told.
abbrev pub Passes : {A : Type 0} {far : FarEnd} → Flow A far → Option (Deed A) → Flow A far → Type 0
Passes old (Some deed) new = Carries old deed new
Passes old None new = new ≡ record old { course = record old.course { told = new.course.told } }

-- some of that, the oldest first
pub record Runs {A : Type 0} {far : FarEnd} (old new : Flow A far) : Type 0 where
  pub steps : List (Option (Deed A))
  pub passes : FoldsTo Passes old steps new

-- So is a call of a driver, that the program takes of what it is told, and one after the other.
abbrev pub CallsRun : Type 0 → FarEnd → Type 0
CallsRun A far = (old new : Flow A far) → Flows old new → Runs old new

abbrev pub TakingRuns : Type 0 → FarEnd → Type 0
TakingRuns A far = (old : Flow A far) (told : List Told) → Runs old (record old { course = record old.course { told = told } })

abbrev pub RunsJoin : Type 0 → FarEnd → Type 0
RunsJoin A far = (old between new : Flow A far) → Runs old between → Runs between new → Runs old new

-- ---- what follows, as long as one connection lasts

-- No connection begins.
abbrev pub AreWithin : {A : Type 0} → List (Deed A) → Type 0
AreWithin [] = ⊤
AreWithin (Made (Noted now happens.Opened) ∷ deeds) = ⊥
AreWithin (deed ∷ deeds) = AreWithin deeds

-- what the agent is handed of the connection
abbrev pub handed_by : {A : Type 0} → Deed A → List ℕ
handed_by (Made (Noted now input)) = bytes_in input
handed_by deed = []

-- the frame that is sent
abbrev pub frame_of : Told → List ℕ
frame_of (Says (Send bytes)) = bytes
frame_of told = []

-- what is sent, in order
abbrev pub sent_in : {A : Type 0} {far : FarEnd} → (deeds : List (Deed A)) → (old new : Flow A far) → FoldsTo Carries old deeds new → List ℕ
sent_in [] old new carries = []
sent_in (Made (Noted now input) ∷ deeds) old new carries =
    flat_map frame_of (told_by carries.1.0.2.actions) ++ sent_in deeds carries.0 new carries.2
sent_in (Asked now input ∷ deeds) old new carries = flat_map frame_of (told_by carries.1.0.actions) ++ sent_in deeds carries.0 new carries.2
sent_in (Made Written ∷ deeds) old new carries = sent_in deeds carries.0 new carries.2
sent_in (Made (Looked look) ∷ deeds) old new carries = sent_in deeds carries.0 new carries.2

-- Whatever a driver does on a connection: what the agent is handed, joined, is a beginning of what the stream had to give.
abbrev pub BytesComeWhole : Type 0 → FarEnd → Type 0
BytesComeWhole A far =
    (deeds : List (Deed A)) → (old new : Flow A far) → FoldsTo Carries old deeds new → AreWithin deeds
    → old.held ≡ [] → IfSome old.known.left (λ bytes. (rest : List ℕ) × (bytes ≡ flat_map handed_by deeds ++ rest))

-- And as long as the connection is there, what the stream took is a beginning of what was unsent, and was sent since: the rest is unsent.
abbrev pub BytesGoWhole : Type 0 → FarEnd → Type 0
BytesGoWhole A far =
    (deeds : List (Deed A)) → (old new : Flow A far) → (carries : FoldsTo Carries old deeds new) → AreWithin deeds
    → new.course.channel.is_open ≡ true
    → (written : List ℕ) × Appends old.known.took new.known.took written
    × (old.course.channel.unsent ++ sent_in deeds old new carries ≡ written ++ new.course.channel.unsent)
