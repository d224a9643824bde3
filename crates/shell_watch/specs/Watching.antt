-- What a watch does, and what it prints.
use Rattle.std.specs.Prelude.{◌≡◌, ◌≢◌, ◌<◌, ◌≤◌, ◌+◌, ◌||◌, min, ◌^◌, ◌-◌, ◌⊎◌, ⊤, ℕ, Bool, true, false, bytes_eq, List, [], ◌∷◌, ◌++◌}
use Rattle.std.specs.Prelude.{Option, Some, None, unsigned_abs}
use Rattle.std.specs.List.{flat_map, FoldsTo}
use Rattle.zk_nodes.specs.Path.{Text}
use Rattle.zk_nodes.specs.declared.side.Side.{Side}
use Rattle.zk_session.specs.declared.states.State.TheVariants.{Connected}
use Rattle.zk_conversation.specs.declared.call.Call.TheVariants as call
use Rattle.zk_turns.specs.Turns.{Enters, new_start}
use Rattle.zk_turns.specs.View.{View, view_at}
use Rattle.zk_client.specs.Clients.{view_of}
use Rattle.zk_agent.specs.Agents.{IsLed}
use Rattle.zk_agent.specs.Telling.{Told, Says, action_view}
use Rattle.zk_agent.specs.declared.input.AgentInput.TheVariants as happens
use Rattle.zk_driver.specs.Driving.{closed, passed_by, AreFollowed, Course, Hands}
use Rattle.zk_link.specs.FarEnds.{FarEnd, Reached}
use Rattle.zk_driver.specs.Flowing.{Flow, Runs}
use Rattle.zk_driver.specs.Noting.{notes_of, passed_in, GoesBy}
use Rattle.zk_driver.specs.declared.turn.Turn.{Turn}
use Rattle.zk_driver.specs.declared.turn.Turn.TheVariants as turn
use Rattle.shell_watch.specs.Lines.{turn_line, IsSubjectLine, Looks}
pub use Rattle.shell_watch.specs.Trees.{aim_of, aims_of}
use Rattle.shell_watch.specs.Trees.{bound_text, fresh, grown_after, has_bounded, printed, staying, watched_after}
use Rattle.shell_watch.specs.declared.growth.Growth.{Growth}
use Rattle.shell_watch.specs.declared.plan.Style.{Style}
use Rattle.shell_watch.specs.declared.shown.Watched.{Watched}

-- ---- what is shown of subjects

-- The line of a subject is printed if the words are not those that were printed last.
abbrev pub PrintsChange : (is_same : Bool) → Style → (ms : ℕ) → Side → Text → View → (words text : List ℕ) → Type 0
PrintsChange true style ms side path view words text = text ≡ []
PrintsChange false style ms side path view words text = IsSubjectLine style ms side path view words text

-- A subject is shown: what was printed of it last is the look-up then, and it is printed if it was not.
pub record ShowsSo {A : Type 0} (style : Style) (ms : ℕ) (view : View) (old new : Watched A) (text : List ℕ) : Type 0 where
  pub aim : aim_of new.subject ≡ aim_of old.subject
  pub ticket : new.ticket ≡ old.ticket
  pub leaving : new.is_leaving ≡ old.is_leaving
  pub looks : Looks new.subject.side new.subject.path view (printed new)
  pub line : PrintsChange (bytes_eq (printed new) (printed old)) style ms new.subject.side new.subject.path view (printed new) text

-- Each is, in order.
abbrev pub ShowsAll : {A : Type 0} → Style → (ms : ℕ) → View → (old new : List (Watched A)) → (text : List ℕ) → Type 0
ShowsAll style ms view [] [] text = text ≡ []
ShowsAll style ms view (old ∷ olds) (new ∷ news) text =
    (first rest : List ℕ) × ShowsSo style ms view old new first × ShowsAll style ms view olds news rest × (text ≡ first ++ rest)
ShowsAll style ms view olds news text = ⊥

-- ---- how far a watch has come

-- The agent and its connection, with what it has told that was not taken yet; what is known of the connection; the subjects with
-- what was printed of each last; whether a server has accepted a session; how it is printed; and how its trees grow.
pub record Stand (A : Type 0) (far : FarEnd) : Type 0 where
  pub course : Course A
  pub known : Reached far
  pub watched : List (Watched A)
  pub is_accepted : Bool
  pub style : Style
  pub growth : Growth

abbrev pub view_in : {A : Type 0} {far : FarEnd} → Stand A far → View
view_in stand = view_of stand.course.agent.asker.follower.client

-- how far the driver has come, what is known of its connection, and nothing that was read and is not handed in
abbrev pub flow_in : {A : Type 0} {far : FarEnd} → Stand A far → Flow A far
flow_in stand = record { course = stand.course; known = stand.known; held = [] }

-- that a server has accepted a session
abbrev pub accepts_by : Told → Bool
accepts_by (Says (Enters Connected)) = true
accepts_by told = false

abbrev pub accepts : {A : Type 0} → Turn A → Bool
accepts (turn.Told action) = accepts_by (action_view action)
accepts turn = false

-- What is printed of a turn: its words, after some time, and that a tree has more nodes than the most, if none had. What is told of a
-- tree decides what is watched. If nothing waits to be told then, each subject is printed after them of which what the client keeps is
-- not what was printed last: so what was printed last of each subject is the look-up then. What was let go is watched no more after that.
pub record TellsTurn {A : Type 0} (style : Style) (turn : Turn A) (view : View) (waits : List Told) (growth : Growth)
    (old new : List (Watched A)) (text : List ℕ) : Type 0 where
  pub ms : ℕ
  pub at : Text
  pub here : List (Watched A)
  pub shown : List ℕ
  pub shows : waits ≡ [] → ShowsAll style ms view (watched_after turn growth old) here shown × (new ≡ staying here)
  pub rests : waits ≢ [] → (new ≡ watched_after turn growth old) × (shown ≡ [])
  pub are : text ≡ turn_line style ms old at view turn
      ++ (bound_text (has_bounded growth) (has_bounded (grown_after turn growth)) style ms growth.most ++ shown)

-- One turn of the driver, and what is printed of it. What waits to be told is neither lost nor told twice. Byte by byte it is a run.
pub record Turns {A : Type 0} {far : FarEnd} (turn : Turn A) (old : Stand A far) (text : List ℕ) (new : Stand A far) : Type 0 where
  pub goes : GoesBy (notes_of turn) old.course (record new.course { told = passed_by (passed_in turn) ++ new.course.told })
  pub runs : Runs (flow_in old) (flow_in new)
  pub tells : TellsTurn old.style turn (view_in new) new.course.told old.growth old.watched new.watched text
  pub accepted : new.is_accepted ≡ (old.is_accepted || accepts turn)
  pub style : new.style ≡ old.style
  pub growth : new.growth ≡ grown_after turn old.growth

-- ---- what is followed

-- A subject is followed, by the next ticket: as if nothing were kept of it and that were printed.
pub record FollowsSo {A : Type 0} {far : FarEnd} (aim : Side × Text) (old new : Stand A far) : Type 0 where
  pub hands : Hands (happens.Follow old.growth.ticket aim.0 aim.1) old.course new.course
  pub runs : Runs (flow_in old) (flow_in new)
  pub watched : new.watched ≡ old.watched ++ fresh old.growth.ticket aim ∷ []
  pub accepted : new.is_accepted ≡ old.is_accepted
  pub style : new.style ≡ old.style
  pub growth : new.growth ≡ record old.growth { ticket = old.growth.ticket + 1 }

-- Each of these is, in order.
abbrev pub FollowsAll : {A : Type 0} {far : FarEnd} → List (Side × Text) → (old new : Stand A far) → Type 0
FollowsAll aims old new = FoldsTo (λ at aim after. FollowsSo aim at after) old aims new

-- A tree is followed, by the next ticket. What the agent tells of it then decides what is watched.
pub record PlantsSo {A : Type 0} {far : FarEnd} (root : Text) (old new : Stand A far) : Type 0 where
  pub hands : Hands (happens.FollowTree old.growth.ticket root old.growth.most) old.course new.course
  pub runs : Runs (flow_in old) (flow_in new)
  pub watched : new.watched ≡ old.watched
  pub accepted : new.is_accepted ≡ old.is_accepted
  pub style : new.style ≡ old.style
  pub growth : new.growth ≡ record old.growth { ticket = old.growth.ticket + 1 }

-- Each of these is, in order.
abbrev pub PlantsAll : {A : Type 0} {far : FarEnd} → (roots : List Text) → (old new : Stand A far) → Type 0
PlantsAll roots old new = FoldsTo (λ at root after. PlantsSo root at after) old roots new

-- Each subject is followed, and then each tree.
pub record Prepares {A : Type 0} {far : FarEnd} (aims : List (Side × Text)) (roots : List Text) (old new : Stand A far) : Type 0 where
  pub between : Stand A far
  pub follows : FollowsAll aims old between
  pub plants : PlantsAll roots between new

-- ---- how a watch goes on

pub data Move (A : Type 0) : Type 0 where
  Takes : (turn : Turn A) → (text : List ℕ) → Move A
  Closes : (until : ℕ) → Move A

abbrev pub text_of : {A : Type 0} → Move A → List ℕ
text_of (Takes turn text) = text
text_of (Closes until) = []

-- A turn is made and printed; or the end of the session is asked for, and no tree grows from then on.
abbrev pub Does : {A : Type 0} {far : FarEnd} → Stand A far → Move A → Stand A far → Type 0
Does old (Takes turn text) new = Turns turn old text new
Does old (Closes until) new =
    Hands (happens.Call 0 call.Close (Some until)) old.course new.course × Runs (flow_in old) (flow_in new) × (new.watched ≡ old.watched)
    × (new.is_accepted ≡ old.is_accepted)
    × (new.style ≡ old.style) × (new.growth ≡ record old.growth { is_growing = false })

-- Some moves print this.
pub record Prints {A : Type 0} {far : FarEnd} (old : Stand A far) (text : List ℕ) (new : Stand A far) : Type 0 where
  pub moves : List (Move A)
  pub does : FoldsTo Does old moves new
  pub are : text ≡ flat_map text_of moves

-- The moment has come, and nothing waits to be told.
abbrev pub HasCome : {A : Type 0} {far : FarEnd} → (until : ℕ) → Stand A far → Type 0
HasCome until stand = (until ≤ stand.course.agent.latest) × (stand.course.told ≡ [])

-- the moment at which a watch is over
abbrev pub end_of : (begins : ℕ) → Option ℕ → ℕ
end_of begins None = 2 ^ 64 - 1
end_of begins (Some ms) = min (begins + ms) (2 ^ 64 - 1)

-- the first move is that the end of the session is asked for
abbrev pub AsksFirst : {A : Type 0} → List (Move A) → Type 0
AsksFirst [] = ⊥
AsksFirst (Takes turn text ∷ moves) = ⊥
AsksFirst (Closes until ∷ moves) = ⊤

-- If the client is connected, the end of the session is asked for, and what comes of that is printed; else nothing happens.
pub record EndsBy {A : Type 0} {far : FarEnd} (old : Stand A far) (moves : List (Move A)) : Type 0 where
  pub asks : (view_in old).standing.state ≡ Connected → AsksFirst moves
  pub rests : (view_in old).standing.state ≢ Connected → moves ≡ []

-- The moment has come at which a watch is over, and then the session is ended.
pub record IsOver {A : Type 0} {far : FarEnd} (for_ms : Option ℕ) (ready last : Stand A far) (text : List ℕ) : Type 0 where
  pub begins : ℕ
  pub over : Stand A far
  pub told : List ℕ
  pub rest : List ℕ
  pub prints : Prints ready told over
  pub comes : HasCome (end_of begins for_ms) over
  pub closes : Prints over rest last
  pub ends : EndsBy over closes.moves
  pub are : text ≡ told ++ rest

-- ---- the whole

-- A new session, which asks for a timeout above 0 and of 31 bits, as later ones will, and no connection; how it is printed; and the most
-- nodes of trees, of which none is followed yet.
pub record IsBegun {A : Type 0} {far : FarEnd} (style : Style) (most : ℕ) (first : Stand A far) : Type 0 where
  pub timeout : ℕ
  pub least : 0 < timeout
  pub below : timeout < 2 ^ 31
  pub later : unsigned_abs first.course.agent.timeout_ms ≡ timeout
  pub client : view_in first ≡ view_at (new_start timeout) []
  pub followed : AreFollowed first.course.agent
  pub channel : first.course.channel ≡ closed
  pub told : first.course.told ≡ []
  pub watched : first.watched ≡ []
  pub accepted : first.is_accepted ≡ false
  pub prints : first.style ≡ style
  pub growth : first.growth ≡ record { most = most; bounded = 0; ticket = 1; is_growing = true }

-- What a watch of these has printed, wherever it stopped: nothing before each is followed.
pub record PrintsFrom {A : Type 0} {far : FarEnd} (aims : List (Side × Text)) (roots : List Text) (first : Stand A far)
    (text : List ℕ) : Type 0 where
  pub ready : Stand A far
  pub last : Stand A far
  pub follows : Prepares aims roots first ready
  pub prints : Prints ready text last

-- What it has printed whose time is over, and whether a server has accepted a session.
pub record EndsFrom {A : Type 0} {far : FarEnd} (aims : List (Side × Text)) (roots : List Text) (for_ms : Option ℕ) (first : Stand A far)
    (text : List ℕ) (is_accepted : Bool) : Type 0 where
  pub ready : Stand A far
  pub last : Stand A far
  pub follows : Prepares aims roots first ready
  pub over : IsOver for_ms ready last text
  pub accepted : last.is_accepted ≡ is_accepted

-- Each client that something is printed of stands where turns by the rule have led it.
abbrev pub AllStood : {A : Type 0} {far : FarEnd} → (moves : List (Move A)) → (old new : Stand A far) → FoldsTo Does old moves new → Type 0
AllStood [] old new does = ⊤
AllStood (move ∷ moves) old new does = IsLed (view_in does.0) × AllStood moves does.0 new does.2

abbrev pub IsStood : {A : Type 0} {far : FarEnd} → (old : Stand A far) → (text : List ℕ) → (new : Stand A far)
    → Prints old text new → Type 0
IsStood old text new prints = AllStood prints.moves old new prints.does

abbrev pub IsPrinted : (A : Type 0) → FarEnd → Style → List (Side × Text) → (roots : List Text) → (most : ℕ) → List ℕ → Type 0
IsPrinted A far style aims roots most text =
    (text ≡ []) ⊎ ((first : Stand A far) × IsBegun style most first × (from : PrintsFrom aims roots first text)
    × IsStood from.ready text from.last from.prints)

abbrev pub IsWatched : (A : Type 0) → FarEnd → Style → List (Side × Text) → (roots : List Text) → (most : ℕ)
    → Option ℕ → List ℕ → (is_accepted : Bool) → Type 0
IsWatched A far style aims roots most for_ms text is_accepted =
    (first : Stand A far) × IsBegun style most first × (from : EndsFrom aims roots for_ms first text is_accepted)
    × IsStood from.ready from.over.told from.over.over from.over.prints × IsStood from.over.over from.over.rest from.last from.over.closes

-- ---- what follows byte by byte

-- A watch is a run of its driver, through all that it prints and follows.
abbrev pub WatchesRun : Type 0 → FarEnd → Type 0
WatchesRun A far = (old new : Stand A far) (text : List ℕ) → Prints old text new → Runs (flow_in old) (flow_in new)

abbrev pub FollowsRun : Type 0 → FarEnd → Type 0
FollowsRun A far = (aims : List (Side × Text)) (roots : List Text) (old new : Stand A far) → Prepares aims roots old new
    → Runs (flow_in old) (flow_in new)
