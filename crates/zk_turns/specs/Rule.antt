-- One step of a client: what each happening makes it say, and what it changes. And what it is for a client to stand
-- where all its turns have led.
use Rattle.zk_cache.specs.Kept.{merged, Absent, Known, Full, Names, good, stale, without_stale, Answer as Kept_answer}
use Rattle.zk_cache.specs.declared.held.Kept.{Kept}
use Rattle.zk_watches.specs.Lists.{Lists, registered, fired, fires, no_lists}
use Rattle.zk_turns.specs.Turns.{IsAskable, AllAskOf, IsAsked, Replied, ConnectionLoss, Output, Send, Answer, Report, Enters, Drop, Now}
use Rattle.zk_turns.specs.Turns.{Turn, Item, Turned, Start, Signal, signals_of}
use Rattle.zk_records.specs.Events.{concerns}
use Rattle.zk_turns.specs.Past.{pending_for, Happening, Began, Came, Took, Dropped, Lost, Asked, Denied, Pinged, Ticked, Forgot, Halted}
use Rattle.zk_turns.specs.Past.{Past, Message, Accepted, Expiry, Replies, Watches_set, Notifies, Pong, Skipped, Left, leaves_data}
use Rattle.zk_turns.specs.Past.{leaves_child, parts_asked, has_halted, is_open}
use Rattle.std.specs.Int.{int_max}
use Rattle.zk_watches.specs.Parts.{parts}
use Rattle.zk_conversation.specs.Pending.{next_xid, call_waits, Pending, Part_waits, Call_waits}
use Rattle.std.specs.Prelude.{◌≡◌, ◌⊎◌, ℕ, ℤ, pos, max, Bool, true, false, ◌&&◌, List, [], ◌∷◌, ◌++◌, map, drop, Option, Some, None}
use Rattle.std.specs.Prelude.{bytes_eq, if◌then◌else◌}
use Rattle.std.specs.List.{flat_map}
use Rattle.zk_nodes.specs.Path.{Text}
use Rattle.zk_conversation.specs.Calls.{connect_payload, call_payload, ping_payload, part_payload}
use Rattle.zk_nodes.specs.declared.side.Side.{Side}
use Rattle.zk_nodes.specs.declared.side.Side.TheVariants.{Data, Child}
use Rattle.zk_records.specs.declared.event.Event.{Event}
use Rattle.zk_conversation.specs.Questions.{Question, Close}
use Rattle.zk_conversation.specs.Results.{Result}
use Rattle.zk_session.specs.declared.states.State.{State}
use Rattle.zk_session.specs.declared.states.State.TheVariants.{Idle, Connecting, Connected, Expired, Closed}
use Rattle.zk_frames.specs.Frame.{frame}
use Rattle.zk_turns.specs.View.{View, Standing, Cache, view_at}
use Rattle.zk_session.specs.SessionView.{Saved, Moments}
use Rattle.zk_turns.specs.Taken.{happenings, past_of, past_after}

-- Lists

-- whether an answer says that the node is there
abbrev pub says_there : Kept_answer → Bool
says_there Absent = false
says_there (Known fields) = true
says_there (Full bytes fields) = true

abbrev pub with_node : Option (Left Kept_answer) → Lists → Lists
with_node None lists = lists
with_node (Some left) lists = registered lists Data (says_there left.says) left.path

abbrev pub with_children : Option (Left Names) → Lists → Lists
with_children None lists = lists
with_children (Some left) lists = registered lists Child true left.path

-- the lists after a reply
abbrev pub after_reply : Question → Result → Lists → Lists
after_reply question result lists = with_children (leaves_child question result) (with_node (leaves_data question result) lists)

-- Answers

abbrev pub keep_node : Option (Left Kept_answer) → Text → Option (Kept Kept_answer) → Option (Kept Kept_answer)
keep_node None path kept = kept
keep_node (Some left) path kept = if bytes_eq left.path path then good (merged kept left.says) else kept

abbrev pub keep_children : Option (Left Names) → Text → Option (Kept Names) → Option (Kept Names)
keep_children None path kept = kept
keep_children (Some left) path kept = if bytes_eq left.path path then good left.says else kept

-- the cache after a reply
abbrev pub kept_after : Question → Result → Cache → Cache
kept_after question result cache = record {
  nodes = λ path. keep_node (leaves_data question result) path (cache.nodes path);
  children = λ path. keep_children (leaves_child question result) path (cache.children path);
}

-- the cache after an event at a path
abbrev pub spoilt : Event → Text → Cache → Cache
spoilt event at cache = record {
  nodes = λ path. if concerns event Data && bytes_eq at path then stale (cache.nodes path) else cache.nodes path;
  children = λ path. if concerns event Child && bytes_eq at path then stale (cache.children path) else cache.children path;
}

abbrev pub forgotten : Cache → Cache
forgotten cache = record { nodes = λ path. without_stale (cache.nodes path); children = λ path. without_stale (cache.children path) }

abbrev pub empty_cache : Cache
empty_cache = record { nodes = λ path. None; children = λ path. None }

-- What is said

-- each pending call is answered that its connection was lost
abbrev pub loss : Pending → List Output
loss pending = elim pending.waiting [ Part_waits last ↦ [] | Call_waits ticket question ↦ Answer ticket ConnectionLoss ∷ [] ]

abbrev pub losses : View → List Output
losses view = flat_map loss view.pending ++ Enters Idle ∷ []

abbrev pub part_frame : ℤ → Lists → Output
part_frame relative part = Send (frame (part_payload relative part.data_watches part.exist_watches part.child_watches))

-- each side that is watched and that the event is about gets a report
abbrev pub report : View → Event → Text → Side → List Output
report view event path side = if fires view.lists event side path then Report path side event ∷ [] else []

-- the outputs of one happening
abbrev pub says : View → Happening → List Output
says view Began =
    Send (frame (connect_payload view.saved.last (pos view.saved.asked) view.saved.session.session view.saved.session.password))
    ∷ Enters Connecting ∷ []
says view (Took (Accepted welcome)) = Enters Connected ∷ map (part_frame view.saved.last) (parts view.lists)
says view (Took Expiry) = Enters Expired ∷ []
says view (Took (Replies ticket question zxid result)) =
    Answer ticket (Replied zxid result) ∷ (elim question [ Close ↦ Enters Closed ∷ [] | _ ↦ [] ])
says view (Took (Notifies event path)) = report view event path Data ++ report view event path Child
says view (Dropped fault) = Drop fault ∷ losses view
says view Lost = losses view
says view (Asked ticket call) = Send (frame (call_payload (pos view.xid) call)) ∷ []
says view (Denied ticket why) = Answer ticket why ∷ []
says view Pinged = Send (frame ping_payload) ∷ []
says view _ = []

-- What is changed

-- one where there are parts to be sent, the other where there are none
abbrev pub if_any : {A : Type 0} → List Lists → A → A → A
if_any parts none some = elim parts [ [] ↦ none | _ ↦ some ]

abbrev pub enters : State → View → Standing
enters state view = record { halted = view.standing.halted; state = state }

abbrev pub seen : ℤ → View → Saved
seen zxid view = record { asked = view.saved.asked; session = view.saved.session; last = int_max zxid view.saved.last }

abbrev pub heard_now : View → Moments
heard_now view = record { now = view.moments.now; heard = view.moments.now; sent = view.moments.sent }

abbrev pub sent_now : View → Moments
sent_now view = record { now = view.moments.now; heard = view.moments.heard; sent = view.moments.now }

-- the connection is over: what was unfinished is dropped, marks and lists are kept
abbrev pub cut_off : View → View
cut_off view = record view { standing = enters Idle view; pending = []; held = [] }

-- a reply to a call
abbrev pub next_reply : View → Question → ℤ → Result → View
next_reply view Close zxid result =
    record view { standing = enters Closed view; saved = seen zxid view; pending = []; held = []; lists = no_lists; cache = empty_cache }
next_reply view question zxid result = record view {
  saved = seen zxid view;
  pending = drop 1 view.pending;
  held = [];
  lists = after_reply question result view.lists;
  cache = kept_after question result view.cache;
}

abbrev pub next_message : View → Message → View
next_message view (Accepted welcome) = record view {
  standing = enters Connected view;
  saved = record { asked = view.saved.asked; session = welcome; last = view.saved.last };
  moments = if_any (parts view.lists) view.moments (sent_now view);
  pending = map pending_for (parts_asked (parts view.lists));
  held = [];
}
next_message view Expiry = record view { standing = enters Expired view; pending = []; held = []; lists = no_lists; cache = empty_cache }
next_message view (Replies ticket question zxid result) = next_reply view question zxid result
next_message view (Watches_set true zxid) = record view { saved = seen zxid view; pending = drop 1 view.pending; held = [] }
next_message view (Watches_set false zxid) = record view { pending = drop 1 view.pending; held = [] }
next_message view (Notifies event path) =
    record view { held = []; lists = fired view.lists event path; cache = spoilt event path view.cache }
next_message view Pong = record view { held = [] }
next_message view Skipped = record view { held = [] }

-- the view after one happening
abbrev pub next : View → Happening → View
next view Began = record view {
  standing = enters Connecting view;
  pending = [];
  held = [];
  moments = record { now = view.moments.now; heard = view.moments.now; sent = view.moments.now };
}
next view (Came byte) = record view { moments = heard_now view; held = view.held ++ byte ∷ [] }
next view (Took message) = next_message view message
next view (Dropped fault) = cut_off view
next view Lost = cut_off view
next view (Asked ticket call) = record view {
  moments = sent_now view;
  xid = next_xid view.xid;
  pending = view.pending ++ call_waits view.xid ticket call ∷ [];
}
next view (Denied ticket why) = view
next view Pinged = record view { moments = sent_now view }
next view (Ticked moment) =
    record view { moments = record { now = max moment view.moments.now; heard = view.moments.heard; sent = view.moments.sent } }
next view Forgot = record view { cache = forgotten view.cache }
next view Halted = record view { standing = record { halted = true; state = view.standing.state }; lists = no_lists; cache = empty_cache }

-- Steps

abbrev pub after_all : View → List Happening → View
after_all view [] = view
after_all view (happening ∷ more) = after_all (next view happening) more

abbrev pub says_all : View → List Happening → List Output
says_all view [] = []
says_all view (happening ∷ more) = says view happening ++ says_all (next view happening) more

-- the view after signals, and what they made the client say
abbrev pub after_signals : View → List Signal → View
after_signals view [] = view
after_signals view (signal ∷ more) = after_signals (after_all view (happenings view signal)) more

abbrev pub says_signals : View → List Signal → List Output
says_signals view [] = []
says_signals view (signal ∷ more) = says_all view (happenings view signal) ++ says_signals (after_all view (happenings view signal)) more

-- a client that takes bytes
abbrev pub IsOpen : State → Type 0
IsOpen state = is_open state ≡ true

-- One turn of a client that has not halted. What a caller asks is about a path, with values of their types.
pub record Rule (view : View) (turn : Turn) (after : View) : Type 0 where
  pub asked : IsAsked turn.input
  pub goes_on : view.standing.halted ≡ false
  pub outputs : turn.outputs ≡ says_signals view (signals_of turn.input)
  pub next : after ≡ after_signals view (signals_of turn.input)

-- Two turns of one call: a moment is told, and then an input comes. What is given is what both gave.
pub record RuleAt (moment : ℕ) (view : View) (turn : Turn) (after : View) : Type 0 where
  pub first : List Output
  pub second : List Output
  pub between : View
  pub outputs : turn.outputs ≡ first ++ second
  pub tells : Rule view (record { input = Now moment; outputs = first }) between
  pub takes : Rule between (record { input = turn.input; outputs = second }) after

-- All turns

module _ (start : Start) where
  -- what is said while a past grows by signals, by the definitions alone
  abbrev pub due_happenings : Past → List Happening → List Output
  due_happenings past [] = []
  due_happenings past (happening ∷ more) = says (view_at start past) happening ++ due_happenings (happening ∷ past) more

  abbrev pub due_signals : Past → List Signal → List Output
  due_signals past [] = []
  due_signals past (signal ∷ more) =
      due_happenings past (happenings (view_at start past) signal) ++ due_signals (past_after start past (signal ∷ [])) more

  -- each turn gave what was due
  abbrev pub AllSaid : List Item → Type 0
  AllSaid [] = Unit {0}
  AllSaid (Turned turn ∷ items) = (turn.outputs ≡ due_signals (past_of start items) (signals_of turn.input)) × AllSaid items
  AllSaid (_ ∷ items) = AllSaid items

  -- A client has come through these items, the newest first: each field is what the definitions give, and each turn
  -- gave what was due. Of a client that has halted nothing is known of its connection.
  pub record Stands (items : List Item) (view : View) : Type 0 where
    pub standing : view.standing ≡ (view_at start (past_of start items)).standing
    pub saved : view.saved ≡ (view_at start (past_of start items)).saved
    pub lists : view.lists ≡ (view_at start (past_of start items)).lists
    pub cache : view.cache ≡ (view_at start (past_of start items)).cache
    pub going : has_halted (past_of start items) ≡ false → view ≡ view_at start (past_of start items)
    pub said : AllSaid items
    pub asked : AllAskOf IsAskable items

-- A client has come through these items, and then through two turns: a moment, and an input.
pub record StandsAt (start : Start) (items : List Item) (moment : ℕ) (turn : Turn) (view : View) : Type 0 where
  pub first : List Output
  pub second : List Output
  pub outputs : turn.outputs ≡ first ++ second
  pub stands : Stands start
      (Turned (record { input = turn.input; outputs = second }) ∷ Turned (record { input = Now moment; outputs = first }) ∷ items) view

-- what a halt leaves of a view: of its connection nothing is said
pub record HaltsAs (view after : View) : Type 0 where
  pub standing : after.standing ≡ record { halted = true; state = view.standing.state }
  pub saved : after.saved ≡ view.saved
  pub lists : after.lists ≡ no_lists
  pub cache : after.cache ≡ empty_cache

-- what a halt at a moment, or at the input after it, leaves of a view: the turn of the moment may have been
abbrev pub HaltsAt : (moment : ℕ) → (view after : View) → Type 0
HaltsAt moment view after =
    HaltsAs view after ⊎ ((first : List Output) × (between : View) × Rule view (record { input = Now moment; outputs = first }) between
    × HaltsAs between after)
