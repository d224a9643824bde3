-- Turns that say nothing of a change leave what is good as it was: happening by happening, as each that changes what is good says so.
use Rattle.std.proofs.Common.{◌≡◌, ℕ, Bool, true, false, cond, ◌&&◌, ◌||◌, List, [], ◌∷◌, ◌++◌, map, Option, Some, None, refl, sym, ap, ◌∙◌}
use Rattle.std.specs.Prelude.{bytes_eq}
use Rattle.std.specs.List.{AllByRecursion, flat_map}
use Rattle.zk_nodes.specs.Path.{Text}
use Rattle.zk_nodes.specs.declared.side.Side.{Side}
use Rattle.zk_nodes.specs.declared.side.Side.TheVariants.{Data, Child}
use Rattle.zk_records.specs.declared.event.Event.{Event}
use Rattle.zk_records.specs.Events.{concerns}
use Rattle.zk_cache.specs.Kept.{stale, without_stale, is_marked_good}
use Rattle.zk_cache.specs.declared.held.Kept.{Kept}
use Rattle.zk_cache.specs.declared.held.Mark.{Mark}
use Rattle.zk_cache.specs.declared.held.Mark.TheVariants.{Good, Stale}
use Rattle.zk_conversation.specs.Calls.{Call}
use Rattle.zk_session.specs.declared.states.State.{State}
use Rattle.zk_session.specs.declared.states.State.TheVariants.{Idle, Connecting, Connected}
use Rattle.zk_turns.specs.Turns.{Input, Opened, Cut, Bytes, Now, Outcome, Start, Item, Turn, Turned, Forgets, Halts, Output, Report, Enters}
use Rattle.zk_turns.specs.Turns.{Drop, Signal, Opens, Comes, Cuts, Ticks, Calls, Forget, Halt, signals_of}
use Rattle.zk_turns.specs.Turns as turns
use Rattle.zk_turns.specs.Past.{Past, Happening, Began, Came, Took, Dropped, Lost, Forgot, Halted, Asked, Denied, Pinged, Ticked, Message}
use Rattle.zk_turns.specs.Past.{Accepted, Expiry, Replies, Watches_set, Notifies, Pong, Skipped, Ends, Nothing, is_good, good_answer}
use Rattle.zk_turns.specs.Past.{kept_by, kept_data, kept_names, state_of, has_halted, session_of}
use Rattle.zk_turns.specs.View.{View, Cache, view_at}
use Rattle.zk_turns.specs.Taken.{longest_of, caused, happenings, opens, of_cutting, cut, Cutting, Unfinished, Bad, Payload, refusal, joined}
use Rattle.zk_turns.specs.Taken.{past_after}
use Rattle.zk_turns.specs.Taken.{past_of, comes}
use Rattle.zk_turns.specs.Rule.{says, loss, report, due_happenings, due_signals, AllSaid, Stands}
use Rattle.zk_turns.proofs.Cases.{by_cond, by_open, by_due}
use Rattle.zk_turns.proofs.Lists.{same_text}
use Rattle.zk_turns.proofs.Marks.{data_marks, child_marks, report_is}
use Rattle.zk_turns.proofs.Stream.{of_reading}
use Rattle.zk_turns.proofs.Words.{calls}
use Rattle.zk_conclusions.specs.Revisions.{is_change, has_change, IsUnchanged, AreQuiet, QuietIsUnchanged}

-- ---- what is good

twice : {A : Type 0} (kept : Option (Kept A)) → without_stale (without_stale kept) ≡ without_stale kept
twice None = refl
twice {A} (Some kept) = by kept.mark
  where
    by : (mark : Mark) → without_stale (without_stale (Some (record { answer = kept.answer; mark = mark })))
        ≡ without_stale (Some (record { answer = kept.answer; mark = mark }))
    by Good = refl
    by Stale = refl

-- where no answer is good, one more that goes stale is none
none_good : {A : Type 0} (kept : Option (Kept A)) → is_marked_good kept ≡ false → without_stale kept ≡ None
none_good None e = refl
none_good {A} (Some kept) e = by kept.mark e
  where
    by : (mark : Mark) → is_marked_good (Some (record { answer = kept.answer; mark = mark })) ≡ false
        → without_stale (Some (record { answer = kept.answer; mark = mark })) ≡ None
    by Good e = absurd cc
    by Stale e = refl

stale_is_none : {A : Type 0} (kept : Option (Kept A)) → without_stale (stale kept) ≡ None
stale_is_none None = refl
stale_is_none (Some kept) = refl

-- ---- one past and one that came of it

-- the same is good, and so are the state and the session
pub record IsSame (start : Start) (past before : Past) : Type 0 where
  pub nodes : (path : Text) → without_stale (kept_data path past) ≡ without_stale (kept_data path before)
  pub children : (path : Text) → without_stale (kept_names path past) ≡ without_stale (kept_names path before)
  pub state : state_of past ≡ state_of before
  pub halted : has_halted past ≡ has_halted before
  pub session : session_of start past ≡ session_of start before

itself : (start : Start) (past : Past) → IsSame start past past
itself start past = record { nodes = λ path. refl; children = λ path. refl; state = refl; halted = refl; session = refl }

through : (start : Start) (past between before : Past) → IsSame start past between → IsSame start between before → IsSame start past before
through start past between before a b = record {
  nodes = λ path. a.nodes path ∙ b.nodes path;
  children = λ path. a.children path ∙ b.children path;
  state = a.state ∙ b.state;
  halted = a.halted ∙ b.halted;
  session = a.session ∙ b.session;
}

-- ---- outputs

pub or_parts : (a b : Bool) → (a || b) ≡ false → (a ≡ false) × (b ≡ false)
or_parts true b e = absurd cc
or_parts false b e = (refl, e)

pub split : (one other : List Output) → has_change (one ++ other) ≡ false → (has_change one ≡ false) × (has_change other ≡ false)
split [] other e = (refl, e)
split (output ∷ one) other e =
    let parts = or_parts (is_change output) (has_change (one ++ other)) e in
    let rest = split one other parts.1 in
    (ap (λ b. b || has_change one) parts.0 ∙ rest.0, rest.1)

-- a connection that is lost is told by another state
lost_is_told : (outputs : List Output) (X : Type 0) → has_change (outputs ++ Enters Idle ∷ []) ≡ false → X
lost_is_told outputs X e = let parts = split outputs (Enters Idle ∷ []) e in let last : true ≡ false = parts.1 in absurd cc

told_report : (b : Bool) (path : Text) (side : Side) (event : Event)
    → has_change (cond b (Report path side event ∷ []) []) ≡ false → b ≡ false
told_report true path side event e = absurd cc
told_report false path side event e = refl

-- ---- a notice

-- what is kept where a notice ends it, or not
abbrev ended_by : {A : Type 0} → Bool → Option (Kept A) → Option (Kept A)
ended_by true kept = stale kept
ended_by false kept = kept

spared : {A : Type 0} (about : Bool) (at path : Text) (kept : Text → Option (Kept A)) → (about && is_marked_good (kept at)) ≡ false
    → without_stale (ended_by (about && bytes_eq at path) (kept path)) ≡ without_stale (kept path)
spared false at path kept e = refl
spared {A} true at path kept e = by (bytes_eq at path) refl
  where
    by : (b : Bool) → bytes_eq at path ≡ b → without_stale (ended_by b (kept path)) ≡ without_stale (kept path)
    by true same = stale_is_none (kept path)
        ∙ sym (none_good (kept path) (ap (λ (p : Text). is_marked_good (kept p)) (sym (same_text at path same)) ∙ e))
    by false other = refl

notice_keeps : {A : Type 0} (b : Bool) (known : A → A) (event : Event) (at : Text) (kept : Option (Kept A))
    → kept_by (cond b Ends Nothing) known (Took (Notifies event at)) kept ≡ ended_by b kept
notice_keeps true known event at kept = refl
notice_keeps false known event at kept = refl

notice_data : (event : Event) (at : Text) (past : Past) (path : Text)
    → kept_data path (Took (Notifies event at) ∷ past) ≡ ended_by (concerns event Data && bytes_eq at path) (kept_data path past)
notice_data event at past path =
    notice_keeps (concerns event Data && bytes_eq at path) (λ answer. good_answer path answer past) event at (kept_data path past)

notice_names : (event : Event) (at : Text) (past : Past) (path : Text)
    → kept_names path (Took (Notifies event at) ∷ past) ≡ ended_by (concerns event Child && bytes_eq at path) (kept_names path past)
notice_names event at past path = notice_keeps (concerns event Child && bytes_eq at path) (λ names. names) event at (kept_names path past)

module _ (start : Start) where
  -- no report: nothing good was about this
  unreported : (event : Event) (at : Text) (side : Side) (past : Past)
      → has_change (report (view_at start past) event at side) ≡ false → (concerns event side && is_good side at past) ≡ false
  unreported event at side past e =
      told_report (concerns event side && is_good side at past) at side event (ap has_change (sym (report_is start event at side past)) ∙ e)

  notice_same : (event : Event) (at : Text) (past : Past)
      → has_change (says (view_at start past) (Took (Notifies event at))) ≡ false → IsSame start (Took (Notifies event at) ∷ past) past
  notice_same event at past e =
      let parts = split (report (view_at start past) event at Data) (report (view_at start past) event at Child) e in record {
        nodes = λ path. ap without_stale (notice_data event at past path)
            ∙ spared (concerns event Data) at path (λ p. kept_data p past)
            (ap (λ b. concerns event Data && b) (data_marks at past) ∙ unreported event at Data past parts.0);
        children = λ path. ap without_stale (notice_names event at past path)
            ∙ spared (concerns event Child) at path (λ p. kept_names p past)
            (ap (λ b. concerns event Child && b) (child_marks at past) ∙ unreported event at Child past parts.1);
        state = refl;
        halted = refl;
        session = refl;
      }

  -- ---- one happening

  plain : (happening : Happening) (past : Past) → ((path : Text) → kept_data path (happening ∷ past) ≡ kept_data path past)
      → ((path : Text) → kept_names path (happening ∷ past) ≡ kept_names path past)
      → state_of (happening ∷ past) ≡ state_of past → has_halted (happening ∷ past) ≡ has_halted past
      → session_of start (happening ∷ past) ≡ session_of start past → IsSame start (happening ∷ past) past
  plain happening past nodes children state halted session = record {
    nodes = λ path. ap without_stale (nodes path);
    children = λ path. ap without_stale (children path);
    state = state;
    halted = halted;
    session = session;
  }

  forgot_same : (past : Past) → IsSame start (Forgot ∷ past) past
  forgot_same past = record {
    nodes = λ path. twice (kept_data path past);
    children = λ path. twice (kept_names path past);
    state = refl;
    halted = refl;
    session = refl;
  }

  message_same : (message : Message) (past : Past)
      → has_change (says (view_at start past) (Took message)) ≡ false → IsSame start (Took message ∷ past) past
  message_same (Accepted welcome) past e = absurd cc
  message_same Expiry past e = absurd cc
  message_same (Replies ticket question zxid result) past e = absurd cc
  message_same (Watches_set last zxid) past e = plain (Took (Watches_set last zxid)) past (λ path. refl) (λ path. refl) refl refl refl
  message_same (Notifies event path) past e = notice_same event path past e
  message_same Pong past e = plain (Took Pong) past (λ path. refl) (λ path. refl) refl refl refl
  message_same Skipped past e = plain (Took Skipped) past (λ path. refl) (λ path. refl) refl refl refl

  abbrev IsNoHalt : Happening → Type 0
  IsNoHalt Halted = ⊥
  IsNoHalt _ = Unit {0}

  happening_same : (happening : Happening) (past : Past)
      → IsNoHalt happening → has_change (says (view_at start past) happening) ≡ false → IsSame start (happening ∷ past) past
  happening_same (Took message) past n e = message_same message past e
  happening_same Began past n e = absurd cc
  happening_same (Dropped fault) past n e =
      lost_is_told (Drop fault ∷ flat_map loss (view_at start past).pending) (IsSame start (Dropped fault ∷ past) past) e
  happening_same Lost past n e = lost_is_told (flat_map loss (view_at start past).pending) (IsSame start (Lost ∷ past) past) e
  happening_same Pinged past n e = plain Pinged past (λ path. refl) (λ path. refl) refl refl refl
  happening_same Forgot past n e = forgot_same past
  happening_same Halted past n e = absurd n
  happening_same (Came byte) past n e = plain (Came byte) past (λ path. refl) (λ path. refl) refl refl refl
  happening_same (Ticked moment) past n e = plain (Ticked moment) past (λ path. refl) (λ path. refl) refl refl refl
  happening_same (Asked ticket call) past n e = plain (Asked ticket call) past (λ path. refl) (λ path. refl) refl refl refl
  happening_same (Denied ticket why) past n e = plain (Denied ticket why) past (λ path. refl) (λ path. refl) refl refl refl

  -- ---- many

  all_same : (more : List Happening) (past : Past)
      → AllByRecursion IsNoHalt more → has_change (due_happenings start past more) ≡ false → IsSame start (joined past more) past
  all_same [] past n e = itself start past
  all_same (happening ∷ more) past n e =
      let parts = split (says (view_at start past) happening) (due_happenings start (happening ∷ past) more) e in
      through start (joined (happening ∷ past) more) (happening ∷ past) past (all_same more (happening ∷ past) n.1 parts.1)
      (happening_same happening past n.0 parts.0)

  -- what a signal makes happen is no halt
  abbrev AreNoHalts : List Happening → Type 0
  AreNoHalts more = AllByRecursion IsNoHalt more

  cutting_is : (view : View) (cutting : Cutting) → AreNoHalts (of_cutting view cutting)
  cutting_is view Unfinished = tt
  cutting_is view (Bad fault) = (tt, tt)
  cutting_is view (Payload payload) =
      (of_reading IsNoHalt (λ message. tt) (λ fault. tt) view.standing.state view.pending view.saved.last payload, tt)

  opens_is : (state : State) → AreNoHalts (opens state)
  opens_is Idle = (tt, tt)
  opens_is Connecting = (tt, (tt, tt))
  opens_is Connected = (tt, (tt, tt))
  opens_is _ = tt

  call_is : (ticket : ℕ) (call : Call) (why : Option Outcome) → AreNoHalts (calls ticket call why)
  call_is ticket call None = (tt, tt)
  call_is ticket call (Some why) = (tt, tt)

  abbrev IsInput : Signal → Type 0
  IsInput Halt = ⊥
  IsInput _ = Unit {0}

  caused_is : (view : View) (signal : Signal) → IsInput signal → AreNoHalts (caused view signal)
  caused_is view Opens i = opens_is view.standing.state
  caused_is view (Comes byte) i =
      by_open AreNoHalts view.standing.state (comes view byte) tt (tt, cutting_is view (cut (longest_of view) (view.held ++ byte ∷ [])))
  caused_is view Cuts i = by_open AreNoHalts view.standing.state (Lost ∷ []) tt (tt, tt)
  caused_is view (Ticks moment) i = (tt, by_open AreNoHalts view.standing.state _ tt (by_due AreNoHalts view _ (tt, tt) (tt, tt) tt))
  caused_is view (Calls ticket call) i = call_is ticket call (refusal view call)
  caused_is view Forget i = (tt, tt)
  caused_is view Halt i = absurd i

  happens_is : (view : View) (signal : Signal) → IsInput signal → AreNoHalts (happenings view signal)
  happens_is view Forget i = (tt, tt)
  happens_is view Halt i = absurd i
  happens_is view signal i = by_cond AreNoHalts view.standing.halted [] (caused view signal) tt (caused_is view signal i)

  signals_same : (more : List Signal) (past : Past)
      → AllByRecursion IsInput more → has_change (due_signals start past more) ≡ false → IsSame start (past_after start past more) past
  signals_same [] past i e = itself start past
  signals_same (signal ∷ more) past i e =
      let now = joined past (happenings (view_at start past) signal) in
      let parts = split (due_happenings start past (happenings (view_at start past) signal)) (due_signals start now more) e in
      through start (past_after start now more) now past (signals_same more now i.1 parts.1)
      (all_same (happenings (view_at start past) signal) past (happens_is (view_at start past) signal i.0) parts.0)

  bytes_are : (bytes : List ℕ) → AllByRecursion IsInput (map Comes bytes)
  bytes_are [] = tt
  bytes_are (byte ∷ bytes) = (tt, bytes_are bytes)

  inputs_are : (input : Input) → AllByRecursion IsInput (signals_of input)
  inputs_are Opened = (tt, tt)
  inputs_are Cut = (tt, tt)
  inputs_are (Bytes bytes) = bytes_are bytes
  inputs_are (Now moment) = (tt, tt)
  inputs_are (turns.Call ticket call) = (tt, tt)

  items_same : (more items : List Item) → AllSaid start (more ++ items)
      → AreQuiet more → IsSame start (past_of start (more ++ items)) (past_of start items)
  items_same [] items said q = itself start (past_of start items)
  items_same (Turned turn ∷ more) items said q =
      through start (past_of start (Turned turn ∷ more ++ items)) (past_of start (more ++ items)) (past_of start items)
      (signals_same (signals_of turn.input) (past_of start (more ++ items)) (inputs_are turn.input) (ap has_change (sym said.0) ∙ q.0))
      (items_same more items said.1 q.1)
  items_same (Forgets ∷ more) items said q =
      through start (past_of start (Forgets ∷ more ++ items)) (past_of start (more ++ items)) (past_of start items)
      (forgot_same (past_of start (more ++ items))) (items_same more items said q)
  items_same (Halts ∷ more) items said q = absurd q

  as_stood : (items : List Item) (view : View) → Stands start items view → (other : List Item) (after : View) → Stands start other after
      → IsSame start (past_of start other) (past_of start items) → IsUnchanged view after
  as_stood items view s other after t is = record {
    good = record {
      nodes = λ path. ap (λ (c : Cache). without_stale (c.nodes path)) s.cache ∙ sym (is.nodes path)
          ∙ sym (ap (λ (c : Cache). without_stale (c.nodes path)) t.cache);
      children = λ path. ap (λ (c : Cache). without_stale (c.children path)) s.cache ∙ sym (is.children path)
          ∙ sym (ap (λ (c : Cache). without_stale (c.children path)) t.cache);
    };
    standing = t.standing ∙ ap (λ (b : Bool). record { halted = b; state = state_of (past_of start other) }) is.halted
        ∙ ap (λ (state : State). record { halted = has_halted (past_of start items); state = state }) is.state ∙ sym s.standing;
    session = ap (λ v. v.session) t.saved ∙ is.session ∙ sym (ap (λ v. v.session) s.saved);
  }

pub quiet_is_unchanged : QuietIsUnchanged
quiet_is_unchanged start more items view after s t q =
    as_stood start items view s (more ++ items) after t (items_same start more items t.said q)
