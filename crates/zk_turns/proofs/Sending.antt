-- What the outputs send is what was to be sent, and the state that they told last is the client's: what holds of a past and its outputs is
-- carried on over happenings, signals and items.
use Rattle.zk_watches.specs.Lists.{fires, Lists}
use Rattle.zk_turns.specs.Turns.{Turn, Framed, Start, Outcome, Signal, Opens, Comes, Cuts, Ticks, Calls, Forget, Halt, Output, Report}
use Rattle.zk_turns.specs.Turns.{Enters, Drop, Item, Turned, Forgets, Halts, signals_of}
use Rattle.zk_conversation.specs.Calls.{Call, call_payload, ping_payload}
use Rattle.zk_nodes.specs.Path.{Text}
use Rattle.std.proofs.Common.{◌≡◌, ℕ, ℤ, pos, Bool, true, false, cond, List, [], ◌∷◌, ◌++◌, map, Option, Some, None, refl, sym, ap, subst}
use Rattle.std.proofs.Common.{◌∙◌, append_assoc}
use Rattle.std.specs.Prelude.{reverse}
use Rattle.std.specs.List.{flat_map}
use Rattle.std.proofs.lemmas.List.{append-nil}
use mathlib.Core.List.{reverse_aux, reverse_aux-eq}
use Rattle.zk_nodes.specs.declared.side.Side.{Side}
use Rattle.zk_nodes.specs.declared.side.Side.TheVariants.{Data, Child}
use Rattle.zk_records.specs.declared.event.Event.{Event}
use Rattle.zk_conversation.specs.Questions.{Close}
use Rattle.zk_session.specs.declared.states.State.{State}
use Rattle.zk_session.specs.declared.states.State.TheVariants.{Idle, Connecting, Connected}
use Rattle.zk_frames.specs.Frame.{frame}
use Rattle.zk_turns.specs.Past.{xid_of, Past, Happening, Began, Came, Took, Dropped, Lost, Forgot, Halted, Asked, Denied, Pinged, Ticked}
use Rattle.zk_turns.specs.Past.{Message, Accepted, Expiry, Replies, Watches_set, Notifies, Pong, Skipped, state_of, held_of, has_halted}
use Rattle.zk_turns.specs.Past.{lists_of, last_of}
use Rattle.zk_watches.specs.Parts.{parts}
use Rattle.zk_turns.specs.View.{View, view_at}
use Rattle.zk_turns.specs.Taken.{reading, caused, happenings, opens, of_cutting, cut, longest, Cutting, Unfinished, Bad, Payload, due}
use Rattle.zk_turns.specs.Taken.{refusal}
use Rattle.zk_turns.specs.Taken.{joined, past_after, past_of, comes, if_open}
use Rattle.zk_turns.specs.Rule.{IsOpen, says, part_frame, loss, losses, report, due_happenings, due_signals, AllSaid, Stands}
use Rattle.zk_turns.specs.Sent.{outputs_of, told_state, sends}
use Rattle.zk_turns.proofs.Frames_sent.{part_of, sent}
use Rattle.zk_turns.proofs.Cases.{by_cond, by_open, by_due}
use Rattle.zk_turns.proofs.Stream.{of_reading}
use Rattle.zk_turns.proofs.Words.{calls}

-- outputs in front of earlier ones, the newest first
abbrev pub onto : List Output → List Output → List Output
onto [] earlier = earlier
onto (output ∷ outputs) earlier = onto outputs (output ∷ earlier)

onto_is : (outputs earlier : List Output) → onto outputs earlier ≡ reverse outputs ++ earlier
onto_is outputs earlier = by outputs earlier ∙ reverse_aux-eq outputs earlier
  where
    by : (xs ys : List Output) → onto xs ys ≡ reverse_aux xs ys
    by [] ys = refl
    by (x ∷ xs) ys = by xs (x ∷ ys)

pub outputs_onto : (turn : Turn) (items : List Item) → outputs_of (Turned turn ∷ items) ≡ onto turn.outputs (outputs_of items)
outputs_onto turn items = sym (onto_is turn.outputs (outputs_of items))

pub onto-append : (xs ys outs : List Output) → onto (xs ++ ys) outs ≡ onto ys (onto xs outs)
onto-append [] ys outs = refl
onto-append (x ∷ xs) ys outs = onto-append xs ys (x ∷ outs)

-- What holds of the past and of the outputs so far, the newest first, and goes on, holds after happenings, signals and items.
module _ (start : Start) (Holds : Past → List Output → Type 0) where
  abbrev AfterAll : List Happening → Past → List Output → Type 0
  AfterAll more past outs = Holds (joined past more) (onto (due_happenings start past more) outs)

  pub happenings_hold : ((happening : Happening) (past : Past) (outs : List Output)
      → Holds past outs → Holds (happening ∷ past) (onto (says (view_at start past) happening) outs))
      → (more : List Happening) (past : Past) (outs : List Output) → Holds past outs → AfterAll more past outs
  happenings_hold step [] past outs s = s
  happenings_hold step (happening ∷ more) past outs s =
      subst (Holds (joined (happening ∷ past) more))
      (sym (onto-append (says (view_at start past) happening) (due_happenings start (happening ∷ past) more) outs))
      (happenings_hold step more (happening ∷ past) (onto (says (view_at start past) happening) outs) (step happening past outs s))

  module _ (by_signal : (signal : Signal) (past : Past) (outs : List Output) → Holds past outs
      → AfterAll (happenings (view_at start past) signal) past outs) where
    signals_hold : (more : List Signal) (past : Past) (outs : List Output)
        → Holds past outs → Holds (past_after start past more) (onto (due_signals start past more) outs)
    signals_hold [] past outs s = s
    signals_hold (signal ∷ more) past outs s =
        let now = joined past (happenings (view_at start past) signal) in
        subst (Holds (past_after start now more))
        (sym (onto-append (due_happenings start past (happenings (view_at start past) signal)) (due_signals start now more) outs))
        (signals_hold more now (onto (due_happenings start past (happenings (view_at start past) signal)) outs)
        (by_signal signal past outs s))

    pub items_hold : Holds [] []
        → ((past : Past) (outs : List Output) → Holds past outs → Holds (Forgot ∷ past) outs × Holds (Halted ∷ past) outs)
        → (items : List Item) → AllSaid start items → Holds (past_of start items) (outputs_of items)
    items_hold none marks [] said = none
    items_hold none marks (Turned turn ∷ items) said =
        subst (Holds (past_of start (Turned turn ∷ items))) (sym (outputs_onto turn items ∙ ap (λ t. onto t (outputs_of items)) said.0))
        (signals_hold (signals_of turn.input) (past_of start items) (outputs_of items) (items_hold none marks items said.1))
    items_hold none marks (Forgets ∷ items) said = (marks (past_of start items) (outputs_of items) (items_hold none marks items said)).0
    items_hold none marks (Halts ∷ items) said = (marks (past_of start items) (outputs_of items) (items_hold none marks items said)).1

-- what does not read reports reads nothing of them
silent_report : {A : Type 0} (read : List Output → A)
    → ((path : Text) (side : Side) (event : Event) (outs : List Output) → read (Report path side event ∷ outs) ≡ read outs)
    → (view : View) (event : Event) (path : Text) (side : Side) (outs : List Output)
    → read (onto (report view event path side) outs) ≡ read outs
silent_report read silent view event path side outs = by (fires view.lists event side path)
  where
    by : (b : Bool) → read (onto (cond b (Report path side event ∷ []) []) outs) ≡ read outs
    by true = silent path side event outs
    by false = refl

silent_reports : {A : Type 0} (read : List Output → A)
    → ((path : Text) (side : Side) (event : Event) (outs : List Output) → read (Report path side event ∷ outs) ≡ read outs)
    → (view : View) (event : Event) (path : Text) (outs : List Output)
    → read (onto (report view event path Data ++ report view event path Child) outs) ≡ read outs
silent_reports read silent view event path outs =
    ap read (onto-append (report view event path Data) (report view event path Child) outs)
    ∙ silent_report read silent view event path Child (onto (report view event path Data) outs)
    ∙ silent_report read silent view event path Data outs

sends_parts : (relative : ℤ) (ps : List Lists) (outs : List Output)
    → sends (onto (map (part_frame relative) ps) outs) ≡ sends outs ++ map (part_of relative) ps
sends_parts relative [] outs = sym (append-nil (sends outs))
sends_parts relative (p ∷ ps) outs =
    sends_parts relative ps (part_frame relative p ∷ outs) ∙ append_assoc (sends outs) (part_of relative p ∷ []) (map (part_of relative) ps)

module _ (start : Start) where
  abbrev Sent : Past → List Output → Type 0
  Sent past outs = IsOpen (state_of past) → sends outs ≡ sent start past

  -- after a happening
  abbrev Sends : Past → List Output → Happening → Type 0
  Sends past outs happening = Sent (happening ∷ past) (onto (says (view_at start past) happening) outs)

  message_sends : (message : Message) (past : Past) (outs : List Output) → IsOpen (state_of past)
      → Sent past outs → Sends past outs (Took message)
  message_sends (Accepted welcome) past outs up s o =
      sends_parts (last_of start past) (parts (lists_of past)) (Enters Connected ∷ outs)
      ∙ ap (λ t. t ++ map (part_of (last_of start past)) (parts (lists_of past))) (s up)
  message_sends Expiry past outs up s o = absurd cc
  message_sends (Replies ticket Close zxid result) past outs up s o = absurd cc
  message_sends (Replies ticket question zxid result) past outs up s o = s up
  message_sends (Watches_set last zxid) past outs up s o = s up
  message_sends (Notifies event path) past outs up s o =
      silent_reports sends (λ p side e o. refl) (view_at start past) event path outs ∙ s up
  message_sends Pong past outs up s o = s up
  message_sends Skipped past outs up s o = s up

  -- the outputs of happenings, one after another
  abbrev After : List Happening → Past → List Output → Type 0
  After more past outs = Sent (joined past more) (onto (due_happenings start past more) outs)

  after_two : (first second : Happening) (past : Past) (outs : List Output)
      → Sends (first ∷ past) (onto (says (view_at start past) first) outs) second → After (first ∷ second ∷ []) past outs
  after_two first second past outs s o =
      ap (λ t. sends (onto (says (view_at start past) first ++ t) outs)) (append-nil (says (view_at start (first ∷ past)) second))
      ∙ ap sends (onto-append (says (view_at start past) first) (says (view_at start (first ∷ past)) second) outs)
      ∙ s o

  after_one : (happening : Happening) (past : Past) (outs : List Output) → Sends past outs happening → After (happening ∷ []) past outs
  after_one happening past outs s o = ap (λ t. sends (onto t outs)) (append-nil (says (view_at start past) happening)) ∙ s o

  cutting_sends : (cutting : Cutting) (byte : ℕ) (past : Past) (outs : List Output) → IsOpen (state_of past)
      → Sent past outs → After (Came byte ∷ of_cutting (view_at start past) cutting) past outs
  cutting_sends Unfinished byte past outs up s = after_one (Came byte) past outs s
  cutting_sends (Bad fault) byte past outs up s = after_two (Came byte) (Dropped (Framed fault)) past outs (λ o. absurd cc)
  cutting_sends (Payload payload) byte past outs up s =
      after_two (Came byte) (reading (state_of past) (view_at start past).pending (view_at start past).saved.last payload) past outs
      (of_reading (λ h. Sends (Came byte ∷ past) outs h) (λ message. message_sends message (Came byte ∷ past) outs up s)
      (λ fault o. absurd cc) (state_of past) (view_at start past).pending (view_at start past).saved.last payload)

  byte_sends : (state : State) (byte : ℕ) (past : Past) (outs : List Output) → (IsOpen state → IsOpen (state_of past))
      → Sent past outs → After (if_open state (comes (view_at start past) byte)) past outs
  byte_sends Connecting byte past outs up s o =
      cutting_sends (cut (longest start.limits (state_of past)) (held_of past ++ byte ∷ [])) byte past outs (up refl) s o
  byte_sends Connected byte past outs up s o =
      cutting_sends (cut (longest start.limits (state_of past)) (held_of past ++ byte ∷ [])) byte past outs (up refl) s o
  byte_sends _ byte past outs up s o = s o

  lost_sends : (state : State) (past : Past) (outs : List Output) → Sent past outs → After (if_open state (Lost ∷ [])) past outs
  lost_sends Connecting past outs s o = absurd cc
  lost_sends Connected past outs s o = absurd cc
  lost_sends _ past outs s o = s o

  opens_sends : (state : State) (past : Past) (outs : List Output) → Sent past outs → After (opens state) past outs
  opens_sends Idle past outs s o = refl
  opens_sends Connecting past outs s o = after_two Lost Began past outs (λ u. refl) o
  opens_sends Connected past outs s o = after_two Lost Began past outs (λ u. refl) o
  opens_sends _ past outs s o = s o

  abbrev AfterThose : Past → List Output → List Happening → Type 0
  AfterThose past outs more = After more past outs

  due_sends : (view : View) (now : ℕ) (past : Past) (outs : List Output) → Sent past outs → After (due view now) past outs
  due_sends view now past outs s = by_due (AfterThose past outs) view now (λ o. absurd cc)
      (after_one Pinged past outs (λ o. ap (λ t. t ++ frame ping_payload ∷ []) (s o))) s

  call_sends : (ticket : ℕ) (question : Call) (why : Option Outcome) (past : Past) (outs : List Output)
      → Sent past outs → After (calls ticket question why) past outs
  call_sends ticket question None past outs s =
      after_one (Asked ticket question) past outs (λ o. ap (λ t. t ++ frame (call_payload (pos (xid_of past)) question) ∷ []) (s o))
  call_sends ticket question (Some why) past outs s = after_one (Denied ticket why) past outs s

  caused_sends : (signal : Signal) (past : Past) (outs : List Output)
      → Sent past outs → After (caused (view_at start past) signal) past outs
  caused_sends Opens past outs s = opens_sends (state_of past) past outs s
  caused_sends (Comes byte) past outs s = byte_sends (state_of past) byte past outs (λ up. up) s
  caused_sends Cuts past outs s = lost_sends (state_of past) past outs s
  caused_sends (Ticks moment) past outs s =
      by_open (AfterThose (Ticked moment ∷ past) outs) (state_of past) _ s (due_sends (view_at start past) _ (Ticked moment ∷ past) outs s)
  caused_sends (Calls ticket question) past outs s = call_sends ticket question (refusal (view_at start past) question) past outs s
  caused_sends Forget past outs s = s
  caused_sends Halt past outs s = s

  signal_sends : (signal : Signal) (past : Past) (outs : List Output)
      → Sent past outs → After (happenings (view_at start past) signal) past outs
  signal_sends Forget past outs s = s
  signal_sends Halt past outs s = s
  signal_sends signal past outs s =
      by_cond (AfterThose past outs) (has_halted past) [] (caused (view_at start past) signal) s (caused_sends signal past outs s)

  pub sent_is : (items : List Item) (view : View)
      → Stands start items view → IsOpen view.standing.state → sends (outputs_of items) ≡ sent start (past_of start items)
  sent_is items view s up = items_hold start Sent signal_sends (λ up. absurd cc) (λ past outs s. (s, s)) items s.said
      (subst IsOpen (ap (λ t. t.state) s.standing) up)

-- ---- the state that was told last

told_parts : (relative : ℤ) (ps : List Lists) (outs : List Output) → told_state (onto (map (part_frame relative) ps) outs) ≡ told_state outs
told_parts relative [] outs = refl
told_parts relative (p ∷ ps) outs = told_parts relative ps (part_frame relative p ∷ outs)

module _ (start : Start) where
  told_losses : (view : View) (outs : List Output) → told_state (onto (losses view) outs) ≡ Idle
  told_losses view outs = ap told_state (onto-append (flat_map loss view.pending) (Enters Idle ∷ []) outs)

  told_message : (message : Message) (past : Past) (outs : List Output)
      → told_state outs ≡ state_of past → told_state (onto (says (view_at start past) (Took message)) outs) ≡ state_of (Took message ∷ past)
  told_message (Accepted welcome) past outs s = told_parts (last_of start past) (parts (lists_of past)) (Enters Connected ∷ outs)
  told_message Expiry past outs s = refl
  told_message (Replies ticket Close zxid result) past outs s = refl
  told_message (Replies ticket question zxid result) past outs s = s
  told_message (Watches_set last zxid) past outs s = s
  told_message (Notifies event path) past outs s = silent_reports told_state (λ p side e o. refl) (view_at start past) event path outs ∙ s
  told_message Pong past outs s = s
  told_message Skipped past outs s = s

  told_step : (happening : Happening) (past : Past) (outs : List Output)
      → told_state outs ≡ state_of past → told_state (onto (says (view_at start past) happening) outs) ≡ state_of (happening ∷ past)
  told_step (Took message) past outs s = told_message message past outs s
  told_step Began past outs s = refl
  told_step (Dropped fault) past outs s = told_losses (view_at start past) (Drop fault ∷ outs)
  told_step Lost past outs s = told_losses (view_at start past) outs
  told_step _ past outs s = s

  pub told_is : (items : List Item) (view : View) → Stands start items view → told_state (outputs_of items) ≡ view.standing.state
  told_is items view s =
      items_hold start (λ past outs. told_state outs ≡ state_of past) (λ signal past.
      happenings_hold start (λ past outs. told_state outs ≡ state_of past) told_step (happenings (view_at start past) signal) past) refl
      (λ past outs s. (s, s)) items s.said
      ∙ sym (ap (λ t. t.state) s.standing)
