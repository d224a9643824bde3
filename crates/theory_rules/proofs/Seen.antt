-- No reply is ahead of what is seen after its turn: each message leaves the last seen zxid or raises it, to no less than its own.
use Rattle.std.proofs.Common.{◌≡◌, ℕ, ℤ, pos, length, Bool, true, false, cond, List, [], ◌∷◌, ◌++◌, map, Option, Some, None, refl, sym, ap}
use Rattle.std.proofs.Common.{subst, ◌∙◌, inl, inr, ◌⊎◌, arith}
use Rattle.std.specs.Prelude.{◌≤ℤ◌, nat_le, nat_lt}
use Rattle.std.specs.List.{flat_map}
use Rattle.std.proofs.lemmas.Int.{ints}
use Rattle.zk_nodes.specs.Path.{Text}
use Rattle.zk_nodes.specs.declared.side.Side.{Side}
use Rattle.zk_nodes.specs.declared.side.Side.TheVariants.{Data, Child}
use Rattle.zk_records.specs.declared.event.Event.{Event}
use Rattle.zk_session.specs.declared.states.State.{State}
use Rattle.zk_session.specs.declared.states.State.TheVariants.{Idle, Connecting, Connected, Expired, Closed}
use Rattle.zk_watches.specs.Lists.{Lists, fires}
use Rattle.zk_watches.specs.Parts.{parts}
use Rattle.zk_conversation.specs.Calls.{Call, call_payload}
use Rattle.zk_conversation.specs.Questions.{Question, Close, question_of, watched_side}
use Rattle.zk_conversation.specs.Results.{Result}
use Rattle.zk_conversation.specs.Pending.{Pending, Waiting, Part_waits, Call_waits, is_close_pending, calls_pending}
use Rattle.zk_turns.specs.Turns.{Outcome, Replied, ConnectionLoss, SessionClosed, TooManyPending, TooManyWatches, TooLarge, Output, Answer}
use Rattle.zk_turns.specs.Turns.{Report, Signal, Opens, Comes, Cuts, Ticks, Calls, Forget, Halt, signals_of}
use Rattle.zk_turns.specs.Past.{Happening, Began, Came, Took, Dropped, Lost, Asked, Denied, Pinged, Ticked, Forgot, Halted, Message}
use Rattle.zk_turns.specs.Past.{Accepted, Expiry, Replies, Watches_set, Notifies, Pong, Skipped}
use Rattle.std.specs.Int.{int_max}
use Rattle.zk_turns.specs.View.{View}
use Rattle.zk_turns.specs.Taken.{longest_of, happenings, caused, opens, comes, of_cutting, cut, Cutting, Unfinished, Bad, Payload, due}
use Rattle.zk_turns.specs.Taken.{is_full_on}
use Rattle.zk_turns.specs.Meaning.{Among}
use Rattle.zk_turns.specs.Rule.{says, next, next_reply, next_message, seen, loss, losses, part_frame, report, after_all, says_all}
use Rattle.zk_turns.specs.Rule.{after_signals, says_signals}
use Rattle.zk_turns.proofs.Words.{calls, refusal_in, closing}
use Rattle.zk_turns.proofs.Cases.{by_cond, by_open, by_due}
use Rattle.zk_turns.proofs.Over.{later_le, le_itself, le_through}
use Rattle.zk_turns.proofs.Stream.{of_reading}
use Rattle.theory_rules.specs.Seeing.{LaterMoves, EarlierLeaves, TurnsRaise, RepliesAreSeen}
use Rattle.zk_limits.specs.declared.limits.TheConstants.{MOST_PENDING}

reply_saved : (question : Question) (zxid : ℤ) (result : Result) (view : View)
    → (next_reply view question zxid result).saved ≡ seen zxid view
reply_saved Close zxid result view = refl
reply_saved _ zxid result view = refl

pub later_moves : LaterMoves
later_moves ticket question zxid result view e =
    ap (λ s. s.last) (reply_saved question zxid result view) ∙ ap (λ b. cond b zxid view.saved.last) e

pub earlier_leaves : EarlierLeaves
earlier_leaves ticket question zxid result view e =
    ap (λ s. s.last) (reply_saved question zxid result view) ∙ ap (λ b. cond b zxid view.saved.last) e

-- ---- it never falls

first_later : (a b : ℤ) → a ≤ℤ int_max a b
first_later a b = grind (arith, ints)

message_raises : (message : Message) (view : View) → view.saved.last ≤ℤ (next_message view message).saved.last
message_raises (Replies ticket question zxid result) view =
    subst (λ s. view.saved.last ≤ℤ s.last) (sym (reply_saved question zxid result view)) (later_le zxid view.saved.last)
message_raises (Watches_set true zxid) view = later_le zxid view.saved.last
message_raises (Watches_set false zxid) view = le_itself view.saved.last
message_raises _ view = le_itself view.saved.last

raises : (happening : Happening) (view : View) → view.saved.last ≤ℤ (next view happening).saved.last
raises (Took message) view = message_raises message view
raises _ view = le_itself view.saved.last

raises_all : (more : List Happening) (view : View) → view.saved.last ≤ℤ (after_all view more).saved.last
raises_all [] view = le_itself view.saved.last
raises_all (happening ∷ more) view = le_through _ _ _ (raises happening view) (raises_all more (next view happening))

raises_signals : (more : List Signal) (view : View) → view.saved.last ≤ℤ (after_signals view more).saved.last
raises_signals [] view = le_itself view.saved.last
raises_signals (signal ∷ more) view =
    le_through _ _ _ (raises_all (happenings view signal) view) (raises_signals more (after_all view (happenings view signal)))

pub turns_raise : TurnsRaise
turns_raise view after turn rule =
    subst (λ v. view.saved.last ≤ℤ v.saved.last) (sym rule.next) (raises_signals (signals_of turn.input) view)

-- ---- a refusal is no reply

abbrev IsReply : Outcome → Type 0
IsReply (Replied zxid result) = Unit {0}
IsReply _ = ⊥

abbrev IsPlain : Happening → Type 0
IsPlain (Denied ticket why) = ¬ IsReply why
IsPlain _ = Unit {0}

abbrev ArePlain : List Happening → Type 0
ArePlain [] = Unit {0}
ArePlain (happening ∷ more) = IsPlain happening × ArePlain more

abbrev NoReply : Option Outcome → Type 0
NoReply None = Unit {0}
NoReply (Some why) = ¬ IsReply why

plain_opens : (state : State) → ArePlain (opens state)
plain_opens Idle = (tt, tt)
plain_opens Connecting = (tt, (tt, tt))
plain_opens Connected = (tt, (tt, tt))
plain_opens _ = tt

plain_calls : (ticket : ℕ) (call : Call) (why : Option Outcome) → NoReply why → ArePlain (calls ticket call why)
plain_calls ticket call None n = (tt, tt)
plain_calls ticket call (Some why) n = (n, tt)

plain_refusal : (state : State) (view : View) (call : Call) → NoReply (refusal_in state view call)
plain_refusal Connected view call =
    let size = nat_lt view.limits.outgoing (length (call_payload (pos view.xid) call)) in
    let long : Option Outcome = cond size (Some TooLarge) None in
    let full : Option Outcome = cond (is_full_on view (watched_side (question_of call))) (Some TooManyWatches) long in
    let many : Option Outcome = cond (nat_le MOST_PENDING (calls_pending view.pending)) (Some TooManyPending) full in
    by_cond NoReply (is_close_pending view.pending) (Some SessionClosed) many (λ r. r)
    (by_cond NoReply (nat_le MOST_PENDING (calls_pending view.pending)) (Some TooManyPending) full (λ r. r)
    (by_cond NoReply (is_full_on view (watched_side (question_of call))) (Some TooManyWatches) long (λ r. r)
    (by_cond NoReply size (Some TooLarge) None (λ r. r) tt)))
plain_refusal Idle view call = λ r. r
plain_refusal Connecting view call = λ r. r
plain_refusal Expired view call = λ r. r
plain_refusal Closed view call = λ r. r

plain_cutting : (view : View) (cutting : Cutting) → ArePlain (of_cutting view cutting)
plain_cutting view Unfinished = tt
plain_cutting view (Bad fault) = (tt, tt)
plain_cutting view (Payload payload) =
    (of_reading IsPlain (λ message. tt) (λ fault. tt) view.standing.state view.pending view.saved.last payload, tt)

plain_caused : (signal : Signal) (view : View) → ArePlain (caused view signal)
plain_caused Opens view = plain_opens view.standing.state
plain_caused (Comes byte) view =
    by_open ArePlain view.standing.state (comes view byte) tt (tt, plain_cutting view (cut (longest_of view) (view.held ++ byte ∷ [])))
plain_caused Cuts view = by_open ArePlain view.standing.state (Lost ∷ []) tt (tt, tt)
plain_caused (Ticks moment) view = (tt, by_open ArePlain view.standing.state (due view _) tt (by_due ArePlain view _ (tt, tt) (tt, tt) tt))
plain_caused (Calls ticket call) view = plain_calls ticket call _ (plain_refusal view.standing.state view call)
plain_caused Forget view = (tt, tt)
plain_caused Halt view = (tt, tt)

plain_signal : (signal : Signal) (view : View) → ArePlain (happenings view signal)
plain_signal Forget view = (tt, tt)
plain_signal Halt view = (tt, tt)
plain_signal signal view = by_cond ArePlain view.standing.halted [] (caused view signal) tt (plain_caused signal view)

-- ---- a reply is told where it is taken

among_either : {A : Type 0} (x : A) (xs ys : List A) → Among x (xs ++ ys) → Among x xs ⊎ Among x ys
among_either x [] ys a = inr a
among_either x (y ∷ xs) ys (inl e) = inl (inl e)
among_either x (y ∷ xs) ys (inr a) = elim (among_either x xs ys a) [ inl b ↦ inl (inr b) | inr b ↦ inr b ]

outcome_in : Output → Option Outcome
outcome_in (Answer ticket outcome) = Some outcome
outcome_in _ = None

module _ (ticket : ℕ) (zxid : ℤ) (result : Result) where
  abbrev told : Output
  told = Answer ticket (Replied zxid result)

  no_parts : (relative : ℤ) (ps : List Lists) → Among told (map (part_frame relative) ps) → ⊥
  no_parts relative [] a = a
  no_parts relative (p ∷ ps) (inl e) = cc
  no_parts relative (p ∷ ps) (inr a) = no_parts relative ps a

  no_loss : (waiting : Waiting)
      → Among told (elim waiting [ Part_waits last ↦ [] | Call_waits other question ↦ Answer other ConnectionLoss ∷ [] ]) → ⊥
  no_loss (Part_waits last) a = a
  no_loss (Call_waits other question) (inl e) = cc
  no_loss (Call_waits other question) (inr a) = a

  no_losses : (ps : List Pending) → Among told (flat_map loss ps) → ⊥
  no_losses [] a = a
  no_losses (p ∷ ps) a = elim (among_either told (loss p) (flat_map loss ps) a) [ inl b ↦ no_loss p.waiting b | inr b ↦ no_losses ps b ]

  none_lost : (view : View) → Among told (losses view) → ⊥
  none_lost view a =
      elim (among_either told (flat_map loss view.pending) _ a) [ inl b ↦ no_losses view.pending b | inr (inl e) ↦ cc | inr (inr b) ↦ b ]

  no_report : (view : View) (event : Event) (path : Text) (side : Side) → Among told (report view event path side) → ⊥
  no_report view event path side a = by (fires view.lists event side path) a
    where
      by : (b : Bool) → Among told (cond b (Report path side event ∷ []) []) → ⊥
      by true (inl e) = cc
      by true (inr b) = b
      by false b = b

  no_closing : (question : Question) → Among told (closing question) → ⊥
  no_closing Close (inl e) = cc
  no_closing Close (inr a) = a
  no_closing _ a = a

  seen_message : (message : Message) (view : View) → Among told (says view (Took message)) → zxid ≤ℤ (next_message view message).saved.last
  seen_message (Accepted welcome) view (inl e) = absurd cc
  seen_message (Accepted welcome) view (inr a) = absurd (no_parts view.saved.last (parts view.lists) a)
  seen_message Expiry view (inl e) = absurd cc
  seen_message Expiry view (inr a) = absurd a
  seen_message (Replies other question z r) view (inl e) =
      let same : zxid ≡ z = cc in
      subst (λ s. zxid ≤ℤ s.last) (sym (reply_saved question z r view))
      (subst (λ t. t ≤ℤ int_max z view.saved.last) (sym same) (first_later z view.saved.last))
  seen_message (Replies other question z r) view (inr a) = absurd (no_closing question a)
  seen_message (Watches_set last z) view a = absurd a
  seen_message (Notifies event path) view a =
      absurd (elim (among_either told (report view event path Data) (report view event path Child) a) [
        | inl b ↦
            no_report view event path Data b
        | inr b ↦ no_report view event path Child b
      ])
  seen_message Pong view a = absurd a
  seen_message Skipped view a = absurd a

  seen_next : (happening : Happening) (view : View) → IsPlain happening → Among told (says view happening)
      → zxid ≤ℤ (next view happening).saved.last
  seen_next (Took message) view p a = seen_message message view a
  seen_next Began view p (inl e) = absurd cc
  seen_next Began view p (inr (inl e)) = absurd cc
  seen_next Began view p (inr (inr a)) = absurd a
  seen_next (Dropped fault) view p (inl e) = absurd cc
  seen_next (Dropped fault) view p (inr a) = absurd (none_lost view a)
  seen_next Lost view p a = absurd (none_lost view a)
  seen_next (Asked other call) view p (inl e) = absurd cc
  seen_next (Asked other call) view p (inr a) = absurd a
  seen_next (Denied other why) view p (inl e) = let same : Replied zxid result ≡ why = cc in absurd (p (subst IsReply same tt))
  seen_next (Denied other why) view p (inr a) = absurd a
  seen_next Pinged view p (inl e) = absurd cc
  seen_next Pinged view p (inr a) = absurd a
  seen_next (Came byte) view p a = absurd a
  seen_next (Ticked moment) view p a = absurd a
  seen_next Forgot view p a = absurd a
  seen_next Halted view p a = absurd a

  seen_all : (more : List Happening) (view : View) → ArePlain more → Among told (says_all view more)
      → zxid ≤ℤ (after_all view more).saved.last
  seen_all [] view p a = absurd a
  seen_all (happening ∷ more) view p a = elim (among_either told (says view happening) (says_all (next view happening) more) a) [
    | inl b ↦ le_through _ _ _ (seen_next happening view p.0 b) (raises_all more (next view happening))
    | inr b ↦ seen_all more (next view happening) p.1 b
  ]

  seen_signals : (more : List Signal) (view : View) → Among told (says_signals view more) → zxid ≤ℤ (after_signals view more).saved.last
  seen_signals [] view a = absurd a
  seen_signals (signal ∷ more) view a =
      elim (among_either told (says_all view (happenings view signal)) (says_signals (after_all view (happenings view signal)) more) a) [
        | inl b ↦ le_through _ _ _ (seen_all (happenings view signal) view (plain_signal signal view) b)
            (raises_signals more (after_all view (happenings view signal)))
        | inr b ↦ seen_signals more (after_all view (happenings view signal)) b
      ]

pub replies_seen : RepliesAreSeen
replies_seen ticket zxid result view after turn rule a =
    subst (λ v. zxid ≤ℤ v.saved.last) (sym rule.next)
    (seen_signals ticket zxid result (signals_of turn.input) view
    (subst (λ outs. Among (Answer ticket (Replied zxid result)) outs) rule.outputs a))
