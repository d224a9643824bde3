-- What is given has its cause in what happened: signal by signal, an output stands among those of one of the happenings.
use Rattle.zk_conversation.specs.Calls.{Call}
use Rattle.zk_nodes.specs.Path.{Text}
use Rattle.std.proofs.Common.{◌≡◌, ℕ, Option, Some, None, ap, ℤ, Bool, true, false, cond, List, [], ◌∷◌, ◌++◌, map, refl, sym, subst, inl}
use Rattle.std.proofs.Common.{inr, ◌⊎◌}
use Rattle.std.specs.Prelude.{◌&&◌, if◌then◌else◌, nat_le, ◌*◌, ◌-◌}
use Rattle.std.specs.List.{flat_map}
use Rattle.zk_session.specs.declared.states.State.{State}
use Rattle.zk_conversation.specs.Results.{Result}
use Rattle.zk_turns.specs.Turns.{Outcome, Replied, SessionClosed, TooManyWatches, TooLarge, TooManyPending, Answer, Start, Fault, Output}
use Rattle.zk_turns.specs.Turns.{Report, Enters, Drop, Item, Turned, Forgets, Halts, Signal, Forget, Halt, Opens, Comes, Cuts, Ticks, Calls}
use Rattle.zk_turns.specs.Turns.{signals_of, Silent}
use Rattle.zk_conversation.specs.Questions.{Question, Close}
use Rattle.zk_nodes.specs.declared.side.Side.{Side}
use Rattle.zk_nodes.specs.declared.side.Side.TheVariants.{Data, Child}
use Rattle.zk_records.specs.declared.event.Event.{Event}
use Rattle.zk_session.specs.declared.states.State.TheVariants.{Idle, Connecting, Connected, Expired, Closed}
use Rattle.zk_turns.specs.Past.{is_talking, Past, Happening, Began, Came, Took, Dropped, Lost, Asked, Denied, Pinged, Ticked, Forgot}
use Rattle.zk_turns.specs.Past.{Halted, Message, Accepted, Expiry, Replies, Watches_set, Notifies, Pong, Skipped}
use Rattle.zk_watches.specs.Lists.{Lists}
use Rattle.zk_watches.specs.Parts.{parts}
use Rattle.zk_conversation.specs.Pending.{Pending, Waiting, Part_waits, Call_waits}
use Rattle.zk_turns.specs.View.{View, view_at}
use Rattle.zk_turns.specs.Taken.{Cutting, Unfinished, Bad, Payload, cut, longest_of, of_cutting, comes, opens, if_open, due, timeout_of}
use Rattle.zk_turns.specs.Taken.{refusal}
use Rattle.zk_turns.specs.Taken.{caused, happenings, joined, past_after, past_of}
use Rattle.zk_turns.specs.Rule.{says, loss, part_frame, report, due_happenings, due_signals, AllSaid, Stands}
use Rattle.zk_turns.specs.Sent.{outputs_of}
use Rattle.zk_turns.proofs.Sending.{onto, outputs_onto}
use Rattle.zk_turns.proofs.Stream.{of_reading}
use Rattle.zk_turns.specs.Meaning.{Among}
use Rattle.zk_laws.proofs.Basics.{Among-left}
use Rattle.zk_turns.proofs.Words.{closing, calls, refusal_in}

pub among_split : {A : Type 0} (x : A) (xs ys : List A) → Among x (xs ++ ys) → Among x xs ⊎ Among x ys
among_split x [] ys a = inr a
among_split x (y ∷ xs) ys (inl e) = inl (inl e)
among_split x (y ∷ xs) ys (inr a) = elim (among_split x xs ys a) [ inl b ↦ inl (inr b) | inr b ↦ inr b ]

among_onto : (o : Output) (xs ys : List Output) → Among o (onto xs ys) → Among o xs ⊎ Among o ys
among_onto o [] ys a = inr a
among_onto o (x ∷ xs) ys a = by (among_onto o xs (x ∷ ys) a)
  where
    by : Among o xs ⊎ Among o (x ∷ ys) → Among o (x ∷ xs) ⊎ Among o ys
    by (inl b) = inl (inr b)
    by (inr (inl e)) = inl (inl e)
    by (inr (inr b)) = inr b

module _ (start : Start) (o : Output) (P : Happening → Type 0) (caused : (past : Past) (signal : Signal) (x : Happening)
    → Among x (happenings (view_at start past) signal) → (view : View) → Among o (says view x) → P x) where
  abbrev Has : Past → Type 0
  Has past = (x : Happening) × Among x past × P x

  has_more : (hs : List Happening) (past : Past) → Has past → Has (joined past hs)
  has_more [] past h = h
  has_more (x ∷ hs) past h = has_more hs (x ∷ past) (h.0, inr h.1, h.2)

  has_signals : (ss : List Signal) (past : Past) → Has past → Has (past_after start past ss)
  has_signals [] past h = h
  has_signals (s ∷ ss) past h =
      has_signals ss (joined past (happenings (view_at start past) s)) (has_more (happenings (view_at start past) s) past h)

  in_due : (hs : List Happening) (past : Past) → ((x : Happening) → Among x hs → (view : View) → Among o (says view x) → P x)
      → Among o (due_happenings start past hs) → Has (joined past hs)
  in_due [] past f a = absurd a
  in_due (x ∷ hs) past f a = elim (among_split o (says (view_at start past) x) (due_happenings start (x ∷ past) hs) a) [
    | inl b ↦ has_more hs (x ∷ past) (x, inl refl, f x (inl refl) (view_at start past) b)
    | inr b ↦ in_due hs (x ∷ past) (λ y m. f y (inr m)) b
  ]

  in_signals : (ss : List Signal) (past : Past) → Among o (due_signals start past ss) → Has (past_after start past ss)
  in_signals [] past a = absurd a
  in_signals (s ∷ ss) past a =
      let now : Past = joined past (happenings (view_at start past) s) in
      elim (among_split o (due_happenings start past (happenings (view_at start past) s)) (due_signals start now ss) a) [
        | inl b ↦ has_signals ss now (in_due (happenings (view_at start past) s) past (λ x m. caused past s x m) b)
        | inr b ↦ in_signals ss now b
      ]

  pub in_items : (items : List Item) → AllSaid start items → Among o (outputs_of items) → Has (past_of start items)
  in_items [] said a = absurd a
  in_items (Turned turn ∷ items) said a =
      elim (among_onto o turn.outputs (outputs_of items) (subst (λ l. Among o l) (outputs_onto turn items) a)) [
        | inl b ↦ in_signals (signals_of turn.input) (past_of start items) (subst (λ t. Among o t) said.0 b)
        | inr b ↦ has_signals (signals_of turn.input) (past_of start items) (in_items items said.1 b)
      ]
  in_items (Forgets ∷ items) said a = has_signals (Forget ∷ []) (past_of start items) (in_items items said a)
  in_items (Halts ∷ items) said a = has_signals (Halt ∷ []) (past_of start items) (in_items items said a)

-- ---- drops

module _ (fault : Fault) where
  no_loss : (p : Pending) → Among (Drop fault) (loss p) → ⊥
  no_loss p a = by p.waiting a
    where
      by : (w : Waiting) → Among (Drop fault) (loss (record { xid = p.xid; waiting = w })) → ⊥
      by (Part_waits b) a = a
      by (Call_waits t q) (inl e) = cc
      by (Call_waits t q) (inr a) = a

  no_losses : (ps : List Pending) → Among (Drop fault) (flat_map loss ps ++ Enters Idle ∷ []) → ⊥
  no_losses [] (inl e) = cc
  no_losses [] (inr a) = a
  no_losses (p ∷ ps) a = by (among_split (Drop fault) (loss p ++ flat_map loss ps) (Enters Idle ∷ []) a) (λ b. no_losses ps b)
    where
      by : Among (Drop fault) (loss p ++ flat_map loss ps) ⊎ Among (Drop fault) (Enters Idle ∷ [])
          → (Among (Drop fault) (flat_map loss ps ++ Enters Idle ∷ []) → ⊥) → ⊥
      by (inr (inl e)) more = cc
      by (inr (inr b)) more = b
      by (inl b) more = elim (among_split (Drop fault) (loss p) (flat_map loss ps) b) [
        | inl c ↦ no_loss p c
        | inr c ↦
            more (Among-left (Drop fault) (flat_map loss ps) (Enters Idle ∷ []) c)
      ]

  no_part : (z : ℤ) (ps : List Lists) → Among (Drop fault) (map (part_frame z) ps) → ⊥
  no_part z [] a = a
  no_part z (p ∷ ps) (inl e) = cc
  no_part z (p ∷ ps) (inr a) = no_part z ps a

  no_report : (b : Bool) (path : Text) (side : Side) (event : Event) → Among (Drop fault) (cond b (Report path side event ∷ []) []) → ⊥
  no_report true path side event (inl e) = cc
  no_report true path side event (inr a) = a
  no_report false path side event a = a

  no_closing : (q : Question) → Among (Drop fault) (closing q) → ⊥
  no_closing Close (inl e) = cc
  no_closing Close (inr a) = a
  no_closing _ a = a

  no_message : (view : View) (m : Message) → Among (Drop fault) (says view (Took m)) → ⊥
  no_message view (Accepted w) (inl e) = cc
  no_message view (Accepted w) (inr a) = no_part view.saved.last (parts view.lists) a
  no_message view Expiry (inl e) = cc
  no_message view Expiry (inr a) = a
  no_message view (Replies t q z r) (inl e) = cc
  no_message view (Replies t q z r) (inr a) = no_closing q a
  no_message view (Watches_set b z) a = a
  no_message view (Notifies event path) a = elim (among_split (Drop fault) (report view event path Data) (report view event path Child) a) [
    | inl b ↦ no_report _ path Data event b
    | inr b ↦ no_report _ path Child event b
  ]
  no_message view Pong a = a
  no_message view Skipped a = a

  drop_cause : (view : View) (x : Happening) → Among (Drop fault) (says view x) → Dropped fault ≡ x
  drop_cause view Began (inl e) = absurd cc
  drop_cause view Began (inr (inl e)) = absurd cc
  drop_cause view Began (inr (inr a)) = absurd a
  drop_cause view (Came byte) a = absurd a
  drop_cause view (Took m) a = absurd (no_message view m a)
  drop_cause view (Dropped f) (inl e) = let s : fault ≡ f = cc in ap Dropped s
  drop_cause view (Dropped f) (inr a) = absurd (no_losses view.pending a)
  drop_cause view Lost a = absurd (no_losses view.pending a)
  drop_cause view (Asked t q) (inl e) = absurd cc
  drop_cause view (Asked t q) (inr a) = absurd a
  drop_cause view (Denied t why) (inl e) = absurd cc
  drop_cause view (Denied t why) (inr a) = absurd a
  drop_cause view Pinged (inl e) = absurd cc
  drop_cause view Pinged (inr a) = absurd a
  drop_cause view (Ticked moment) a = absurd a
  drop_cause view Forgot a = absurd a
  drop_cause view Halted a = absurd a

  -- Each drop that was given is one that happened.
  pub given_drops : (start : Start) (items : List Item) (view : View) → Stands start items view → Among (Drop fault) (outputs_of items)
      → Among (Dropped fault) (past_of start items)
  given_drops start items view s a =
      let h = in_items start (Drop fault) (λ x. Dropped fault ≡ x) (λ past signal x m view b. drop_cause view x b) items s.said a in
      subst (λ x. Among x (past_of start items)) (sym h.2) h.1

-- ---- answers

module _ (ticket : ℕ) (zxid : ℤ) (result : Result) where
  abbrev the_answer : Output
  the_answer = Answer ticket (Replied zxid result)

  not_lost : (p : Pending) → Among the_answer (loss p) → ⊥
  not_lost p a = by p.waiting a
    where
      by : (w : Waiting) → Among the_answer (loss (record { xid = p.xid; waiting = w })) → ⊥
      by (Part_waits b) a = a
      by (Call_waits t q) (inl e) = cc
      by (Call_waits t q) (inr a) = a

  none_lost : (ps : List Pending) → Among the_answer (flat_map loss ps ++ Enters Idle ∷ []) → ⊥
  none_lost [] (inl e) = cc
  none_lost [] (inr a) = a
  none_lost (p ∷ ps) a = by (among_split the_answer (loss p ++ flat_map loss ps) (Enters Idle ∷ []) a) (λ b. none_lost ps b)
    where
      by : Among the_answer (loss p ++ flat_map loss ps) ⊎ Among the_answer (Enters Idle ∷ [])
          → (Among the_answer (flat_map loss ps ++ Enters Idle ∷ []) → ⊥) → ⊥
      by (inr (inl e)) more = cc
      by (inr (inr b)) more = b
      by (inl b) more = elim (among_split the_answer (loss p) (flat_map loss ps) b) [
        | inl c ↦ not_lost p c
        | inr c ↦
            more (Among-left the_answer (flat_map loss ps) (Enters Idle ∷ []) c)
      ]

  not_part : (z : ℤ) (ps : List Lists) → Among the_answer (map (part_frame z) ps) → ⊥
  not_part z [] a = a
  not_part z (p ∷ ps) (inl e) = cc
  not_part z (p ∷ ps) (inr a) = not_part z ps a

  not_report : (b : Bool) (path : Text) (side : Side) (event : Event) → Among the_answer (cond b (Report path side event ∷ []) []) → ⊥
  not_report true path side event (inl e) = cc
  not_report true path side event (inr a) = a
  not_report false path side event a = a

  not_closing : (q : Question) → Among the_answer (closing q) → ⊥
  not_closing Close (inl e) = cc
  not_closing Close (inr a) = a
  not_closing _ a = a

  -- no call is refused with a reply
  by_tests : (a b c d : Bool) → cond a (Some SessionClosed)
      (cond b (Some TooManyPending) (cond c (Some TooManyWatches) (cond d (Some TooLarge) None))) ≡ Some (Replied zxid result) → ⊥
  by_tests true b c d e = cc
  by_tests false true c d e = cc
  by_tests false false true d e = cc
  by_tests false false false true e = cc
  by_tests false false false false e = cc

  refused_plain : (st : State) (view : View) (q : Call) → refusal_in st view q ≡ Some (Replied zxid result) → ⊥
  refused_plain Expired view q e = cc
  refused_plain Closed view q e = cc
  refused_plain Connected view q e = by_tests _ _ _ _ e
  refused_plain Idle view q e = cc
  refused_plain Connecting view q e = cc

  abbrev the_denial : Happening
  the_denial = Denied ticket (Replied zxid result)

  called_plain : (t : ℕ) (q : Call) (why : Option Outcome) → (why ≡ Some (Replied zxid result) → ⊥) → Among the_denial (calls t q why) → ⊥
  called_plain t q None isnt (inl e) = cc
  called_plain t q None isnt (inr a) = a
  called_plain t q (Some why) isnt (inl e) = let s : why ≡ Replied zxid result = cc in isnt (ap Some s)
  called_plain t q (Some why) isnt (inr a) = a

  opened_plain : (st : State) → Among the_denial (opens st) → ⊥
  opened_plain Idle (inl e) = cc
  opened_plain Idle (inr a) = a
  opened_plain Connecting (inl e) = cc
  opened_plain Connecting (inr (inl e)) = cc
  opened_plain Connecting (inr (inr a)) = a
  opened_plain Connected (inl e) = cc
  opened_plain Connected (inr (inl e)) = cc
  opened_plain Connected (inr (inr a)) = a
  opened_plain Expired a = a
  opened_plain Closed a = a

  if_open_plain : (st : State) (xs : List Happening) → (Among the_denial xs → ⊥) → Among the_denial (if_open st xs) → ⊥
  if_open_plain Connecting xs isnt a = isnt a
  if_open_plain Connected xs isnt a = isnt a
  if_open_plain _ xs isnt a = a

  cutting_plain : (view : View) (c : Cutting) → Among the_denial (of_cutting view c) → ⊥
  cutting_plain view Unfinished a = a
  cutting_plain view (Bad fault) (inl e) = cc
  cutting_plain view (Bad fault) (inr a) = a
  cutting_plain view (Payload p) (inl e) =
      of_reading (λ x. the_denial ≡ x → ⊥) (λ m f. cc) (λ f g. cc) view.standing.state view.pending view.saved.last p e
  cutting_plain view (Payload p) (inr a) = a

  comes_plain : (view : View) (byte : ℕ) → Among the_denial (comes view byte) → ⊥
  comes_plain view byte (inl e) = cc
  comes_plain view byte (inr a) = cutting_plain view (cut (longest_of view) (view.held ++ byte ∷ [])) a

  cond_plain : (b : Bool) (xs ys : List Happening) → (Among the_denial xs → ⊥) → (Among the_denial ys → ⊥)
      → Among the_denial (cond b xs ys) → ⊥
  cond_plain true xs ys f g a = f a
  cond_plain false xs ys f g a = g a

  one_plain : (x : Happening) → (the_denial ≡ x → ⊥) → Among the_denial (x ∷ []) → ⊥
  one_plain x isnt (inl e) = isnt e
  one_plain x isnt (inr a) = a

  due_plain : (view : View) (now : ℕ) → Among the_denial (due view now) → ⊥
  due_plain view now a = cond_plain (nat_le (2 * timeout_of view) (3 * (now - view.moments.heard))) (Dropped Silent ∷ []) _
      (one_plain (Dropped Silent) (λ e. cc)) (by view.standing.state) a
    where
      by : (st : State)
          → Among the_denial (if is_talking st && nat_le (timeout_of view) (3 * (now - view.moments.sent)) then Pinged ∷ [] else []) → ⊥
      by Connected b =
          cond_plain (nat_le (timeout_of view) (3 * (now - view.moments.sent))) (Pinged ∷ []) [] (one_plain Pinged (λ e. cc)) (λ c. c) b
      by _ b = b

  caused_plain : (view : View) (signal : Signal) → Among the_denial (caused view signal) → ⊥
  caused_plain view Opens a = opened_plain view.standing.state a
  caused_plain view (Comes byte) a = if_open_plain view.standing.state (comes view byte) (comes_plain view byte) a
  caused_plain view Cuts a = if_open_plain view.standing.state (Lost ∷ []) (one_plain Lost (λ e. cc)) a
  caused_plain view (Ticks moment) (inl e) = cc
  caused_plain view (Ticks moment) (inr a) = if_open_plain view.standing.state _ (due_plain view _) a
  caused_plain view (Calls t q) a = called_plain t q (refusal view q) (refused_plain view.standing.state view q) a
  caused_plain view Forget a = one_plain Forgot (λ e. cc) a
  caused_plain view Halt a = one_plain Halted (λ e. cc) a

  happens_plain : (view : View) (signal : Signal) → Among the_denial (happenings view signal) → ⊥
  happens_plain view Forget a = one_plain Forgot (λ e. cc) a
  happens_plain view Halt a = one_plain Halted (λ e. cc) a
  happens_plain view signal a = cond_plain view.standing.halted [] (caused view signal) (λ b. b) (caused_plain view signal) a

  abbrev IsReply : Happening → Type 0
  IsReply x = (q : Question) × (Took (Replies ticket q zxid result) ≡ x)

  message_cause : (view : View) (m : Message) → Among the_answer (says view (Took m)) → IsReply (Took m)
  message_cause view (Accepted w) (inl e) = absurd cc
  message_cause view (Accepted w) (inr a) = absurd (not_part view.saved.last (parts view.lists) a)
  message_cause view Expiry (inl e) = absurd cc
  message_cause view Expiry (inr a) = absurd a
  message_cause view (Replies t q z r) (inl e) =
      let u : ticket ≡ t = cc in let v : zxid ≡ z = cc in let w : result ≡ r = cc in
      (q, λ i. Took (Replies (u i) q (v i) (w i)))
  message_cause view (Replies t q z r) (inr a) = absurd (not_closing q a)
  message_cause view (Watches_set b z) a = absurd a
  message_cause view (Notifies event path) a =
      elim (among_split the_answer (report view event path Data) (report view event path Child) a) [
        | inl b ↦ absurd (not_report _ path Data event b)
        | inr b ↦ absurd (not_report _ path Child event b)
      ]
  message_cause view Pong a = absurd a
  message_cause view Skipped a = absurd a

  answer_cause : (start : Start) (past : Past) (signal : Signal) (x : Happening) → Among x (happenings (view_at start past) signal)
      → (view : View) → Among the_answer (says view x) → IsReply x
  answer_cause start past signal Began m view (inl e) = absurd cc
  answer_cause start past signal Began m view (inr (inl e)) = absurd cc
  answer_cause start past signal Began m view (inr (inr a)) = absurd a
  answer_cause start past signal (Came byte) m view a = absurd a
  answer_cause start past signal (Took message) m view a = message_cause view message a
  answer_cause start past signal (Dropped f) m view (inl e) = absurd cc
  answer_cause start past signal (Dropped f) m view (inr a) = absurd (none_lost view.pending a)
  answer_cause start past signal Lost m view a = absurd (none_lost view.pending a)
  answer_cause start past signal (Asked t q) m view (inl e) = absurd cc
  answer_cause start past signal (Asked t q) m view (inr a) = absurd a
  answer_cause start past signal (Denied t why) m view (inl e) =
      let u : t ≡ ticket = cc in let v : why ≡ Replied zxid result = cc in
      absurd (happens_plain (view_at start past) signal
      (subst (λ x. Among x (happenings (view_at start past) signal)) (λ i. Denied (u i) (v i)) m))
  answer_cause start past signal (Denied t why) m view (inr a) = absurd a
  answer_cause start past signal Pinged m view (inl e) = absurd cc
  answer_cause start past signal Pinged m view (inr a) = absurd a
  answer_cause start past signal (Ticked moment) m view a = absurd a
  answer_cause start past signal Forgot m view a = absurd a
  answer_cause start past signal Halted m view a = absurd a

  -- Each answer that was given with a reply's zxid is of a reply that was taken.
  pub given_answers : (start : Start) (items : List Item) (view : View) → Stands start items view → Among the_answer (outputs_of items)
      → (q : Question) × Among (Took (Replies ticket q zxid result)) (past_of start items)
  given_answers start items view s a =
      let h = in_items start the_answer IsReply (answer_cause start) items s.said a in
      (h.2.0, subst (λ x. Among x (past_of start items)) (sym h.2.1) h.1)
