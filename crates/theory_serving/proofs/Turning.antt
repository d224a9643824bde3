-- What a turn makes a client send are the frames of the requests that it adds: happening by happening, as each one that sends adds what it
-- sends.
use Rattle.zk_watches.specs.Lists.{fires, Lists}
use Rattle.zk_turns.specs.Turns.{Framed, Silent, Start, Outcome, Signal, Opens, Comes, Cuts, Ticks, Calls, Forget, Halt, Output, Send}
use Rattle.zk_turns.specs.Turns.{Report, Enters}
use Rattle.zk_conversation.specs.Calls.{Call}
use Rattle.zk_nodes.specs.Path.{Text}
use Rattle.std.proofs.Common.{◌≡◌, ℕ, ℤ, Bool, true, false, cond, List, [], ◌∷◌, ◌++◌, map, Option, Some, None, refl, sym, ap, subst, ◌∙◌}
use Rattle.std.proofs.Common.{append_assoc}
use Rattle.std.specs.Prelude.{◌&&◌, not, if◌then◌else◌, nat_le, max, ◌*◌, ◌-◌, ⊤}
use Rattle.std.specs.List.{flat_map, AllByRecursion}
use Rattle.std.proofs.lemmas.List.{append-nil, map-append}
use Rattle.std.proofs.lemmas.Grind.{flat_map-append}
use Rattle.zk_nodes.specs.declared.side.Side.{Side}
use Rattle.zk_nodes.specs.declared.side.Side.TheVariants.{Data, Child}
use Rattle.zk_records.specs.declared.event.Event.{Event}
use Rattle.zk_conversation.specs.Questions.{Close}
use Rattle.zk_conversation.specs.Pending.{Pending, Waiting, Part_waits, Call_waits}
use Rattle.zk_session.specs.declared.states.State.{State}
use Rattle.zk_session.specs.declared.states.State.TheVariants.{Idle, Connecting, Connected, Expired, Closed}
use Rattle.zk_frames.specs.Frame.{frame, joined}
use Rattle.zk_turns.specs.Past.{is_talking, is_open, Past, Happening, Began, Came, Took, Dropped, Lost, Asked, Denied, Pinged, Ticked}
use Rattle.zk_turns.specs.Past.{Forgot, Halted, Message, Accepted, Expiry, Replies, Watches_set, Notifies, Pong, Skipped, state_of, held_of}
use Rattle.zk_turns.specs.Past.{has_halted, lists_of, last_of, now_of}
use Rattle.zk_watches.specs.Parts.{parts}
use Rattle.zk_turns.specs.View.{View, view_at}
use Rattle.zk_turns.specs.Taken as taken
use Rattle.zk_turns.specs.Taken.{longest, reading, caused, happenings, opens, of_cutting, cut, Cutting, Unfinished, Bad, Payload, due}
use Rattle.zk_turns.specs.Taken.{timeout_of}
use Rattle.zk_turns.specs.Taken.{refusal, past_after, past_of, comes, if_open}
use Rattle.zk_turns.specs.Rule.{IsOpen, says, part_frame, loss, losses, report, due_happenings, due_signals}
use Rattle.zk_turns.proofs.Frames_sent.{part_of}
use Rattle.zk_turns.proofs.Stream.{of_reading}
use Rattle.zk_turns.proofs.Words.{calls}
use Rattle.zk_laws.specs.Served.{Sent, part_requests, requests, is_going}
use Rattle.theory_serving.specs.Shown.{sent_in, EndsNothing}

-- the bytes of requests
abbrev pub framed : List Sent → List ℕ
framed sent = joined (map (λ one. one.payload) sent)

pub framed_more : (first second : List Sent) → framed (first ++ second) ≡ framed first ++ framed second
framed_more first second = ap joined (map-append (λ one. one.payload) first second)
    ∙ flat_map-append frame (map (λ one. one.payload) first) (map (λ one. one.payload) second)

sent_in_more : (first second : List Output) → sent_in (first ++ second) ≡ sent_in first ++ sent_in second
sent_in_more [] second = refl
sent_in_more (Send bytes ∷ first) second =
    ap (λ t. bytes ++ t) (sent_in_more first second) ∙ sym (append_assoc bytes (sent_in first) (sent_in second))
sent_in_more (_ ∷ first) second = sent_in_more first second

nothing_more : (first second : List Output) → EndsNothing first → EndsNothing second → EndsNothing (first ++ second)
nothing_more [] second a b = b
nothing_more (output ∷ first) second a b = (a.0, nothing_more first second a.1 b)

-- Outputs that send no bytes and end no connection.
record IsSilent (outputs : List Output) : Type 0 where
  sends : sent_in outputs ≡ []
  nothing : EndsNothing outputs

silent_more : (first second : List Output) → IsSilent first → IsSilent second → IsSilent (first ++ second)
silent_more first second a b = record {
  sends = sent_in_more first second ∙ ap (λ t. t ++ sent_in second) a.sends ∙ b.sends;
  nothing = nothing_more first second a.nothing b.nothing;
}

report_silent : (view : View) (event : Event) (path : Text) (side : Side) → IsSilent (report view event path side)
report_silent view event path side = by (fires view.lists event side path)
  where
    by : (b : Bool) → IsSilent (cond b (Report path side event ∷ []) [])
    by true = record { sends = refl; nothing = (refl, tt) }
    by false = record { sends = refl; nothing = tt }

loss_silent : (p : Pending) → IsSilent (loss p)
loss_silent p = by p.waiting
  where
    by : (w : Waiting) → IsSilent (loss (record { xid = p.xid; waiting = w }))
    by (Part_waits b) = record { sends = refl; nothing = tt }
    by (Call_waits t q) = record { sends = refl; nothing = (refl, tt) }

all_silent : (ps : List Pending) → IsSilent (flat_map loss ps)
all_silent [] = record { sends = refl; nothing = tt }
all_silent (p ∷ ps) = silent_more (loss p) (flat_map loss ps) (loss_silent p) (all_silent ps)

losses_silent : (view : View) → IsSilent (losses view)
losses_silent view =
    silent_more (flat_map loss view.pending) (Enters Idle ∷ []) (all_silent view.pending) (record { sends = refl; nothing = (refl, tt) })

parts_sent : (relative : ℤ) (ps : List Lists) → sent_in (map (part_frame relative) ps) ≡ framed (part_requests relative ps)
parts_sent relative [] = refl
parts_sent relative (part ∷ []) = refl
parts_sent relative (part ∷ next ∷ more) = ap (λ t. part_of relative part ++ t) (parts_sent relative (next ∷ more))

parts_nothing : (relative : ℤ) (ps : List Lists) → EndsNothing (map (part_frame relative) ps)
parts_nothing relative [] = tt
parts_nothing relative (part ∷ more) = (refl, parts_nothing relative more)

-- a state that is open, of a client that has not halted
up_going : (past : Past) (b : Bool) → IsOpen (state_of past) → (b && not (has_halted past)) ≡ true → is_going past ≡ true
up_going past true up e = ap (λ s. s && not (has_halted past)) up ∙ e
up_going past false up e = absurd cc

-- no connection begins
abbrev pub NotOpens : Signal → Type 0
NotOpens Opens = ⊥
NotOpens _ = ⊤

module _ (start : Start) where
  -- From one past to a later one these outputs are sent on one connection: they are the frames of the requests that are added, and
  -- end nothing.
  pub record Adds (before after : Past) (outputs : List Output) : Type 0 where
    pub going : is_going before ≡ true
    pub more : List Sent
    pub whole : requests start after ≡ requests start before ++ more
    pub sent : sent_in outputs ≡ framed more
    pub nothing : EndsNothing outputs

  -- where the client has a connection in the end
  abbrev pub KeepsOn : (before after : Past) → List Output → Type 0
  KeepsOn before after outputs = is_going after ≡ true → Adds before after outputs

  still : (past : Past) → KeepsOn past past []
  still past going = record { going = going; more = []; whole = sym (append-nil (requests start past)); sent = refl; nothing = tt }

  and_on : (a b c : Past) (first second : List Output) → KeepsOn a b first → KeepsOn b c second → KeepsOn a c (first ++ second)
  and_on a b c first second k l going =
      let y = l going in
      let x = k y.going in
      record {
        going = x.going;
        more = x.more ++ y.more;
        whole = y.whole ∙ ap (λ t. t ++ y.more) x.whole ∙ append_assoc (requests start a) x.more y.more;
        sent = sent_in_more first second ∙ ap (λ t. t ++ sent_in second) x.sent ∙ ap (λ t. framed x.more ++ t) y.sent
            ∙ sym (framed_more x.more y.more);
        nothing = nothing_more first second x.nothing y.nothing;
      }

  -- what happens adds no request
  adds_none : (before after : Past) (outputs : List Output)
      → is_going before ≡ true → requests start after ≡ requests start before → IsSilent outputs → Adds before after outputs
  adds_none before after outputs going same silent =
      record {
        going = going;
        more = [];
        whole = same ∙ sym (append-nil (requests start before));
        sent = silent.sends;
        nothing = silent.nothing;
      }

  empty : IsSilent []
  empty = record { sends = refl; nothing = tt }

  -- a happening, after a past
  abbrev KeepsOne : Happening → Past → Type 0
  KeepsOne happening past = KeepsOn past (happening ∷ past) (says (view_at start past) happening)

  message_on : (message : Message) (past : Past) → IsOpen (state_of past) → KeepsOne (Took message) past
  message_on (Accepted welcome) past up going = record {
    going = up_going past true up going;
    more = part_requests (last_of start past) (parts (lists_of past));
    whole = refl;
    sent = parts_sent (last_of start past) (parts (lists_of past));
    nothing = (refl, parts_nothing (last_of start past) (parts (lists_of past)));
  }
  message_on Expiry past up going = absurd cc
  message_on (Replies ticket Close zxid result) past up going = absurd cc
  message_on (Replies ticket question zxid result) past up going =
      adds_none past _ _ going refl (record { sends = refl; nothing = (refl, tt) })
  message_on (Watches_set last zxid) past up going = adds_none past _ _ going refl empty
  message_on (Notifies event path) past up going =
      adds_none past _ _ going refl
      (silent_more (report (view_at start past) event path Data) (report (view_at start past) event path Child)
      (report_silent (view_at start past) event path Data) (report_silent (view_at start past) event path Child))
  message_on Pong past up going = adds_none past _ _ going refl empty
  message_on Skipped past up going = adds_none past _ _ going refl empty

  came_on : (byte : ℕ) (past : Past) → KeepsOne (Came byte) past
  came_on byte past going = adds_none past _ _ going refl empty

  -- happenings, one after another
  abbrev KeepsAll : List Happening → Past → Type 0
  KeepsAll more past = KeepsOn past (taken.joined past more) (due_happenings start past more)

  one_on : (happening : Happening) (past : Past) → KeepsOne happening past → KeepsAll (happening ∷ []) past
  one_on happening past k =
      and_on past (happening ∷ past) (happening ∷ past) (says (view_at start past) happening) [] k (still (happening ∷ past))

  first_on : (happening : Happening) (more : List Happening) (past : Past) → KeepsOne happening past → KeepsAll more (happening ∷ past)
      → KeepsAll (happening ∷ more) past
  first_on happening more past k l =
      and_on past (happening ∷ past) (taken.joined (happening ∷ past) more) (says (view_at start past) happening)
      (due_happenings start (happening ∷ past) more) k l

  -- a connection that is given up or lost goes on no more
  dropped_on : (happening : Happening) (past : Past) → (is_going (happening ∷ past) ≡ true → ⊥) → KeepsAll (happening ∷ []) past
  dropped_on happening past over going = absurd (over going)

  cutting_on : (cutting : Cutting) (byte : ℕ) (past : Past) → IsOpen (state_of past)
      → KeepsAll (Came byte ∷ of_cutting (view_at start past) cutting) past
  cutting_on Unfinished byte past up = one_on (Came byte) past (came_on byte past)
  cutting_on (Bad fault) byte past up = first_on (Came byte) (Dropped (Framed fault) ∷ []) past (came_on byte past)
      (dropped_on (Dropped (Framed fault)) (Came byte ∷ past) (λ g. cc))
  cutting_on (Payload payload) byte past up =
      first_on (Came byte) (reading (state_of past) (view_at start past).pending (view_at start past).saved.last payload ∷ [])
      past (came_on byte past)
      (of_reading (λ h. KeepsAll (h ∷ []) (Came byte ∷ past)) (λ message. one_on (Took message) (Came byte ∷ past)
      (message_on message (Came byte ∷ past) up)) (λ fault. dropped_on (Dropped fault) (Came byte ∷ past) (λ g. cc))
      (state_of past) (view_at start past).pending (view_at start past).saved.last payload)

  byte_on : (state : State) (byte : ℕ) (past : Past) → (IsOpen state → IsOpen (state_of past))
      → KeepsAll (if_open state (comes (view_at start past) byte)) past
  byte_on Connecting byte past up =
      cutting_on (cut (longest start.limits (state_of past)) (held_of past ++ byte ∷ [])) byte past (up refl)
  byte_on Connected byte past up =
      cutting_on (cut (longest start.limits (state_of past)) (held_of past ++ byte ∷ [])) byte past (up refl)
  byte_on _ byte past up = still past

  lost_on : (state : State) (past : Past) → KeepsAll (if_open state (Lost ∷ [])) past
  lost_on Connecting past = dropped_on Lost past (λ g. cc)
  lost_on Connected past = dropped_on Lost past (λ g. cc)
  lost_on _ past = still past

  cond_on : (b : Bool) (x y : List Happening) (past : Past) → KeepsAll x past → KeepsAll y past → KeepsAll (cond b x y) past
  cond_on true x y past p q = p
  cond_on false x y past p q = q

  pinged_on : (past : Past) → KeepsOne Pinged past
  pinged_on past going = record { going = going; more = _; whole = refl; sent = refl; nothing = (refl, tt) }

  due_on : (view : View) (now : ℕ) (past : Past) → KeepsAll (due view now) past
  due_on view now past =
      cond_on (nat_le (2 * timeout_of view) (3 * (now - view.moments.heard))) _ _ past (dropped_on (Dropped Silent) past (λ g. cc))
      (by view.standing.state)
    where
      by : (state : State)
          → KeepsAll (if is_talking state && nat_le (timeout_of view) (3 * (now - view.moments.sent)) then Pinged ∷ [] else []) past
      by Connected = cond_on (nat_le (timeout_of view) (3 * (now - view.moments.sent))) (Pinged ∷ []) [] past
          (one_on Pinged past (pinged_on past)) (still past)
      by _ = still past

  due_open_on : (state : State) (view : View) (now : ℕ) (past : Past) → KeepsAll (if_open state (due view now)) past
  due_open_on Connecting view now past = due_on view now past
  due_open_on Connected view now past = due_on view now past
  due_open_on _ view now past = still past

  ticked_on : (moment : ℕ) (past : Past) → KeepsOne (Ticked moment) past
  ticked_on moment past going = adds_none past _ _ going refl empty

  asked_on : (ticket : ℕ) (call : Call) (past : Past) → KeepsOne (Asked ticket call) past
  asked_on ticket call past going = record { going = going; more = _; whole = refl; sent = refl; nothing = (refl, tt) }

  denied_on : (ticket : ℕ) (why : Outcome) (past : Past) → KeepsOne (Denied ticket why) past
  denied_on ticket why past going = adds_none past _ _ going refl (record { sends = refl; nothing = (refl, tt) })

  call_on : (ticket : ℕ) (call : Call) (why : Option Outcome) (past : Past) → KeepsAll (calls ticket call why) past
  call_on ticket call None past = one_on (Asked ticket call) past (asked_on ticket call past)
  call_on ticket call (Some why) past = one_on (Denied ticket why) past (denied_on ticket why past)

  forgot_on : (past : Past) → KeepsOne Forgot past
  forgot_on past going = adds_none past _ _ going refl empty

  pub halted_over : (past : Past) → is_going (Halted ∷ past) ≡ true → ⊥
  halted_over past going = by (is_open (state_of past)) going
    where
      by : (b : Bool) → (b && false) ≡ true → ⊥
      by true f = cc
      by false f = cc

  caused_on : (signal : Signal) (past : Past) → NotOpens signal → KeepsAll (caused (view_at start past) signal) past
  caused_on Opens past n = absurd n
  caused_on (Comes byte) past n = byte_on (state_of past) byte past (λ up. up)
  caused_on Cuts past n = lost_on (state_of past) past
  caused_on (Ticks moment) past n = first_on (Ticked moment) (if_open (state_of past) (due (view_at start past) (max moment (now_of past))))
      past (ticked_on moment past) (due_open_on (state_of past) (view_at start past) (max moment (now_of past)) (Ticked moment ∷ past))
  caused_on (Calls ticket call) past n = call_on ticket call (refusal (view_at start past) call) past
  caused_on Forget past n = one_on Forgot past (forgot_on past)
  caused_on Halt past n = dropped_on Halted past (halted_over past)

  signal_on : (signal : Signal) (past : Past) → NotOpens signal → KeepsAll (happenings (view_at start past) signal) past
  signal_on Forget past n = one_on Forgot past (forgot_on past)
  signal_on Halt past n = dropped_on Halted past (halted_over past)
  signal_on signal past n = cond_on (has_halted past) [] (caused (view_at start past) signal) past (still past) (caused_on signal past n)

  -- What comes after each other without a new connection keeps it on.
  pub signals_on : (signals : List Signal) (past : Past)
      → AllByRecursion NotOpens signals → KeepsOn past (past_after start past signals) (due_signals start past signals)
  signals_on [] past n = still past
  signals_on (signal ∷ more) past n =
      let now : Past = taken.joined past (happenings (view_at start past) signal) in
      and_on past now (past_after start now more) (due_happenings start past (happenings (view_at start past) signal))
      (due_signals start now more) (signal_on signal past n.0) (signals_on more now n.1)

  -- ---- a connection begins

  -- The outputs are the frames of all requests of the connection, and end nothing.
  pub record Begins (after : Past) (outputs : List Output) : Type 0 where
    pub sent : sent_in outputs ≡ framed (requests start after)
    pub nothing : EndsNothing outputs

  begun : (past : Past) → Begins (Began ∷ past) (says (view_at start past) Began)
  begun past = record { sent = refl; nothing = (refl, (refl, tt)) }

  begins_behind : (after : Past) (first second : List Output) → IsSilent first → Begins after second → Begins after (first ++ second)
  begins_behind after first second silent b = record {
    sent = sent_in_more first second ∙ ap (λ t. t ++ sent_in second) silent.sends ∙ b.sent;
    nothing = nothing_more first second silent.nothing b.nothing;
  }

  -- with nothing after it
  alone : (after : Past) (outputs : List Output) → Begins after outputs → Begins after (outputs ++ [])
  alone after outputs b = subst (λ t. Begins after t) (sym (append-nil outputs)) b

  again : (past : Past) → Begins (Began ∷ Lost ∷ past) (due_happenings start past (Lost ∷ Began ∷ []))
  again past = begins_behind (Began ∷ Lost ∷ past) (losses (view_at start past)) (says (view_at start (Lost ∷ past)) Began ++ [])
      (losses_silent (view_at start past))
      (alone (Began ∷ Lost ∷ past) (says (view_at start (Lost ∷ past)) Began) (begun (Lost ∷ past)))

  not_open : (past : Past) (state : State) → state_of past ≡ state → is_open state ≡ false → is_going past ≡ true → ⊥
  not_open past state e closed going =
      absurd (let f : (is_open state && not (has_halted past)) ≡ true = subst (λ s. (is_open s && not (has_halted past)) ≡ true) e going in
      let g : (false && not (has_halted past)) ≡ true = subst (λ b. (b && not (has_halted past)) ≡ true) closed f in cc)

  opens_by : (state : State) (past : Past) → state_of past ≡ state → is_going (taken.joined past (opens state)) ≡ true
      → Begins (taken.joined past (opens state)) (due_happenings start past (opens state))
  opens_by Idle past e going = alone (Began ∷ past) (says (view_at start past) Began) (begun past)
  opens_by Connecting past e going = again past
  opens_by Connected past e going = again past
  opens_by Expired past e going = absurd (not_open past Expired e refl going)
  opens_by Closed past e going = absurd (not_open past Closed e refl going)

  halted_closed : (past : Past) → has_halted past ≡ true → is_going past ≡ true → ⊥
  halted_closed past e going = by (is_open (state_of past)) (subst (λ b. (is_open (state_of past) && not b) ≡ true) e going)
    where
      by : (b : Bool) → (b && false) ≡ true → ⊥
      by true f = cc
      by false f = cc

  opens_or_not : (b : Bool) (past : Past) → has_halted past ≡ b → is_going (taken.joined past (cond b [] (opens (state_of past)))) ≡ true
      → Begins (taken.joined past (cond b [] (opens (state_of past)))) (due_happenings start past (cond b [] (opens (state_of past))))
  opens_or_not true past e going = absurd (halted_closed past e going)
  opens_or_not false past e going = opens_by (state_of past) past refl going

  pub opens_on : (past : Past) → is_going (past_after start past (Opens ∷ [])) ≡ true
      → Begins (past_after start past (Opens ∷ [])) (due_signals start past (Opens ∷ []))
  opens_on past going =
      alone (past_after start past (Opens ∷ [])) (due_happenings start past (happenings (view_at start past) Opens))
      (opens_or_not (has_halted past) past refl going)

  -- ---- a connection is cut

  cut_by : (state : State) (past : Past) → state_of past ≡ state → is_going (taken.joined past (if_open state (Lost ∷ []))) ≡ true → ⊥
  cut_by Idle past e going = not_open past Idle e refl going
  cut_by Connecting past e going = cc
  cut_by Connected past e going = cc
  cut_by Expired past e going = not_open past Expired e refl going
  cut_by Closed past e going = not_open past Closed e refl going

  cut_or_not : (b : Bool) (past : Past)
      → has_halted past ≡ b → is_going (taken.joined past (cond b [] (if_open (state_of past) (Lost ∷ [])))) ≡ true → ⊥
  cut_or_not true past e going = halted_closed past e going
  cut_or_not false past e going = cut_by (state_of past) past refl going

  pub cut_over : (past : Past) → is_going (past_after start past (Cuts ∷ [])) ≡ true → ⊥
  cut_over past going = cut_or_not (has_halted past) past refl going

-- the signals of an input that begins no connection
pub comes_all : (bytes : List ℕ) → AllByRecursion NotOpens (map Comes bytes)
comes_all [] = tt
comes_all (byte ∷ bytes) = (tt, comes_all bytes)
