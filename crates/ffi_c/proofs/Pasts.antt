-- What the client of a session has come through, use by use, and the reports and ends of calls that were told meanwhile.
use Rattle.std.proofs.Common.{◌≡◌, ◌+◌, inl, inr, ℕ, zero, suc, ℤ, pos, negsuc, Bool, true, false, cond, List, [], ◌∷◌, Option}
use Rattle.std.proofs.Common.{Some, None, map, refl, sym, ap, subst, ◌∙◌}
use native.Mathlib.Omega.{arith}
use Rattle.std.specs.Prelude.{◌==◌, ◌||◌, ◌⊎◌, ◌<◌, Result, Ok, Err, unsigned_abs}
use Rattle.std.specs.List.{flat_map, FoldsTo}
use Rattle.std.specs.declared.alloc.Global.{Global}
use Rattle.zk_frames.specs.declared.limits.FrameLimits.{FrameLimits}
use Rattle.zk_turns.specs.Turns.{Start, Item, Turned, Halts, Output, new_start}
use Rattle.zk_turns.specs.Turns as turns
use Rattle.zk_turns.specs.View.{View, view_at}
use Rattle.zk_turns.specs.Rule.{Stands}
use Rattle.zk_turns.specs.Reported.{reports_in}
use Rattle.zk_turns.specs.Sent.{outputs_of}
use Rattle.zk_turns.proofs.Stepped.{one_turn, halt_stands}
use Rattle.zk_client.specs.Clients.{renewed_start, view_of}
use Rattle.zk_client.specs.SavedSessions.{PutAway, bytes_read}
use Rattle.zk_client.specs.declared.saved_fault.SavedFault.{SavedFault}
use Rattle.zk_client.proofs.Holding.{holds_here}
use Rattle.zk_calls.specs.declared.line.Line.{Line}
use Rattle.zk_agent.specs.declared.agent.Agent.{Agent}
use Rattle.zk_agent.specs.declared.input.AgentInput.{AgentInput}
use Rattle.zk_agent.specs.declared.input.AgentInput.TheVariants as happens
use Rattle.zk_agent.specs.Agents.{Advance, ByTurn, ByRenewal, IsBroken, IsLed}
use Rattle.zk_agent.specs.Agents as agents
use Rattle.zk_agent.specs.Calls.{how_many}
use Rattle.ffi_device.specs.Refused.{RefusesTimeout}
use Rattle.ffi_device.specs.Sessions.{put_start}
use Rattle.ffi_device.specs.declared.flat.Flat.{Flat}
use Rattle.ffi_device.specs.Chains.{first_own, Part}
use Rattle.ffi_device.specs.Happenings.{Happening, given_of, happening, is_contend}
use Rattle.ffi_device.specs.Happenings as whats
use Rattle.ffi_device.specs.Steps.{BeginsWith, Stepped, Stopped, within}
use Rattle.ffi_device.specs.declared.device.Device.{Device}
use Rattle.ffi_c.specs.Held.{ForgetsStale, Holds, Makes, Tells, TellsAll}
use Rattle.ffi_c.specs.Lives.{Use, Opens, Resumes, Steps, Reads, ReadsAll, Forgets, Looks, Frees, Does as Uses_so}
use Rattle.ffi_c.specs.Lives.{Used, held_after, IsLife, RefusesHappening}
use Rattle.ffi_c.specs.Pasts.{Chapter, Advances, AreBelow, Breaks, IsBelow}
use Rattle.ffi_c.specs.Pasts.{CameBy, Came, reported_by, told_reports, asked_by, contended_by, settled_by, how_many_asked}
use Rattle.ffi_c.specs.Pasts.{has_contended, how_many_settled, CoherentForLife}
use Rattle.ffi_c.proofs.Chains.{calls_told, inputs_own, reported_but, IsPrograms}
use Rattle.ffi_c.proofs.Lives.{empty_holds_none, fresh, in_held}
use Rattle.ffi_c.proofs.Stepped.{its_listing, session_begins, session_forgets, session_stays, step_goes, InSession}
use Rattle.ffi_c.proofs.Turned.{forget_stands}

-- ---- where memory runs out

advance_on : (timeout : ℤ) (advances : List Advance) (view here : View) → FoldsTo (agents.Advances timeout) view advances here
    → (chapter : Chapter) → Stands chapter.start chapter.items view
    → (next : Chapter) × FoldsTo (Advances timeout) chapter advances next × Stands next.start next.items here
advance_on timeout [] view here same chapter stands = (chapter, refl, subst (Stands chapter.start chapter.items) same stands)
advance_on timeout (ByTurn turn ∷ advances) view here chain chapter stands =
    let next : Chapter = record chapter { items = Turned turn ∷ chapter.items } in
    let rest = advance_on timeout advances chain.0 here chain.2 next
    (one_turn chapter.start chapter.items view chain.0 turn stands chain.1) in
    (rest.0, (next, refl, rest.1), rest.2)
advance_on timeout (ByRenewal ∷ advances) view here chain chapter stands =
    let next : Chapter = record { start = renewed_start timeout view; items = [] } in
    let rest = advance_on timeout advances chain.0 here chain.2 next (subst (Stands next.start []) (sym chain.1.1) (fresh next.start)) in
    (rest.0, (next, (view, stands, chain.1.0, refl), rest.1), rest.2)

broken_off : (before after : Device) → IsBroken before.agent after.agent → (chapter : Chapter)
    → Stands chapter.start chapter.items (view_of before.agent.asker.follower.client)
    → (next : Chapter) × Breaks before.agent.timeout_ms chapter next
    × Stands next.start next.items (view_of after.agent.asker.follower.client)
broken_off before after broke chapter stands =
    let on = advance_on before.agent.timeout_ms broke.advances (view_of before.agent.asker.follower.client) broke.here broke.chain chapter
    stands in
    elim broke.ends [
      | inl same ↦ (
        on.0,
        (broke.advances, on.0, on.1, inl refl),
        subst (Stands on.0.start on.0.items) (sym same) on.2,
      )
      | inr halts ↦ (
        record on.0 { items = Halts ∷ on.0.items },
        (broke.advances, on.0, on.1, inr refl),
        halt_stands on.0.start on.0.items broke.here (view_of after.agent.asker.follower.client) on.2 halts,
      )
    ]

-- ---- one use after the others

-- What is so of a session in a handle: the chapter that it has come to, and, while memory has not run out within a step, the reports,
-- whether somebody has contended, the calls, and, if tickets of contenders' calls are theirs alone, what contenders have listed.
record Past (Earlier : Chapter → Type 0) (reports : List Output) (settled asked : ℕ → ℕ) (contended : Bool) (Below : Type 0)
    (session : Device) : Type 0 where
  chapter : Chapter
  came : Earlier chapter
  stands : Stands chapter.start chapter.items (view_of session.agent.asker.follower.client)
  told : session.is_over ≡ false → reports ≡ reports_in (outputs_of chapter.items)
  contends : session.is_over ≡ false → session.is_contending ≡ contended
  calls : session.is_over ≡ false → (ticket : ℕ) → (ticket < first_own) ⊎ (contended ≡ false)
      → how_many ticket session.agent.asker.line.entries.items + settled ticket ≡ asked ticket
  lists : session.is_over ≡ false → Below → InSession chapter session

abbrev PastIn : (Earlier : Chapter → Type 0) → List Output → (settled asked : ℕ → ℕ) → Bool → (Below : Type 0) → Option Device → Type 0
PastIn Earlier reports settled asked contended Below held =
    (session : Device) → held ≡ Some session → Past Earlier reports settled asked contended Below session

begun : (start : Start) (session : Device) (Earlier : Chapter → Type 0) (Below : Type 0) → Earlier (record { start = start; items = [] })
    → BeginsWith (view_at start []) session → Past Earlier [] (λ ticket. 0) (λ ticket. 0) false Below session
begun start session Earlier Below earlier begins = record {
  chapter = record { start = start; items = [] };
  came = earlier;
  stands = subst (Stands start []) (sym begins.client) (fresh start);
  told = λ on. refl;
  contends = λ on. begins.no_contender;
  calls = λ on ticket ours. ap (λ entries. how_many ticket entries + 0) begins.calls;
  lists = λ on below.
      session_begins (record { start = start; items = [] }) session refl begins.calls begins.subjects begins.nobody begins.no_asker;
}

made : (Refuses : ℤ → Type 0) (start : Start) (Earlier : Chapter → Type 0) (Below : Type 0)
    → Earlier (record { start = start; items = [] }) → (code : ℤ) (after : Option Device) → Makes Refuses start code after
    → PastIn Earlier [] (λ ticket. 0) (λ ticket. 0) false Below after
made Refuses start Earlier Below earlier (pos zero) after makes session is =
    begun start session Earlier Below earlier (in_held (BeginsWith (view_at start [])) session after makes is)
made Refuses start Earlier Below earlier (pos (suc n)) after makes session is = empty_holds_none session after makes.1 is
made Refuses start Earlier Below earlier (negsuc n) after makes session is = empty_holds_none session after makes.1 is

resumed : (limits : FrameLimits) (timeout : ℤ) (saved : List ℕ) (code : ℤ) (before after : Option Device) (Earlier : Chapter → Type 0)
    (Below : Type 0) (read : Result PutAway SavedFault) → bytes_read saved ≡ read
    → Uses_so before (Resumes limits timeout saved code) after
    → PastIn (CameBy (Resumes limits timeout saved code) before after Earlier) [] (λ ticket. 0) (λ ticket. 0) false Below after
resumed limits timeout saved code before after Earlier Below (Ok put) reads does session is =
    made (RefusesTimeout timeout) (within limits (put_start timeout put)) (CameBy (Resumes limits timeout saved code) before after Earlier)
    Below (put, reads, refl) code
    after (does.0 put reads) session is
resumed limits timeout saved code before after Earlier Below (Err fault) reads does session is =
    empty_holds_none session after (does.1 fault reads) is

asked_so : (ticket moment : ℕ) (given : AgentInput Global) (n : ℕ)
    → asked_by ticket (Steps moment (happening given) (pos zero)) n ≡ agents.how_many_asked ticket given + n
asked_so ticket moment (happens.Call its call until) n = by (its == ticket)
  where
    by : (b : Bool) → cond b (1 + n) n ≡ cond b 1 0 + n
    by true = refl
    by false = omega arith
asked_so ticket moment happens.Opened n = omega arith
asked_so ticket moment happens.Failed n = omega arith
asked_so ticket moment (happens.Bytes bytes) n = omega arith
asked_so ticket moment happens.Cut n = omega arith
asked_so ticket moment happens.Moment n = omega arith
asked_so ticket moment (happens.Addresses kept added is_listed) n = omega arith
asked_so ticket moment (happens.Credential credential) n = omega arith
asked_so ticket moment (happens.Follow its side path) n = omega arith
asked_so ticket moment (happens.Unfollow its) n = omega arith
asked_so ticket moment (happens.FollowTree its root most) n = omega arith
asked_so ticket moment (happens.UnfollowTree its) n = omega arith

-- of a contender the agent is asked nothing
asked_as : (ticket moment n : ℕ) (what : Happening)
    → asked_by ticket (Steps moment (given_of what) (pos zero)) n ≡ asked_by ticket (Steps moment what (pos zero)) n
asked_as ticket moment n whats.Opened = refl
asked_as ticket moment n whats.Failed = refl
asked_as ticket moment n whats.Cut = refl
asked_as ticket moment n whats.Moment = refl
asked_as ticket moment n (whats.Bytes bytes) = refl
asked_as ticket moment n (whats.Addressed kept added is_listed) = refl
asked_as ticket moment n (whats.Calls its asked until) = refl
asked_as ticket moment n (whats.Introduces frame) = refl
asked_as ticket moment n (whats.Follows its side path) = refl
asked_as ticket moment n (whats.Unfollows its) = refl
asked_as ticket moment n (whats.FollowsTree its root most) = refl
asked_as ticket moment n (whats.UnfollowsTree its) = refl
asked_as ticket moment n (whats.Contends its directory naming guid bytes acl may_be_there) = refl
asked_as ticket moment n (whats.GivesUp its) = refl

-- where nobody has contended, nobody had before
earlier_too : {X : Type 0} (contends before : Bool) → X ⊎ ((contends || before) ≡ false) → X ⊎ (before ≡ false)
earlier_too contends before (inl below) = inl below
earlier_too true before (inr none) = absurd (let e : true ≡ false = none in cc)
earlier_too false before (inr none) = inr none

balances : (there told before asked settled all : ℕ) → there + told ≡ before + asked → before + settled ≡ all
    → there + (told + settled) ≡ asked + all
balances there told before asked settled all first second = omega (arith, first, second)

module _ (Earlier : Chapter → Type 0) (reports : List Output) (settled asked : ℕ → ℕ) (contended : Bool) (Below : Type 0) where
  abbrev Was : Device → Type 0
  Was session = Past Earlier reports settled asked contended Below session

  abbrev WasIn : Option Device → Type 0
  WasIn held = PastIn Earlier reports settled asked contended Below held

  -- what is so once this was used
  abbrev IsOne : Use → (before after : Option Device) → Device → Type 0
  IsOne used before after session = Past (CameBy used before after Earlier) (reported_by used after reports)
      (λ ticket. settled_by ticket used after (settled ticket)) (λ ticket. asked_by ticket used (asked ticket))
      (contended_by used contended) (IsBelow used after × Below) session

  abbrev IsThen : Use → (before after : Option Device) → Type 0
  IsThen used before after = (session : Device) → after ≡ Some session → IsOne used before after session

  -- the same, whatever else has to be so of tickets
  unless : (Calls : Type 0) (held : Option Device) → WasIn held
      → PastIn Earlier reports settled asked contended (Calls × Below) held
  unless Calls held past session is =
      let was = past session is in
      record {
        chapter = was.chapter;
        came = was.came;
        stands = was.stands;
        told = was.told;
        contends = was.contends;
        calls = was.calls;
        lists = λ on below. was.lists on below.1;
      }

  stepped : (moment : ℕ) (what : Happening) (old now : Device) → Was old → Stepped moment what old now
      → IsOne (Steps moment what (pos zero)) (Some old) (Some now) now
  stepped moment what old now was does =
      let took = does.took in
      let parts : List Part = record { given = does.given; said = took.said } ∷ took.own in
      let led = step_goes moment what old now does (IsBelow (Steps moment what (pos zero)) (Some now) × Below) reports was.chapter
      was.stands (was.told took.went_on) (λ below. below.0) (λ below. was.lists took.went_on below.1) in
      let contends : now.is_contending ≡ (is_contend what || contended)
      = does.contends ∙ ap (λ b. is_contend what || b) (was.contends took.went_on) in
      record {
        chapter = led.0;
        came = (
          old,
          now,
          refl,
          refl,
          (
            was.chapter,
            was.came,
            record {
              given = does.given;
              is = does.is;
              own = map (λ part. part.given) took.own;
              takes = led.1;
              are_own = inputs_own took.own took.are_own;
              alone = λ none. ap (map (λ (part : Part). part.given)) (took.alone none).0;
            },
          ),
        );
        stands = led.2;
        told = λ on. reported_but (flat_map (λ part. part.said) parts) now.said.items took.told reports ∙ led.3;
        contends = λ on. contends;
        calls = λ on ticket ours. balances (how_many ticket now.agent.asker.line.entries.items) _ _ _ _ _
            (calls_told moment ticket does.given old now took (programs ticket contends ours))
            (was.calls took.went_on ticket (earlier_too (is_contend what) contended ours))
            ∙ sym (asked_so ticket moment does.given (asked ticket))
            ∙ ap (λ w. asked_by ticket (Steps moment w (pos zero)) (asked ticket)) does.is ∙ asked_as ticket moment (asked ticket) what;
        lists = λ on. led.4;
      }
    where
      programs : (ticket : ℕ) → now.is_contending ≡ (is_contend what || contended)
          → (ticket < first_own) ⊎ ((is_contend what || contended) ≡ false) → IsPrograms ticket does.took
      programs ticket contends (inl below) = inl below
      programs ticket contends (inr none) = inr (does.took.alone (contends ∙ none))

  halted : (moment : ℕ) (what : Happening) (old now : Device) → Was old → Stopped old now
      → IsOne (Steps moment what (negsuc zero)) (Some old) (Some now) now
  halted moment what old now was does =
      let off = broken_off old now does.broke was.chapter was.stands in
      record {
        chapter = off.0;
        came = (old, now, refl, refl, (was.chapter, was.came, off.1));
        stands = off.2;
        told = λ on. absurd (let e : true ≡ false = sym does.over ∙ on in cc);
        contends = λ on. absurd (let e : true ≡ false = sym does.over ∙ on in cc);
        calls = λ on ticket ours. absurd (let e : true ≡ false = sym does.over ∙ on in cc);
        lists = λ on. absurd (let e : true ≡ false = sym does.over ∙ on in cc);
      }

  done : (moment : ℕ) (what : Happening) (old : Device) (after : Option Device) → Was old
      → Holds after (Stepped moment what old) → IsThen (Steps moment what (pos zero)) (Some old) after
  done moment what old after was does session is =
      subst (λ h. IsOne (Steps moment what (pos zero)) (Some old) h session) (sym is)
      (stepped moment what old session was (in_held (Stepped moment what old) session after does is))

  broke : (moment : ℕ) (what : Happening) (old : Device) (after : Option Device) → Was old
      → Holds after (Stopped old) → IsThen (Steps moment what (negsuc zero)) (Some old) after
  broke moment what old after was does session is =
      subst (λ h. IsOne (Steps moment what (negsuc zero)) (Some old) h session) (sym is)
      (halted moment what old session was (in_held (Stopped old) session after does is))

  refused : (Refuses : Type 0) (old : Device) (after : Option Device) → Was old
      → Holds after (λ session. Refuses × (session ≡ old)) → WasIn after
  refused Refuses old after was does session is =
      subst Was (sym (in_held (λ session. Refuses × (session ≡ old)) session after does is).1) was

  steps : (moment : ℕ) (what : Happening) (code : ℤ) (before after : Option Device)
      → WasIn before → Uses_so before (Steps moment what code) after → IsThen (Steps moment what code) before after
  steps moment what code None after past does = λ session is. empty_holds_none session after does.empty is
  steps moment what (pos zero) (Some old) after past does = done moment what old after (past old refl) does
  steps moment what (negsuc zero) (Some old) after past does = broke moment what old after (past old refl) does
  steps moment what (pos (suc n)) (Some old) after past does =
      unless (IsBelow (Steps moment what (pos (suc n))) after) after
      (refused (RefusesHappening what (pos (suc n))) old after (past old refl) does)
  steps moment what (negsuc (suc n)) (Some old) after past does =
      unless (IsBelow (Steps moment what (negsuc (suc n))) after) after
      (refused (RefusesHappening what (negsuc (suc n))) old after (past old refl) does)

  -- nothing else became of a session than what was read of it
  kept : (old session : Device) → session.agent ≡ old.agent → session.is_over ≡ old.is_over → session.contenders ≡ old.contenders
      → session.is_contending ≡ old.is_contending → Was old → Was session
  kept old session same over contenders contends was = record {
    chapter = was.chapter;
    came = was.came;
    stands = subst (λ (a : Agent _). Stands was.chapter.start was.chapter.items (view_of a.asker.follower.client)) (sym same) was.stands;
    told = λ on. was.told (sym over ∙ on);
    contends = λ on. contends ∙ was.contends (sym over ∙ on);
    calls = λ on ticket ours. subst
        (λ (a : Agent _). how_many ticket a.asker.line.entries.items + settled ticket ≡ asked ticket)
        (sym same) (was.calls (sym over ∙ on) ticket ours);
    lists = λ on below. session_stays was.chapter old session (ap (λ (a : Agent _). a.asker.line.entries.items) same)
        (ap (λ (a : Agent _). a.asker.follower.subjects.items) same) contenders contends
        (was.lists (sym over ∙ on) below);
  }

  reads : (room told : Flat) (code : ℤ) (before after : Option Device)
      → WasIn before → Uses_so before (Reads room told code) after → WasIn after
  reads room told code None after past does session is = empty_holds_none session after does.empty is
  reads room told code (Some old) after past does session is =
      let tells = in_held (λ s. Tells old room code told s) session after does is in
      kept old session tells.agent tells.over tells.contenders tells.contends (past old refl)

  reads_all : (room written : List ℕ) (count : ℕ) (code : ℤ) (before after : Option Device)
      → WasIn before → Uses_so before (ReadsAll room written count code) after → WasIn after
  reads_all room written count code None after past does session is = empty_holds_none session after does.empty is
  reads_all room written count (pos zero) (Some old) after past does session is =
      let tells = in_held (TellsAll old room written count (pos zero)) session after does is in
      kept old session tells.agent tells.over tells.contenders tells.contends (past old refl)
  reads_all room written count (pos (suc n)) (Some old) after past does session is =
      past session (ap Some (sym (in_held (TellsAll old room written count (pos (suc n))) session after does is).3))
  reads_all room written count (negsuc n) (Some old) after past does session is =
      past session (ap Some (sym (in_held (TellsAll old room written count (negsuc n)) session after does is).3))

  forgets : (code : ℤ) (before after : Option Device)
      → WasIn before → Uses_so before (Forgets code) after → IsThen (Forgets code) before after
  forgets code None after past does session is = empty_holds_none session after does.empty is
  forgets code (Some old) after past does session is =
      let gone = (in_held (ForgetsStale old code) session after does is).forgot in
      let was : Was old = past old refl in
      let items : List Item = turns.Forgets ∷ was.chapter.items in
      record {
        chapter = record was.chapter { items = items };
        came = (old, session, refl, is, (was.chapter, was.came, refl));
        stands = subst (Stands was.chapter.start items) (sym gone.view)
            (forget_stands was.chapter.start was.chapter.items (view_of old.agent.asker.follower.client) was.stands);
        told = λ on. was.told (sym gone.over ∙ on);
        contends = λ on. gone.contends ∙ was.contends (sym gone.over ∙ on);
        calls = λ on ticket ours. ap (λ (line : Line _). how_many ticket line.entries.items + settled ticket) gone.calls
            ∙ was.calls (sym gone.over ∙ on) ticket ours;
        lists = λ on below. session_stays (record was.chapter { items = items }) old session
            (ap (λ (line : Line _). line.entries.items) gone.calls) (ap (λ s. s.items) gone.subjects) gone.contenders gone.contends
            (session_forgets was.chapter old (was.lists (sym gone.over ∙ on) below.1));
      }

  one : (used : Use) (before after : Option Device) → WasIn before → Uses_so before used after → IsThen used before after
  one (Opens limits timeout code) before after past does =
      made (RefusesTimeout timeout) (within limits (new_start (unsigned_abs timeout)))
      (CameBy (Opens limits timeout code) before after Earlier) (IsBelow (Opens limits timeout code) after × Below) refl code after
      does
  one (Resumes limits timeout saved code) before after past does =
      resumed limits timeout saved code before after Earlier (IsBelow (Resumes limits timeout saved code) after × Below)
      (bytes_read saved) refl does
  one (Steps moment what code) before after past does = steps moment what code before after past does
  one (Reads room told code) before after past does =
      unless (IsBelow (Reads room told code) after) after (reads room told code before after past does)
  one (ReadsAll room written count code) before after past does =
      unless (IsBelow (ReadsAll room written count code) after) after (reads_all room written count code before after past does)
  one (Forgets code) before after past does = forgets code before after past does
  one Looks before after past does = unless (IsBelow Looks after) after (λ session is. past session (sym does ∙ is))
  one Frees before after past does = λ session is. empty_holds_none session after does is

-- ---- all uses

past_of : (uses : List Used) → IsLife uses
    → PastIn (Came uses) (told_reports uses) (λ ticket. how_many_settled ticket uses) (λ ticket. how_many_asked ticket uses)
    (has_contended uses) (AreBelow uses) (held_after uses)
past_of [] lived session is = absurd (let e : None ≡ Some session = is in cc)
past_of (used ∷ earlier) lived session is =
    one (Came earlier) (told_reports earlier) (λ ticket. how_many_settled ticket earlier) (λ ticket. how_many_asked ticket earlier)
    (has_contended earlier) (AreBelow earlier) used.use_of (held_after earlier) used.held (past_of earlier lived.1) lived.0 session is

-- the client of a session stands where turns by the rule have led
pub stands_in : (uses : List Used) (session : Device) → IsLife uses → held_after uses ≡ Some session
    → IsLed (view_of session.agent.asker.follower.client)
stands_in uses session lived is =
    let past = past_of uses lived session is in
    (past.chapter.start, past.chapter.items, past.stands)

pub coherent_for_life : CoherentForLife
coherent_for_life uses session lived is =
    let past = past_of uses lived session is in
    record {
      chapter = past.chapter;
      came = past.came;
      holds = holds_here past.chapter.start past.chapter.items (view_of session.agent.asker.follower.client) past.stands;
      reports = past.told;
      contends = past.contends;
      calls = past.calls;
      listings = λ on below. its_listing past.chapter session (past.lists on below);
    }
