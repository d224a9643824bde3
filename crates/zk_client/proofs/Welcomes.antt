-- What an accepted response leaves: field by field, the session that it names, and the questions of the parts that are sent.
use Rattle.std.proofs.lemmas.Int.{ints}
use Rattle.std.proofs.Common.{◌≡◌, ℕ, zero, suc, ℤ, pos, negsuc, ◌<ℤ◌, ◌≤ℤ◌, ◌≤◌, Bool, true, List, [], ◌∷◌, ◌++◌, map, length, refl, ap}
use Rattle.std.proofs.Common.{◌∙◌, arith}
use Rattle.std.specs.Prelude.{int_lt, unsigned_abs, if◌then◌else◌}
use Rattle.std.proofs.lemmas.Bool.{lt-ltb}
use Rattle.std.proofs.Math.Dec.{eqb-suc-zero}
use Rattle.zk_records.specs.Response.{Response as Whole_response}
use Rattle.zk_session.specs.declared.states.State.{State}
use Rattle.zk_session.specs.declared.states.State.TheVariants.{Idle, Connecting, Connected, Expired, Closed}
use Rattle.zk_session.specs.declared.fields.Response.{Response}
use Rattle.zk_session.specs.Fields.{event_of}
use Rattle.zk_session.specs.SessionView.{SessionView, Saved, Moments, Welcome}
use Rattle.zk_session.specs.Table as session
use Rattle.zk_conversation.specs.declared.phase.Phase.TheVariants.{Talking}
use Rattle.zk_conversation.specs.Results.{response_timeout, response_session, response_password}
use Rattle.zk_conversation.specs.Pending.{Talk, Pending, watches_pending}
use Rattle.zk_nodes.specs.declared.side.Side.TheVariants.{Data, Child}
use Rattle.zk_watches.specs.Lists.{Lists}
use Rattle.zk_watches.specs.Parts.{parts}
use Rattle.zk_cache.specs.Cache.{Answers}
use Rattle.zk_turns.specs.Past.{Took, Accepted, Expiry, pending_for, parts_asked}
use Rattle.zk_turns.specs.Taken.{welcome_by, accepted_or_expired}
use Rattle.zk_turns.specs.Rule.{if_any, next}
use Rattle.zk_turns.proofs.Happened.{view_ext}
use Rattle.zk_frames.specs.declared.limits.FrameLimits.{FrameLimits}
use Rattle.zk_client.specs.inner.Seen.{shown, while_pending}
use Rattle.zk_client.specs.Sound.{HasRoom, IsSound}
use Rattle.zk_client.specs.inner.Steps.{welcome_of, has_any}
use Rattle.zk_client.proofs.Ends.{none-there}
use Rattle.zk_client.proofs.Rooms.{tied-talking, sound-with}
use Rattle.zk_limits.specs.declared.limits.TheConstants.{LONGEST_PASSWORD}

above : (timeout : ℤ) → pos 0 <ℤ timeout → int_lt (pos 0) timeout ≡ true
above (pos zero) lt = absurd (omega (arith, ints))
above (pos (suc n)) lt = lt-ltb 0 (suc n) (omega arith)
above (negsuc n) lt = absurd (omega (arith, ints))

welcomed-state : (state : State) (saved : Saved) (moments : Moments) (welcome : Welcome) → state ≡ Connecting
    → session.next (session.Welcomes welcome) (record { state = state; saved = saved; moments = moments })
    ≡ record { state = Connected; saved = record { asked = saved.asked; session = welcome; last = saved.last }; moments = moments }
welcomed-state Connecting saved moments welcome e = refl
welcomed-state Idle saved moments welcome e = absurd cc
welcomed-state Connected saved moments welcome e = absurd cc
welcomed-state Expired saved moments welcome e = absurd cc
welcomed-state Closed saved moments welcome e = absurd cc

-- the session once it is accepted
abbrev pub welcomed : SessionView → Welcome → SessionView
welcomed kept welcome = record {
  state = Connected;
  saved = record { asked = kept.saved.asked; session = welcome; last = kept.saved.last };
  moments = kept.moments;
}

pub welcomed-session : (kept new : SessionView) (response : Response) → kept.state ≡ Connecting → pos 0 <ℤ response.time_out
    → new ≡ session.next (event_of response) kept → new ≡ welcomed kept (welcome_of response)
welcomed-session kept new response at lt e =
    e ∙ ap (λ b. session.next (if b then session.Welcomes (welcome_of response) else session.Expires) kept) (above response.time_out lt)
    ∙ welcomed-state kept.state kept.saved kept.moments (welcome_of response) at

-- and once the parts are sent
sent-moments : (ps : List Lists) (kept : SessionView) (welcome : Welcome)
    → (if has_any ps then session.next session.Sends (welcomed kept welcome) else welcomed kept welcome)
    ≡ record {
      state = Connected;
      saved = record { asked = kept.saved.asked; session = welcome; last = kept.saved.last };
      moments = if_any ps kept.moments (record { now = kept.moments.now; heard = kept.moments.heard; sent = kept.moments.now });
    }
sent-moments [] kept welcome = refl
sent-moments (p ∷ ps) kept welcome = refl

pub record Welcomed (limits : FrameLimits) (held : List ℕ) (halted : Bool) (kept : SessionView) (talk : Talk) (lists : Lists)
    (answers : Answers)
    (pending : List Pending) (welcome : Welcome) (new : SessionView) (set : Talk) : Type 0 where
  pub sound : IsSound new set lists
  pub next : shown limits [] halted new set lists answers ≡ next (while_pending pending (shown limits held halted kept talk lists answers))
      (Took (Accepted welcome))

unwatched-data : (ps : List Lists) → watches_pending Data (map pending_for (parts_asked ps)) ≡ 0
unwatched-data [] = refl
unwatched-data (p ∷ []) = refl
unwatched-data (p ∷ q ∷ more) = unwatched-data (q ∷ more)

unwatched-child : (ps : List Lists) → watches_pending Child (map pending_for (parts_asked ps)) ≡ 0
unwatched-child [] = refl
unwatched-child (p ∷ []) = refl
unwatched-child (p ∷ q ∷ more) = unwatched-child (q ∷ more)

pub welcomes : {limits : FrameLimits} (held : List ℕ) (halted : Bool) (kept : SessionView) (talk : Talk) (lists : Lists) (answers : Answers)
    (pending : List Pending) (response : Response) (mid new : SessionView) (set : Talk) (any : Bool)
    → kept.state ≡ Connecting → pos 0 <ℤ response.time_out → length talk.pending ≡ 0 → HasRoom lists []
    → length response.password.now ≤ LONGEST_PASSWORD
    → mid ≡ session.next (event_of response) kept → new ≡ (if any then session.next session.Sends mid else mid)
    → any ≡ has_any (parts lists)
    → set.phase ≡ Talking → set.pending ≡ talk.pending ++ map pending_for (parts_asked (parts lists)) → set.xid ≡ talk.xid
    → Welcomed limits held halted kept talk lists answers pending (welcome_of response) new set
welcomes held halted kept talk lists answers pending response mid new set any at lt quiet room short e f g phase asked xid =
    let welcome = welcome_of response in
    let first : mid ≡ welcomed kept welcome = welcomed-session kept mid response at lt e in
    let is = f ∙ ap (λ (b : Bool). if b then session.next session.Sends mid else mid) g
    ∙ ap (λ (k : SessionView). if has_any (parts lists) then session.next session.Sends k else k) first
    ∙ sent-moments (parts lists) kept welcome in
    let waits : set.pending ≡ map pending_for (parts_asked (parts lists)) =
    asked ∙ ap (λ (l : List Pending). l ++ map pending_for (parts_asked (parts lists))) (none-there talk.pending quiet) in
    record {
      sound = sound-with (tied-talking new set phase (ap (λ (k : SessionView). k.state) is)
          (rw (ap (λ (k : SessionView). k.saved.session.password) is) short)) (record {
            on_data = rw (waits, unwatched-data (parts lists)) room.on_data;
            on_child = rw (waits, unwatched-child (parts lists)) room.on_child;
          });
      next = view_ext _ _ (ap (λ (k : SessionView). record { halted = halted; state = k.state }) is) (ap (λ (k : SessionView). k.saved) is)
          (ap (λ (k : SessionView). k.moments) is) waits refl xid refl refl refl;
    }

-- ---- by the response

pub takes-expiry : (response : Whole_response) → response_timeout response ≤ℤ pos 0 → accepted_or_expired response ≡ Expiry
takes-expiry response le = by (response_timeout response) le
  where
    by : (timeout : ℤ) → timeout ≤ℤ pos 0 → welcome_by timeout (response_session response) (response_password response) ≡ Expiry
    by (pos zero) le = refl
    by (pos (suc n)) le = absurd (omega (arith, ints))
    by (negsuc n) le = refl

pub takes-welcome : (response : Whole_response) → pos 0 <ℤ response_timeout response
    → accepted_or_expired response ≡ Accepted (record {
      timeout = unsigned_abs (response_timeout response);
      session = response_session response;
      password = response_password response;
    })
takes-welcome response lt = by (response_timeout response) lt
  where
    by : (timeout : ℤ) → pos 0 <ℤ timeout → welcome_by timeout (response_session response) (response_password response)
        ≡ Accepted (record { timeout = unsigned_abs timeout; session = response_session response; password = response_password response })
    by (pos zero) lt = absurd (omega (arith, ints))
    by (pos (suc n)) lt = ap (λ (b : Bool). if b then Expiry else Accepted
        (record { timeout = suc n; session = response_session response; password = response_password response })) (eqb-suc-zero n)
    by (negsuc n) lt = absurd (omega (arith, ints))
