-- A session expires, in what a client shows: the saved session and the moments stay; the lists, the answers and what is pending are empty
-- then, and no bytes are held.
use Rattle.std.proofs.lemmas.Int.{ints}
use Rattle.std.proofs.Common.{◌≡◌, ℕ, zero, suc, ℤ, pos, negsuc, ◌≤ℤ◌, Bool, false, List, [], ◌∷◌, length, refl, ap, ◌∙◌, arith}
use Rattle.std.specs.Prelude.{int_lt, unsigned_abs, if◌then◌else◌}
use Rattle.zk_session.specs.declared.states.State.{State}
use Rattle.zk_session.specs.declared.states.State.TheVariants.{Idle, Connecting, Connected, Expired, Closed}
use Rattle.zk_session.specs.declared.fields.Response.{Response}
use Rattle.zk_session.specs.Fields.{event_of}
use Rattle.zk_session.specs.SessionView.{SessionView, Saved, Moments}
use Rattle.zk_session.specs.Table as session
use Rattle.zk_conversation.specs.Pending.{Talk, Pending, cut_off}
use Rattle.zk_watches.specs.Lists.{Lists, no_lists}
use Rattle.zk_cache.specs.Cache.{Answers, no_answers}
use Rattle.zk_turns.specs.Past.{Took, Expiry}
use Rattle.zk_turns.specs.Rule.{next}
use Rattle.zk_turns.proofs.Happened.{view_ext}
use Rattle.zk_frames.specs.declared.limits.FrameLimits.{FrameLimits}
use Rattle.zk_client.specs.inner.Seen.{shown, while_pending}
use Rattle.zk_client.proofs.CacheLemmas.{nothing-kept}

pub none-there : {A : Type 0} → (xs : List A) → length xs ≡ 0 → xs ≡ []
none-there [] e = refl
none-there (x ∷ xs) e = absurd (omega arith)

expired-state : (state : State) (saved : Saved) (moments : Moments) → state ≡ Connecting
    → session.next session.Expires (record { state = state; saved = saved; moments = moments })
    ≡ record { state = Expired; saved = saved; moments = moments }
expired-state Connecting saved moments e = refl
expired-state Idle saved moments e = absurd cc
expired-state Connected saved moments e = absurd cc
expired-state Expired saved moments e = refl
expired-state Closed saved moments e = absurd cc

pub not-above : (timeout : ℤ) → timeout ≤ℤ pos 0 → int_lt (pos 0) timeout ≡ false
not-above (pos zero) le = refl
not-above (pos (suc n)) le = absurd (omega (arith, ints))
not-above (negsuc n) le = refl

pub expired-session : (kept new : SessionView) (response : Response)
    → kept.state ≡ Connecting → response.time_out ≤ℤ pos 0 → new ≡ session.next (event_of response) kept
    → new ≡ record { state = Expired; saved = kept.saved; moments = kept.moments }
expired-session kept new response at over e =
    e ∙ ap (λ b. session.next (if b then session.Welcomes (record {
      timeout = unsigned_abs response.time_out;
      session = response.session_id;
      password = response.password.now;
    }) else session.Expires) kept) (not-above response.time_out over)
    ∙ expired-state kept.state kept.saved kept.moments at

pub expired-view : {limits : FrameLimits} (held : List ℕ) (halted : Bool) (kept : SessionView) (talk : Talk) (lists : Lists)
    (answers : Answers)
    (pending : List Pending) (response : Response) (new : SessionView) (cut : Talk) (gone : Lists) (nothing : Answers)
    → kept.state ≡ Connecting → response.time_out ≤ℤ pos 0 → new ≡ session.next (event_of response) kept → cut ≡ cut_off talk
    → length talk.pending ≡ 0 → gone ≡ no_lists → nothing ≡ no_answers
    → shown limits [] halted new cut gone nothing ≡ next (while_pending pending (shown limits held halted kept talk lists answers))
    (Took Expiry)
expired-view held halted kept talk lists answers pending response new cut gone nothing at over e f quiet g h =
    let is = expired-session kept new response at over e in
    view_ext _ _ (ap (λ (k : SessionView). record { halted = halted; state = k.state }) is) (ap (λ (k : SessionView). k.saved) is)
    (ap (λ (k : SessionView). k.moments) is)
    (ap (λ (t : Talk). t.pending) f ∙ none-there talk.pending quiet) refl (ap (λ (t : Talk). t.xid) f) g (nothing-kept nothing h) refl
