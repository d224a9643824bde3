-- Bytes that are held, a frame at a time: the client takes whole frames from what it holds, and the definitions take byte by byte, which
-- comes to the same as soon as a frame is whole.
use Rattle.std.proofs.Common.{◌≡◌, ℕ, ◌≤◌, ◌<◌, Bool, true, false, List, [], ◌∷◌, ◌++◌, map, length, refl, ap, sym, subst, ◌∙◌, arith}
use Rattle.std.specs.Prelude.{Option, None, Err, MatchOption}
use Rattle.zk_frames.specs.Frame.{frame, IsUnfinished, IsNegative, IsTooLong}
use Rattle.zk_frames.specs.Held.{Held, failed}
use Rattle.zk_frames.specs.Next.{AnswersNext}
use Rattle.zk_frames.specs.declared.fault.FrameFault.TheVariants.{Negative, TooLong, Memory}
use Rattle.zk_frames.specs.Stream.{StandsNext}
use Rattle.zk_frames.specs.declared.fault.FrameFault.{FrameFault}
use Rattle.zk_session.specs.declared.states.State.{State}
use Rattle.zk_session.specs.declared.states.State.TheVariants.{Idle, Connecting, Connected, Expired, Closed}
use Rattle.zk_session.specs.SessionView.{SessionView, Saved, Moments}
use Rattle.zk_session.specs.Table as session
use Rattle.zk_conversation.specs.Questions.{Question, Exists, GetData, GetChildren, SetData, Create, Delete, Close, Raw}
use Rattle.zk_conversation.specs.Results.{Result}
use Rattle.zk_conversation.specs.Pending.{Talk}
use Rattle.zk_cache.specs.Cache.{Answers}
use Rattle.zk_frames.specs.declared.limits.FrameLimits.{FrameLimits}
use Rattle.zk_client.specs.inner.Seen.{shown}
use Rattle.zk_watches.specs.Lists.{Lists}
use Rattle.zk_watches.specs.Parts.{parts}
use Rattle.zk_turns.specs.Turns.{Comes, Output, Framed}
use Rattle.zk_turns.specs.Past.{Happening, Dropped, Came, Message, Accepted, Expiry, Replies, Watches_set, Notifies, Pong, Skipped}
use Rattle.zk_turns.specs.Taken.{Cutting, Unfinished, Bad, Payload, cut, longest, longest_of, of_cutting, happenings}
use Rattle.zk_turns.specs.View.{View}
use Rattle.zk_turns.specs.Rule.{if_any, IsOpen, next, says, after_all, says_all, after_signals, says_signals}
use Rattle.zk_turns.proofs.Fed.{Hears, heard, fed, arrival}
use Rattle.zk_turns.specs.Rule.{next_message, next_reply}
use Rattle.zk_turns.proofs.Stream.{of_reading}
use Rattle.zk_turns.proofs.Pieces.{unfinished_view, unfinished_says, frame_view, frame_says, bad_first_view, bad_first_says, parted_view}
use Rattle.zk_turns.proofs.Pieces.{parted_says, byte_happens}

-- something was heard at this moment
abbrev pub IsHeard : View → Type 0
IsHeard view = view.moments.heard ≡ view.moments.now

pub heard-is : (view : View) → IsHeard view → heard view ≡ view
heard-is view e = ap (λ (n : ℕ). let v : View =
    record view { moments = record { now = view.moments.now; heard = n; sent = view.moments.sent } } in v) (sym e)

pub nothing-held : (most : ℕ) → IsUnfinished most []
nothing-held most = record { admitted = λ h. absurd (omega arith); short = λ h. absurd (omega arith) }

-- ---- what a payload leaves as it was

pub record Stays (view after : View) : Type 0 where
  pub heard : after.moments.heard ≡ view.moments.heard
  pub now : after.moments.now ≡ view.moments.now
  pub halted : after.standing.halted ≡ view.standing.halted

heard-stays : (ps : List Lists) (moments : Moments)
    → (if_any ps moments (record { now = moments.now; heard = moments.heard; sent = moments.now })).heard ≡ moments.heard
heard-stays [] moments = refl
heard-stays (p ∷ ps) moments = refl

now-stays : (ps : List Lists) (moments : Moments)
    → (if_any ps moments (record { now = moments.now; heard = moments.heard; sent = moments.now })).now ≡ moments.now
now-stays [] moments = refl
now-stays (p ∷ ps) moments = refl

stays-reply : (view : View) (question : Question) (zxid : _) (result : Result) → Stays view (next_reply view question zxid result)
stays-reply view Close zxid result = record { heard = refl; now = refl; halted = refl }
stays-reply view (Exists path watch) zxid result = record { heard = refl; now = refl; halted = refl }
stays-reply view (GetData path watch) zxid result = record { heard = refl; now = refl; halted = refl }
stays-reply view (GetChildren path watch) zxid result = record { heard = refl; now = refl; halted = refl }
stays-reply view (SetData path) zxid result = record { heard = refl; now = refl; halted = refl }
stays-reply view (Create path) zxid result = record { heard = refl; now = refl; halted = refl }
stays-reply view (Delete path) zxid result = record { heard = refl; now = refl; halted = refl }
stays-reply view Raw zxid result = record { heard = refl; now = refl; halted = refl }

stays-message : (view : View) (message : Message) → Stays view (next_message view message)
stays-message view (Accepted welcome) =
    record { heard = heard-stays (parts view.lists) view.moments; now = now-stays (parts view.lists) view.moments; halted = refl }
stays-message view Expiry = record { heard = refl; now = refl; halted = refl }
stays-message view (Replies ticket question zxid result) = stays-reply view question zxid result
stays-message view (Watches_set true zxid) = record { heard = refl; now = refl; halted = refl }
stays-message view (Watches_set false zxid) = record { heard = refl; now = refl; halted = refl }
stays-message view (Notifies event path) = record { heard = refl; now = refl; halted = refl }
stays-message view Pong = record { heard = refl; now = refl; halted = refl }
stays-message view Skipped = record { heard = refl; now = refl; halted = refl }

pub stays : (view : View) (payload : List ℕ) → Stays view (next view (arrival view payload))
stays view payload = of_reading (λ h. Stays view (next view h)) (stays-message view)
    (λ fault. record { heard = refl; now = refl; halted = refl }) view.standing.state view.pending view.saved.last payload

-- ---- steps, where nothing else is held

module _ (view : View) (up : IsOpen view.standing.state) (goes_on : view.standing.halted ≡ false) (fresh : IsHeard view)
    (empty : view.held ≡ []) where
  here : Hears view
  here = record { up = up; goes_on = goes_on }

  unfinished : IsUnfinished (longest_of view) view.held
  unfinished = subst (IsUnfinished (longest_of view)) (sym empty) (nothing-held (longest_of view))

  joined : (bytes : List ℕ) → view.held ++ bytes ≡ bytes
  joined bytes = ap (λ (l : List ℕ). l ++ bytes) empty

  pub frame-view : (bytes payload rest : List ℕ) → length payload ≤ longest_of view → bytes ≡ frame payload ++ rest
      → after_signals view (map Comes bytes) ≡ after_signals (next view (arrival view payload)) (map Comes rest)
  frame-view bytes payload rest le e =
      frame_view view bytes payload rest here unfinished le (joined bytes ∙ e)
      ∙ ap (λ (v : View). after_signals (next v (arrival view payload)) (map Comes rest)) (heard-is view fresh)

  pub frame-says : (bytes payload rest : List ℕ) → length payload ≤ longest_of view → bytes ≡ frame payload ++ rest
      → says_signals view (map Comes bytes)
      ≡ says view (arrival view payload) ++ says_signals (next view (arrival view payload)) (map Comes rest)
  frame-says bytes payload rest le e =
      frame_says view bytes payload rest here unfinished le (joined bytes ∙ e)
      ∙ ap (λ (v : View). says v (arrival view payload) ++ says_signals (next v (arrival view payload)) (map Comes rest))
      (heard-is view fresh)

  pub bad-view : (bytes : List ℕ) (fault : FrameFault)
      → StandsNext (longest_of view) fault bytes → after_signals view (map Comes bytes) ≡ next view (Dropped (Framed fault))
  bad-view bytes fault bad =
      bad_first_view view bytes fault here unfinished (subst (StandsNext (longest_of view) fault) (sym (joined bytes)) bad)
      ∙ ap (λ (v : View). next v (Dropped (Framed fault))) (heard-is view fresh)

  pub bad-says : (bytes : List ℕ) (fault : FrameFault)
      → StandsNext (longest_of view) fault bytes → says_signals view (map Comes bytes) ≡ says view (Dropped (Framed fault))
  bad-says bytes fault bad =
      bad_first_says view bytes fault here unfinished (subst (StandsNext (longest_of view) fault) (sym (joined bytes)) bad)
      ∙ ap (λ (v : View). says v (Dropped (Framed fault))) (heard-is view fresh)

  fed-is : (bytes : List ℕ) → fed view bytes ≡ record view { held = bytes }
  fed-is [] = ap (λ (l : List ℕ). let v : View = record view { held = l } in v) empty
  fed-is (b ∷ bytes) = ap (λ (v : View). let w : View = record v { held = view.held ++ b ∷ bytes } in w) (heard-is view fresh)
      ∙ ap (λ (l : List ℕ). let v : View = record view { held = l } in v) (joined (b ∷ bytes))

  pub rest-view : (bytes : List ℕ) → IsUnfinished (longest_of view) bytes
      → after_signals view (map Comes bytes) ≡ record view { held = bytes }
  rest-view bytes less = unfinished_view bytes view here (subst (IsUnfinished (longest_of view)) (sym (joined bytes)) less) ∙ fed-is bytes

  pub rest-says : (bytes : List ℕ) → IsUnfinished (longest_of view) bytes → says_signals view (map Comes bytes) ≡ []
  rest-says bytes less = unfinished_says bytes view here (subst (IsUnfinished (longest_of view)) (sym (joined bytes)) less)

-- a length that is not admitted stands there, where the reader had not failed
pub stands-there : (most : ℕ) (old : Held) (fault : FrameFault) (new : Held)
    → old.fault ≡ None → AnswersNext most old (Err fault) new → StandsNext most fault old.bytes
stands-there most old Negative new clean fails = let P : Option FrameFault → Type 0 =
    λ o. MatchOption o (IsNegative old.bytes) (λ g. old ≡ failed Negative) in subst P clean fails.why
stands-there most old TooLong new clean fails = let P : Option FrameFault → Type 0 =
    λ o. MatchOption o (IsTooLong most old.bytes) (λ g. old ≡ failed TooLong) in subst P clean fails.why
stands-there most old Memory new clean fails = absurd fails

-- ---- the first byte

same-cutting : (view : View) (cutting : Cutting) → of_cutting (heard view) cutting ≡ of_cutting view cutting
same-cutting view Unfinished = refl
same-cutting view (Bad fault) = refl
same-cutting view (Payload payload) = refl

first-happens : (view : View) (byte : ℕ)
    → Hears view → happenings view (Comes byte) ≡ Came byte ∷ of_cutting view (cut (longest_of view) (view.held ++ byte ∷ []))
first-happens view byte h = byte_happens view byte (cut (longest_of view) (view.held ++ byte ∷ [])) h refl

first-same : (view : View) (byte : ℕ) → Hears view → happenings view (Comes byte) ≡ happenings (heard view) (Comes byte)
first-same view byte h =
    first-happens view byte h
    ∙ ap (λ (l : List Happening). Came byte ∷ l) (sym (same-cutting view (cut (longest_of view) (view.held ++ byte ∷ []))))
    ∙ sym (first-happens (heard view) byte (record { up = h.up; goes_on = h.goes_on }))

first-view : (view : View) (byte : ℕ)
    → Hears view → after_all view (happenings view (Comes byte)) ≡ after_all (heard view) (happenings (heard view) (Comes byte))
first-view view byte h =
    ap (after_all view) (first-happens view byte h)
    ∙ ap (λ (l : List Happening). after_all (heard view) (Came byte ∷ l))
    (sym (same-cutting view (cut (longest_of view) (view.held ++ byte ∷ []))))
    ∙ ap (after_all (heard view)) (sym (first-happens (heard view) byte (record { up = h.up; goes_on = h.goes_on })))

first-says : (view : View) (byte : ℕ)
    → Hears view → says_all view (happenings view (Comes byte)) ≡ says_all (heard view) (happenings (heard view) (Comes byte))
first-says view byte h =
    ap (says_all view) (first-happens view byte h)
    ∙ ap (λ (l : List Happening). says_all (heard view) (Came byte ∷ l))
    (sym (same-cutting view (cut (longest_of view) (view.held ++ byte ∷ []))))
    ∙ ap (says_all (heard view)) (sym (first-happens (heard view) byte (record { up = h.up; goes_on = h.goes_on })))

-- where a byte comes, it is heard at this moment
pub heard-view : (view : View) (bytes : List ℕ)
    → Hears view → 0 < length bytes → after_signals view (map Comes bytes) ≡ after_signals (heard view) (map Comes bytes)
heard-view view [] h some = absurd (omega arith)
heard-view view (byte ∷ more) h some = ap (λ (v : View). after_signals v (map Comes more)) (first-view view byte h)

pub heard-says : (view : View) (bytes : List ℕ)
    → Hears view → 0 < length bytes → says_signals view (map Comes bytes) ≡ says_signals (heard view) (map Comes bytes)
heard-says view [] h some = absurd (omega arith)
heard-says view (byte ∷ more) h some =
    ap (λ (l : List Output). l ++ says_signals (after_all view (happenings view (Comes byte))) (map Comes more)) (first-says view byte h)
    ∙ ap (λ (v : View). says_all (heard view) (happenings (heard view) (Comes byte)) ++ says_signals v (map Comes more))
    (first-view view byte h)

-- ---- what is held comes again

abbrev emptied : View → View
emptied view = record view { held = [] }

pub again-view : (view : View) (piece : List ℕ) → Hears view → IsHeard view → IsUnfinished (longest_of view) view.held
    → after_signals (emptied view) (map Comes (view.held ++ piece)) ≡ after_signals view (map Comes piece)
again-view view piece h fresh less =
    parted_view (emptied view) (view.held ++ piece) view.held piece refl
    ∙ ap (λ (v : View). after_signals v (map Comes piece)) (rest-view (emptied view) h.up h.goes_on fresh refl view.held less)

pub again-says : (view : View) (piece : List ℕ) → Hears view → IsHeard view → IsUnfinished (longest_of view) view.held
    → says_signals (emptied view) (map Comes (view.held ++ piece)) ≡ says_signals view (map Comes piece)
again-says view piece h fresh less =
    parted_says (emptied view) (view.held ++ piece) view.held piece refl
    ∙ ap (λ (l : List Output). l ++ says_signals (after_signals (emptied view) (map Comes view.held)) (map Comes piece))
    (rest-says (emptied view) h.up h.goes_on fresh refl view.held less)
    ∙ ap (λ (v : View). says_signals v (map Comes piece)) (rest-view (emptied view) h.up h.goes_on fresh refl view.held less)

-- ---- the session

hears-state : (state : State) (saved : Saved) (moments : Moments)
    → IsOpen state → session.next session.Hears (record { state = state; saved = saved; moments = moments })
    ≡ record { state = state; saved = saved; moments = record { now = moments.now; heard = moments.now; sent = moments.sent } }
hears-state Connecting saved moments up = refl
hears-state Connected saved moments up = refl
hears-state Idle saved moments up = absurd cc
hears-state Expired saved moments up = absurd cc
hears-state Closed saved moments up = absurd cc

pub hears-session : (kept new : SessionView)
    → IsOpen kept.state → new ≡ session.next session.Hears kept → new ≡ record {
      state = kept.state;
      saved = kept.saved;
      moments = record { now = kept.moments.now; heard = kept.moments.now; sent = kept.moments.sent };
    }
hears-session kept new up e = e ∙ hears-state kept.state kept.saved kept.moments up

module _ (limits : FrameLimits) (bytes piece : List ℕ) (halted : Bool) (kept new : SessionView) (talk : Talk) (lists : Lists)
    (answers : Answers)
    (up : IsOpen kept.state) (goes_on : halted ≡ false) (less : IsUnfinished (longest limits kept.state) bytes) (some : 0 < length piece)
    (e : new ≡ session.next session.Hears kept) where
  after_it : SessionView
  after_it = record {
    state = kept.state;
    saved = kept.saved;
    moments = record { now = kept.moments.now; heard = kept.moments.now; sent = kept.moments.sent };
  }

  is-after : new ≡ after_it
  unfolding after_it
  is-after = hears-session kept new up e

  -- what is told of a view and of the bytes that come to it, where the bytes that are held may come again and where the first is heard now
  whole : {B : Type 0} (F : View → List ℕ → B)
      → F (shown limits [] halted after_it talk lists answers) (bytes ++ piece) ≡ F (shown limits bytes halted after_it talk lists answers)
      piece
      → F (shown limits bytes halted kept talk lists answers) piece ≡ F (shown limits bytes halted after_it talk lists answers) piece
      → F (shown limits [] halted new talk lists answers) (bytes ++ piece) ≡ F (shown limits bytes halted kept talk lists answers) piece
  whole F again first = ap (λ (k : SessionView). F (shown limits [] halted k talk lists answers) (bytes ++ piece)) is-after ∙ again
      ∙ sym first

  pub whole-view : after_signals (shown limits [] halted new talk lists answers)
      (map Comes (bytes ++ piece)) ≡ after_signals (shown limits bytes halted kept talk lists answers) (map Comes piece)
  unfolding after_it
  whole-view =
      whole (λ view coming. after_signals view (map Comes coming))
      (again-view (heard (shown limits bytes halted kept talk lists answers)) piece (record { up = up; goes_on = goes_on }) refl less)
      (heard-view (shown limits bytes halted kept talk lists answers) piece (record { up = up; goes_on = goes_on }) some)

  pub whole-says : says_signals (shown limits [] halted new talk lists answers)
      (map Comes (bytes ++ piece)) ≡ says_signals (shown limits bytes halted kept talk lists answers) (map Comes piece)
  unfolding after_it
  whole-says =
      whole (λ view coming. says_signals view (map Comes coming))
      (again-says (heard (shown limits bytes halted kept talk lists answers)) piece (record { up = up; goes_on = goes_on }) refl less)
      (heard-says (shown limits bytes halted kept talk lists answers) piece (record { up = up; goes_on = goes_on }) some)
