-- One signal, by its happenings: after each of them the client shows what the definitions give, and says what they make it say.
use Rattle.std.proofs.Common.{◌≡◌, ℕ, ◌*◌, ◌-◌, Bool, true, false, List, [], ◌∷◌, ◌++◌, refl, ap, sym, subst, ◌∙◌, max, append_assoc, inl}
use Rattle.std.proofs.Common.{inr, ◌⊎◌}
use Rattle.std.specs.Prelude.{nat_le, if◌then◌else◌}
use Rattle.std.proofs.lemmas.List.{append-nil}
use Rattle.zk_session.specs.declared.states.State.{State}
use Rattle.zk_session.specs.declared.states.State.TheVariants.{Idle, Connecting, Connected, Expired, Closed}
use Rattle.zk_session.specs.declared.states.Due.{Due}
use Rattle.zk_session.specs.declared.states.Due.TheVariants.{Nothing, Ping, Silent as Is_silent}
use Rattle.zk_session.specs.SessionView.{SessionView, Saved, Moments}
use Rattle.zk_session.specs.Table as session
use Rattle.zk_conversation.specs.Pending.{Talk}
use Rattle.zk_watches.specs.Lists.{Lists}
use Rattle.zk_cache.specs.Cache.{Answers}
use Rattle.zk_frames.specs.declared.limits.FrameLimits.{FrameLimits}
use Rattle.zk_client.specs.inner.Seen.{shown}
use Rattle.zk_turns.specs.Turns.{Output, Silent}
use Rattle.zk_turns.specs.Past.{Happening, Dropped, Pinged, Ticked}
use Rattle.zk_turns.specs.Taken.{if_open, opens, due}
use Rattle.zk_turns.specs.View.{View}
use Rattle.zk_turns.specs.Rule.{IsOpen, next, says, after_all, says_all}

live : (halted : Bool) (causes : List Happening) → halted ≡ false → (if halted then [] else causes) ≡ causes
live true causes e = absurd cc
live false causes e = refl

pub turns-view : (view after : View) (halted : Bool) (causes hs : List Happening)
    → halted ≡ false → causes ≡ hs → after ≡ after_all view hs → after ≡ after_all view (if halted then [] else causes)
turns-view view after halted causes hs goes_on same e = e ∙ ap (after_all view) (sym (live halted causes goes_on ∙ same))

pub turns-says : (view : View) (before after : List Output) (halted : Bool) (causes hs : List Happening) → halted ≡ false → causes ≡ hs
    → after ≡ before ++ says_all view hs → after ≡ before ++ (says_all view (if halted then [] else causes) ++ [])
turns-says view before after halted causes hs goes_on same e =
    e ∙ ap (λ (l : List Happening). before ++ says_all view l) (sym (live halted causes goes_on ∙ same))
    ∙ ap (λ (l : List Output). before ++ l) (sym (append-nil (says_all view (if halted then [] else causes))))

pub one-says : (view : View) (before after : List Output) (h : Happening)
    → after ≡ before ++ says view h → after ≡ before ++ says_all view (h ∷ [])
one-says view before after h e = e ∙ ap (λ (l : List Output). before ++ l) (sym (append-nil (says view h)))

pub two-says : (view : View) (before mid after : List Output) (h k : Happening)
    → mid ≡ before ++ says view h → after ≡ mid ++ says (next view h) k → after ≡ before ++ says_all view (h ∷ k ∷ [])
two-says view before mid after h k e f =
    f ∙ ap (λ (l : List Output). l ++ says (next view h) k) e ∙ append_assoc before (says view h) (says (next view h) k)
    ∙ ap (λ (l : List Output). before ++ (says view h ++ l)) (sym (append-nil (says (next view h) k)))

pub open-causes : (state : State) (hs : List Happening) → IsOpen state → if_open state hs ≡ hs
open-causes Connecting hs up = refl
open-causes Connected hs up = refl
open-causes Idle hs up = absurd cc
open-causes Expired hs up = absurd cc
open-causes Closed hs up = absurd cc

pub open-begins : (state : State) → IsOpen state → opens state ≡ opens Connected
open-begins Connecting up = refl
open-begins Connected up = refl
open-begins Idle up = absurd cc
open-begins Expired up = absurd cc
open-begins Closed up = absurd cc

-- ---- what is due

-- what it makes happen
abbrev pub happens : Due → List Happening
happens Nothing = []
happens Ping = Pinged ∷ []
happens Is_silent = Dropped Silent ∷ []

either : (b : Bool) (x y : Due) → happens (if b then x else y) ≡ (if b then happens x else happens y)
either true x y = refl
either false x y = refl

pub due-in : (limits : FrameLimits) (held : List ℕ) (halted : Bool) (state : State) (saved : Saved) (moments : Moments) (talk : Talk)
    (lists : Lists)
    (answers : Answers) (moment : ℕ)
    → if_open state
    (due (shown limits held halted (record { state = state; saved = saved; moments = moments }) talk lists answers)
    (max moment moments.now))
    ≡ happens (session.due (session.next (session.Ticks moment) (record { state = state; saved = saved; moments = moments })))
due-in limits held halted Connecting saved moments talk lists answers moment =
    sym (either (nat_le (2 * saved.asked) (3 * (max moment moments.now - moments.heard))) Is_silent Nothing)
due-in limits held halted Connected saved moments talk lists answers moment =
    let silent = nat_le (2 * saved.session.timeout) (3 * (max moment moments.now - moments.heard)) in
    let quiet = nat_le saved.session.timeout (3 * (max moment moments.now - moments.sent)) in
    ap (λ (l : List Happening). if silent then Dropped Silent ∷ [] else l) (sym (either quiet Ping Nothing))
    ∙ sym (either silent Is_silent (if quiet then Ping else Nothing))
due-in limits held halted Idle saved moments talk lists answers moment = refl
due-in limits held halted Expired saved moments talk lists answers moment = refl
due-in limits held halted Closed saved moments talk lists answers moment = refl

pub due-is : (limits : FrameLimits) (held : List ℕ) (halted : Bool) (kept new : SessionView) (talk : Talk) (lists : Lists)
    (answers : Answers)
    (moment : ℕ) (result what : Due)
    → new ≡ session.next (session.Ticks moment) kept → result ≡ session.due new → result ≡ what
    → Ticked moment ∷ if_open kept.state (due (shown limits held halted kept talk lists answers) (max moment kept.moments.now))
    ≡ Ticked moment ∷ happens what
due-is limits held halted kept new talk lists answers moment result what e f g =
    ap (λ (l : List Happening). Ticked moment ∷ l)
    (due-in limits held halted kept.state kept.saved kept.moments talk lists answers moment
    ∙ ap happens (ap session.due (sym e) ∙ sym f ∙ g))

pub ticked-view : (limits : FrameLimits) (held : List ℕ) (halted : Bool) (kept new : SessionView) (talk : Talk) (lists : Lists)
    (answers : Answers) (moment : ℕ)
    → new ≡ session.next (session.Ticks moment) kept
    → shown limits held halted new talk lists answers ≡ next (shown limits held halted kept talk lists answers) (Ticked moment)
ticked-view limits held halted kept new talk lists answers moment e =
    ap (λ (k : SessionView). shown limits held halted k talk lists answers) e

-- a moment is told, of which this comes
module _ (limits : FrameLimits) (held : List ℕ) (halted : Bool) (kept ticked : SessionView) (talk : Talk) (lists : Lists)
    (answers : Answers) (moment : ℕ) (result what : Due)
    (goes_on : halted ≡ false) (tells : ticked ≡ session.next (session.Ticks moment) kept) (told : result ≡ session.due ticked)
    (is : result ≡ what) where
  abbrev before : View
  before = shown limits held halted kept talk lists answers

  abbrev causes : List Happening
  causes = Ticked moment ∷ if_open kept.state (due before (max moment kept.moments.now))

  causes-are : causes ≡ Ticked moment ∷ happens what
  causes-are = due-is limits held halted kept ticked talk lists answers moment result what tells told is

  pub tick-view : (after : View) → after ≡ after_all (shown limits held halted ticked talk lists answers) (happens what)
      → after ≡ after_all before (if halted then [] else causes)
  tick-view after e =
      turns-view before after halted causes (Ticked moment ∷ happens what) goes_on causes-are
      (e ∙ ap (λ (v : View). after_all v (happens what)) (ticked-view limits held halted kept ticked talk lists answers moment tells))

  pub tick-says : (outs after : List Output) → after ≡ outs ++ says_all (shown limits held halted ticked talk lists answers) (happens what)
      → after ≡ outs ++ (says_all before (if halted then [] else causes) ++ [])
  tick-says outs after e =
      turns-says before outs after halted causes (Ticked moment ∷ happens what) goes_on causes-are
      (e ∙ ap (λ (v : View). outs ++ says_all v (happens what))
      (ticked-view limits held halted kept ticked talk lists answers moment tells))

-- ---- where a connection is open

pub either-open : (state result : State) → (result ≡ Connecting) ⊎ (result ≡ Connected) → result ≡ state → IsOpen state
either-open state result which e = elim which [ inl h ↦ subst IsOpen (sym h ∙ e) refl | inr h ↦ subst IsOpen (sym h ∙ e) refl ]
