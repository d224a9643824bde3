-- What a payload brings, and what it finds: case by case of what arrived, which is the first message while Connecting, and a later one
-- while Connected.
use Rattle.std.proofs.Common.{◌≡◌, ℕ, ◌+◌, ◌≤◌, Bool, List, ◌∷◌, ◌++◌, length, drop, Result, Ok, Err, refl, ap, sym, subst, ◌∙◌, arith}
use Rattle.std.proofs.Common.{length-append}
use Rattle.zk_jute.specs.declared.fault.TakeError.{TakeError}
use Rattle.zk_jute.specs.Spelling.{IsBytes, spelling}
use Rattle.zk_records.specs.Layouts.{connect_response_front}
use Rattle.zk_records.specs.Response.{Response, IsPayload, response_at, flag_spelling}
use Rattle.zk_session.specs.declared.states.State.{State}
use Rattle.zk_session.specs.declared.states.State.TheVariants.{Idle, Connecting, Connected as Is_connected, Expired, Closed as Is_closed}
use Rattle.zk_session.specs.SessionView.{SessionView}
use Rattle.zk_conversation.specs.declared.phase.Phase.{Phase}
use Rattle.zk_conversation.specs.declared.phase.Phase.TheVariants.{Opening, Talking}
use Rattle.zk_conversation.specs.declared.fault.TalkFault.{TalkFault}
use Rattle.zk_conversation.specs.Pending.{Talk, Pending}
use Rattle.zk_conversation.specs.Results.{response_password}
use Rattle.zk_conversation.specs.Arriving.{Arrived, Connected, Replied, Watches_set, Notice, Pong, Skipped, arriving, first_arriving}
use Rattle.zk_conversation.specs.Arriving.{pending_after, talk_after}
use Rattle.zk_watches.specs.Lists.{Lists}
use Rattle.zk_cache.specs.Cache.{Answers}
use Rattle.zk_turns.specs.Taken.{phase_of, longest}
use Rattle.zk_turns.specs.Rule.{IsOpen}
use Rattle.zk_turns.proofs.Fed.{arrival}
use Rattle.zk_conversation.proofs.Lengths.{length-int, length-long, length-counted}
use Rattle.zk_turns.proofs.Arriving.{IsOf, AreOf, of_arriving}
use Rattle.zk_turns.proofs.Spelt.{first_spelt}
use Rattle.zk_frames.specs.declared.limits.FrameLimits.{FrameLimits}
use Rattle.zk_client.specs.inner.Seen.{shown, while_pending}
use Rattle.zk_client.specs.Sound.{IsSound}
use Rattle.zk_client.specs.inner.Sound.{IsLeft, HasArrived}
use Rattle.zk_turns.proofs.Words.{happening_of}
use Rattle.zk_limits.specs.declared.limits.TheConstants.{LONGEST_INCOMING, LONGEST_PASSWORD}

-- ---- how long a password is

length-front : (response : Response) → length (spelling connect_response_front response.front) ≡ 20 + length (response_password response)
length-front response = simp (length-append, length-int, length-long, length-counted) (omega arith)

password-short : (payload : List ℕ) (response : Response) (ignored : List ℕ)
    → IsPayload payload response ignored → length payload ≤ LONGEST_INCOMING → length (response_password response) ≤ LONGEST_PASSWORD
password-short payload response ignored is le =
    let front = length-front response in
    let a = ap length is.whole in
    let b = length-append (spelling connect_response_front response.front ++ flag_spelling response.read_only) ignored in
    let c = length-append (spelling connect_response_front response.front) (flag_spelling response.read_only) in
    omega arith

-- ---- what arrives while Connecting

by-first : (read : Result (Response × List ℕ) TakeError) (arrived : Arrived)
    → first_arriving read ≡ Ok arrived → (response : Response) × (arrived ≡ Connected response)
by-first (Ok found) arrived e = (found.0, let same : arrived ≡ Connected found.0 = cc in same)
by-first (Err fault) arrived e = absurd cc

first-comes : (pending : List Pending) (payload : List ℕ) (arrived : Arrived)
    → arriving Opening pending payload ≡ Ok arrived → (response : Response) × (arrived ≡ Connected response)
unfolding arriving
first-comes pending payload arrived e = by-first (response_at (length payload) payload) arrived e

-- ---- what is left

left-of : {oldest : Pending} (pending more : List Pending) → pending ≡ oldest ∷ more → pending ≡ oldest ∷ drop 1 pending
left-of {oldest} pending more e = e ∙ ap (λ (m : List Pending). oldest ∷ m) (sym (ap (λ (p : List Pending). drop 1 p) e))

leaves : (arrived : Arrived) (pending : List Pending)
    → IsOf Talking pending arrived → IsLeft arrived pending (pending_after arrived pending)
leaves (Connected response) pending is = absurd is
leaves (Replied ticket question zxid result) pending is = (is.0, left-of pending is.1 is.2)
leaves (Watches_set last zxid err) pending is = (is.0, left-of pending is.1 is.2)
leaves (Notice event path) pending is = refl
leaves Pong pending is = refl
leaves Skipped pending is = refl

of-later : (pending : List Pending) (payload : List ℕ) (arrived : Arrived)
    → arriving Talking pending payload ≡ Ok arrived → IsOf Talking pending arrived
of-later pending payload arrived e = let P : Result Arrived TalkFault → Type 0 = λ r. AreOf Talking pending r in
    subst P e (of_arriving Talking pending payload)

-- a payload was read
pub record Comes (arrived : Arrived) (kept : SessionView) (talk : Talk) (lists : Lists) : Type 0 where
  pub left : IsLeft arrived talk.pending (pending_after arrived talk.pending)
  pub has : HasArrived arrived kept (talk_after arrived talk) lists

later-has : (arrived : Arrived) (kept : SessionView) (talk : Talk) (lists : Lists)
    → IsSound kept talk lists → kept.state ≡ Is_connected → IsOf Talking talk.pending arrived
    → IsLeft arrived talk.pending (pending_after arrived talk.pending) → HasArrived arrived kept (talk_after arrived talk) lists
later-has (Connected response) kept talk lists sound at is left = absurd is
later-has (Replied ticket question zxid result) kept talk lists sound at is left =
    record { before = talk.pending; left = left; room = sound.room; phase = refl; comes = at; short = sound.short }
later-has (Watches_set last zxid err) kept talk lists sound at is left =
    record { before = talk.pending; left = left; room = sound.room; phase = refl; comes = at; short = sound.short }
later-has (Notice event path) kept talk lists sound at is left =
    record { before = talk.pending; left = left; room = sound.room; phase = refl; comes = at; short = sound.short }
later-has Pong kept talk lists sound at is left =
    record { before = talk.pending; left = left; room = sound.room; phase = refl; comes = at; short = sound.short }
later-has Skipped kept talk lists sound at is left =
    record { before = talk.pending; left = left; room = sound.room; phase = refl; comes = at; short = sound.short }

while-connected : (arrived : Arrived) (kept : SessionView) (talk : Talk) (lists : Lists) (payload : List ℕ) → IsSound kept talk lists
    → kept.state ≡ Is_connected → arriving talk.phase talk.pending payload ≡ Ok arrived → Comes arrived kept talk lists
while-connected arrived kept talk lists payload sound at e =
    let phase : talk.phase ≡ Talking = sound.phase ∙ ap phase_of at in
    let is = of-later talk.pending payload arrived (ap (λ (p : Phase). arriving p talk.pending payload) (sym phase) ∙ e) in
    let left = leaves arrived talk.pending is in
    record { left = left; has = later-has arrived kept talk lists sound at is left }

first-has : (response : Response) (kept : SessionView) (talk : Talk) (lists : Lists) → IsSound kept talk lists → kept.state ≡ Connecting
    → talk.phase ≡ Opening → length (response_password response) ≤ LONGEST_PASSWORD → Comes (Connected response) kept talk lists
first-has response kept talk lists sound at phase short =
    let quiet : length talk.pending ≡ 0 = sound.quiet (λ e. let clash : Opening ≡ Talking = sym phase ∙ e in absurd cc) in
    record {
      left = refl;
      has = record {
        before = talk.pending;
        left = refl;
        room = sound.room;
        phase = refl;
        comes = (at, quiet, short);
        short = sound.short;
      };
    }

while-connecting : (arrived : Arrived) (kept : SessionView) (talk : Talk) (lists : Lists) (payload : List ℕ)
    → IsSound kept talk lists → kept.state ≡ Connecting → IsBytes payload → length payload ≤ LONGEST_INCOMING
    → arriving talk.phase talk.pending payload ≡ Ok arrived → Comes arrived kept talk lists
while-connecting arrived kept talk lists payload sound at are le e =
    let phase : talk.phase ≡ Opening = sound.phase ∙ ap phase_of at in
    let read : arriving Opening talk.pending payload ≡ Ok arrived = ap (λ (p : Phase). arriving p talk.pending payload) (sym phase) ∙ e in
    let first = first-comes talk.pending payload arrived read in
    let spelt =
    first_spelt talk.pending payload first.0 are (read ∙ ap (λ (a : Arrived). let r : Result Arrived TalkFault = Ok a in r) first.1) in
    let P : Arrived → Type 0 = λ a. Comes a kept talk lists in
    subst P (sym first.1) (first-has first.0 kept talk lists sound at phase (password-short payload first.0 spelt.0 spelt.1 le))

open-state : (state : State) → IsOpen state → (P : Type 0) → (state ≡ Connecting → P) → (state ≡ Is_connected → P) → P
open-state Connecting up P a b = a refl
open-state Is_connected up P a b = b refl
open-state Idle up P a b = absurd cc
open-state Expired up P a b = absurd cc
open-state Is_closed up P a b = absurd cc

pub comes : (limits : FrameLimits) (arrived : Arrived) (kept : SessionView) (talk : Talk) (lists : Lists) (payload : List ℕ)
    → IsSound kept talk lists → IsOpen kept.state → IsBytes payload → length payload ≤ longest limits kept.state
    → arriving talk.phase talk.pending payload ≡ Ok arrived → Comes arrived kept talk lists
comes limits arrived kept talk lists payload sound up are le e =
    open-state kept.state up (Comes arrived kept talk lists) (λ at. while-connecting arrived kept talk lists payload sound at are
    (subst (λ (s : State). length payload ≤ longest limits s) at le) e)
    (λ at. while-connected arrived kept talk lists payload sound at e)

-- ---- what happens by it

pub arrives : (limits : FrameLimits) (held : List ℕ) (halted : Bool) (kept : SessionView) (talk : Talk) (lists : Lists) (answers : Answers)
    (payload : List ℕ)
    (read : Result Arrived TalkFault) → IsSound kept talk lists
    → arriving talk.phase talk.pending payload ≡ read
    → arrival (shown limits held halted kept talk lists answers) payload ≡ happening_of kept.saved.last read
arrives limits held halted kept talk lists answers payload read sound e =
    ap (λ (p : Phase). happening_of kept.saved.last (arriving p talk.pending payload)) (sym sound.phase)
    ∙ ap (happening_of kept.saved.last) e

-- the view before, by what is left
pub before-it : {limits : FrameLimits} (held : List ℕ) (halted : Bool) (kept : SessionView) (talk mid : Talk) (lists : Lists)
    (answers : Answers)
    (arrived : Arrived) → mid ≡ talk_after arrived talk
    → while_pending talk.pending (shown limits held halted kept mid lists answers) ≡ shown limits held halted kept talk lists answers
before-it {limits} held halted kept talk mid lists answers arrived e =
    ap (λ (t : Talk). while_pending talk.pending (shown limits held halted kept t lists answers)) e
