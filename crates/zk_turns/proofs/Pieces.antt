-- What the bytes of a piece do, frame by frame. Each byte makes what is held one longer, until it ends a frame or a length that is not
-- admitted: so a piece is parted there.
use Rattle.zk_turns.specs.Turns.{Framed}
use Rattle.zk_frames.specs.Stream.{StandsNext}
use Rattle.zk_frames.specs.declared.fault.FrameFault.TheVariants.{Memory}
use Rattle.zk_frames.specs.declared.fault.FrameFault.{FrameFault}
use Rattle.zk_frames.specs.declared.limits.FrameLimits.{FrameLimits}
use Rattle.std.proofs.Common.{◌≡◌, ℕ, ◌+◌, ◌^◌, ◌≤◌, ◌<◌, ◌≢◌, Bool, true, false, cond, eqb, leb, ltb, List, [], ◌∷◌, ◌++◌, map, take, drop}
use Rattle.std.proofs.Common.{length, refl, sym, ap, subst, ◌∙◌, append_assoc, arith, inl, inr}
use Rattle.std.specs.Int.{w32, from_be_bytes}
use Rattle.std.proofs.lemmas.List.{length-append, length-take-le, take-append-drop, map-append, take-append-le, append-nil}
use Rattle.std.proofs.lemmas.Nat.{from_be_bytes-to_be_bytes_4}
use Rattle.std.proofs.lemmas.Bool.Decides.{Decides-eqb, leb_tells, eqb_tells}
use Rattle.std.proofs.lemmas.Bool.{le-ltb, lt-ltb, le-leb, cases_lt}
use Rattle.zk_session.specs.declared.states.State.{State}
use Rattle.zk_session.specs.declared.states.State.TheVariants.{Idle, Connecting, Connected, Expired, Closed}
use Rattle.zk_turns.specs.Turns.{Comes}
use Rattle.zk_conversation.specs.Questions.{Close}
use Rattle.zk_frames.specs.declared.fault.FrameFault.TheVariants.{Negative, TooLong}
use Rattle.zk_frames.specs.Frame.{frame, length_field, IsUnfinished}
use Rattle.zk_turns.specs.Past.{Happening, Came, Dropped, Took, Message, Accepted, Expiry, Replies, Watches_set, Notifies, Pong, Skipped}
use Rattle.zk_turns.specs.View.{View}
use Rattle.zk_turns.specs.Taken.{cut, cut_at, longest, longest_of, Cutting, Unfinished, Bad, Payload, of_cutting, happenings, caused}
use Rattle.zk_turns.specs.Taken.{if_open}
use Rattle.zk_turns.specs.Rule.{IsOpen, next, says, after_all, says_all, after_signals, says_signals, heard_now}
use Rattle.zk_turns.proofs.Fed.{Hears, heard, arrival, fed}
use Rattle.zk_turns.proofs.Stepped.{after_append, says_append}
use Rattle.zk_turns.proofs.Stream.{of_reading}

-- a length that is not admitted, as soon as it is there
abbrev IsBadLength : (most : ℕ) → List ℕ → FrameFault → Type 0
IsBadLength most bytes Negative = (length bytes ≡ 4) × (2 ^ 31 ≤ length_field bytes)
IsBadLength most bytes TooLong = (length bytes ≡ 4) × (length_field bytes < 2 ^ 31) × (most < length_field bytes)
IsBadLength most bytes _ = ⊥

-- such a length stands first
abbrev StandsBad : (most : ℕ) → List ℕ → FrameFault → Type 0
StandsBad most bytes Negative = (4 ≤ length bytes) × (2 ^ 31 ≤ length_field bytes)
StandsBad most bytes TooLong = (4 ≤ length bytes) × (length_field bytes < 2 ^ 31) × (most < length_field bytes)
StandsBad most bytes _ = ⊥

stands_bad : (most : ℕ) (bytes : List ℕ) (fault : FrameFault) → StandsNext most fault bytes → StandsBad most bytes fault
stands_bad most bytes Negative s = (s.there, s.below)
stands_bad most bytes TooLong s = (s.there, s.positive, s.above)
stands_bad most bytes Memory s = absurd s

-- ---- cutting

-- a frame can say any length that is admitted
longest_is_low : (limits : FrameLimits) (state : State) → longest limits state < 2 ^ 31
longest_is_low limits Connected = omega (arith, limits.most_incoming)
longest_is_low limits _ = omega arith

pub longest_low : (view : View) → longest_of view < 2 ^ 31
longest_low view = longest_is_low view.limits view.standing.state

leb_false : (a b : ℕ) → b < a → leb a b ≡ false
leb_false a b h = elim (leb_tells a b) [ inl t ↦ absurd (let le = t.1 in omega arith) | inr t ↦ t.0 ]

eqb_false : (a b : ℕ) → a ≢ b → eqb a b ≡ false
eqb_false a b h = elim (eqb_tells a b) [ inl t ↦ absurd (h t.1) | inr t ↦ t.0 ]

cut_admitted : (most : ℕ) → most < 2 ^ 31 → (n : ℕ) (bytes : List ℕ)
    → n ≤ most → cut_at most n bytes ≡ cond (eqb (length bytes) (4 + n)) (Payload (drop 4 bytes)) Unfinished
cut_admitted most low n bytes le =
    ap (λ b. cond b (Bad Negative)
    (cond (ltb most n) (Bad TooLong) (cond (eqb (length bytes) (4 + n)) (Payload (drop 4 bytes)) Unfinished)))
    (leb_false (2 ^ 31) n (omega arith))
    ∙ ap (λ b. cond b (Bad TooLong) (cond (eqb (length bytes) (4 + n)) (Payload (drop 4 bytes)) Unfinished)) (le-ltb most n le)

-- the length is there
pub cut_there : (most : ℕ) (bytes : List ℕ) → 4 ≤ length bytes → cut most bytes ≡ cut_at most (length_field bytes) bytes
unfolding cut
cut_there most bytes there = ap (λ b. cond b Unfinished (cut_at most (length_field bytes) bytes)) (le-ltb (length bytes) 4 there)

pub cut_short : (most : ℕ) (bytes : List ℕ) → length bytes < 4 → cut most bytes ≡ Unfinished
unfolding cut
cut_short most bytes short = ap (λ b. cond b Unfinished (cut_at most (length_field bytes) bytes)) (lt-ltb (length bytes) 4 short)

pub cut_unfinished : (most : ℕ) → most < 2 ^ 31 → (bytes : List ℕ) → IsUnfinished most bytes → cut most bytes ≡ Unfinished
cut_unfinished most low bytes u = elim (cases_lt (length bytes) 4) [
  | inl short ↦ cut_short most bytes short
  | inr there ↦
      cut_there most bytes there ∙ cut_admitted most low (length_field bytes) bytes (u.admitted there)
      ∙ ap (λ b. cond b (Payload (drop 4 bytes)) Unfinished)
      (eqb_false (length bytes) (4 + length_field bytes) (λ e. let s = u.short there in omega arith))
]

field_of_frame : (payload : List ℕ) → length payload < 2 ^ 31 → length_field (frame payload) ≡ length payload
field_of_frame payload le = from_be_bytes-to_be_bytes_4 (length payload) (omega arith)

pub length-frame : (payload : List ℕ) → length (frame payload) ≡ 4 + length payload
length-frame payload = omega arith

pub drop-frame : (payload : List ℕ) → drop 4 (frame payload) ≡ payload
drop-frame payload = refl

pub cut_frame : (most : ℕ) → most < 2 ^ 31 → (payload : List ℕ) → length payload ≤ most → cut most (frame payload) ≡ Payload payload
cut_frame most low payload le =
    let f = field_of_frame payload (omega arith) in
    let n = length-frame payload in
    cut_there most (frame payload) (omega arith) ∙ cut_admitted most low (length_field (frame payload)) (frame payload) (omega arith)
    ∙ ap (λ b. cond b (Payload (drop 4 (frame payload))) Unfinished)
    ((Decides-eqb (length (frame payload)) (4 + length_field (frame payload))).1 (omega arith))
    ∙ ap Payload (drop-frame payload)

pub cut_negative : (most : ℕ) (bytes : List ℕ) → 4 ≤ length bytes → 2 ^ 31 ≤ length_field bytes → cut most bytes ≡ Bad Negative
cut_negative most bytes there low =
    cut_there most bytes there
    ∙ ap (λ b. cond b (Bad Negative) (cond (ltb most (length_field bytes)) (Bad TooLong)
    (cond (eqb (length bytes) (4 + length_field bytes)) (Payload (drop 4 bytes)) Unfinished)))
    (le-leb (2 ^ 31) (length_field bytes) low)

pub cut_too_long : (most : ℕ) (bytes : List ℕ)
    → 4 ≤ length bytes → length_field bytes < 2 ^ 31 → most < length_field bytes → cut most bytes ≡ Bad TooLong
cut_too_long most bytes there low high =
    cut_there most bytes there
    ∙ ap (λ b. cond b (Bad Negative) (cond (ltb most (length_field bytes)) (Bad TooLong)
    (cond (eqb (length bytes) (4 + length_field bytes)) (Payload (drop 4 bytes)) Unfinished)))
    (leb_false (2 ^ 31) (length_field bytes) low)
    ∙ ap (λ b. cond b (Bad TooLong) (cond (eqb (length bytes) (4 + length_field bytes)) (Payload (drop 4 bytes)) Unfinished))
    (lt-ltb most (length_field bytes) high)

-- ---- beginnings

pub same_field : (a b : List ℕ) → 4 ≤ length a → length_field (a ++ b) ≡ length_field a
same_field a b there = ap (from_be_bytes w32) (take-append-le 4 a b there)

-- what begins something unfinished is unfinished
beginning_unfinished : (most : ℕ) (a b : List ℕ) → IsUnfinished most (a ++ b) → IsUnfinished most a
beginning_unfinished most a b u = record {
  admitted = λ there. let l = length-append a b in let f = same_field a b there in let h = u.admitted (omega arith) in omega arith;
  short = λ there. let l = length-append a b in let f = same_field a b there in let h = u.short (omega arith) in omega arith;
}

-- and so is what begins a frame, without its last byte
begins_frame : (most : ℕ) → most < 2 ^ 31 → (a b payload : List ℕ)
    → length payload ≤ most → 0 < length b → a ++ b ≡ frame payload → IsUnfinished most a
begins_frame most low a b payload le more e =
    let l = length-append a b in
    let n = length-frame payload in
    let f = field_of_frame payload (omega arith) in
    let whole : length (a ++ b) ≡ length (frame payload) = ap length e in
    let field : length_field (a ++ b) ≡ length_field (frame payload) = ap length_field e in
    record {
      admitted = λ there. let g = same_field a b there in omega arith;
      short = λ there. let g = same_field a b there in omega arith;
    }

-- ---- one byte

if_open_is : (state : State) (more : List Happening) → IsOpen state → if_open state more ≡ more
if_open_is Connecting more o = refl
if_open_is Connected more o = refl
if_open_is Idle more o = absurd cc
if_open_is Expired more o = absurd cc
if_open_is Closed more o = absurd cc

pub byte_happens : (view : View) (byte : ℕ) (cutting : Cutting)
    → Hears view → cut (longest_of view) (view.held ++ byte ∷ []) ≡ cutting
    → happenings view (Comes byte) ≡ Came byte ∷ of_cutting view cutting
byte_happens view byte cutting h e =
    ap (λ b. cond b [] (caused view (Comes byte))) h.goes_on
    ∙ if_open_is view.standing.state (Came byte ∷ of_cutting view (cut (longest_of view) (view.held ++ byte ∷ []))) h.up
    ∙ ap (λ c. Came byte ∷ of_cutting view c) e

hears_next : (view : View) (byte : ℕ) → Hears view → Hears (next view (Came byte))
hears_next view byte h = record { up = h.up; goes_on = h.goes_on }

one_more : (held : List ℕ) (byte : ℕ) (piece : List ℕ) → (held ++ byte ∷ []) ++ piece ≡ held ++ byte ∷ piece
one_more held byte piece = append_assoc held (byte ∷ []) piece

fed_next : (view : View) (byte : ℕ) (piece : List ℕ) → fed (next view (Came byte)) piece ≡ fed view (byte ∷ piece)
fed_next view byte [] = refl
fed_next view byte (b ∷ piece) = ap (λ t. record view { moments = heard_now view; held = t }) (one_more view.held byte (b ∷ piece))

-- ---- bytes that make nothing whole

pub unfinished_view : (piece : List ℕ) (view : View) → Hears view → IsUnfinished (longest_of view) (view.held ++ piece)
    → after_signals view (map Comes piece) ≡ fed view piece
unfinished_view [] view h u = refl
unfinished_view (byte ∷ piece) view h u =
    let one : IsUnfinished (longest_of view) ((view.held ++ byte ∷ []) ++ piece) =
    subst (IsUnfinished (longest_of view)) (sym (one_more view.held byte piece)) u in
    let c = cut_unfinished (longest_of view) (longest_low view) (view.held ++ byte ∷ [])
    (beginning_unfinished (longest_of view) (view.held ++ byte ∷ []) piece one) in
    ap (λ t. after_signals (after_all view t) (map Comes piece)) (byte_happens view byte Unfinished h c)
    ∙ unfinished_view piece (next view (Came byte)) (hears_next view byte h) one
    ∙ fed_next view byte piece

pub unfinished_says : (piece : List ℕ) (view : View) → Hears view → IsUnfinished (longest_of view) (view.held ++ piece)
    → says_signals view (map Comes piece) ≡ []
unfinished_says [] view h u = refl
unfinished_says (byte ∷ piece) view h u =
    let one : IsUnfinished (longest_of view) ((view.held ++ byte ∷ []) ++ piece) =
    subst (IsUnfinished (longest_of view)) (sym (one_more view.held byte piece)) u in
    let c = cut_unfinished (longest_of view) (longest_low view) (view.held ++ byte ∷ [])
    (beginning_unfinished (longest_of view) (view.held ++ byte ∷ []) piece one) in
    ap (λ t. says_all view t ++ says_signals (after_all view t) (map Comes piece)) (byte_happens view byte Unfinished h c)
    ∙ unfinished_says piece (next view (Came byte)) (hears_next view byte h) one

-- ---- bytes whose last one makes something of them

abbrev Begin : (most : ℕ) → List ℕ → Type 0
Begin most whole = (a b : List ℕ) → 0 < length b → a ++ b ≡ whole → cut most a ≡ Unfinished

begin_next : (most : ℕ) (held : List ℕ) (byte : ℕ) (piece : List ℕ)
    → Begin most (held ++ byte ∷ piece) → Begin most ((held ++ byte ∷ []) ++ piece)
begin_next most held byte piece f = subst (Begin most) (sym (one_more held byte piece)) f

whole_view : (piece : List ℕ) (view : View) (cutting : Cutting)
    → Hears view → 0 < length piece → cut (longest_of view) (view.held ++ piece) ≡ cutting → Begin (longest_of view) (view.held ++ piece)
    → after_signals view (map Comes piece) ≡ after_all (fed view piece) (of_cutting view cutting)
whole_view [] view cutting h some e f = absurd (omega arith)
whole_view (byte ∷ []) view cutting h some e f = ap (λ t. after_all view t) (byte_happens view byte cutting h e)
whole_view (byte ∷ b ∷ piece) view cutting h some e f =
    let c = f (view.held ++ byte ∷ []) (b ∷ piece) (omega arith) (one_more view.held byte (b ∷ piece)) in
    ap (λ t. after_signals (after_all view t) (map Comes (b ∷ piece))) (byte_happens view byte Unfinished h c)
    ∙ whole_view (b ∷ piece) (next view (Came byte)) cutting (hears_next view byte h) (omega arith)
    (ap (cut (longest_of view)) (one_more view.held byte (b ∷ piece)) ∙ e) (begin_next (longest_of view) view.held byte (b ∷ piece) f)
    ∙ ap (λ v. after_all v (of_cutting view cutting)) (fed_next view byte (b ∷ piece))

whole_says : (piece : List ℕ) (view : View) (cutting : Cutting)
    → Hears view → 0 < length piece → cut (longest_of view) (view.held ++ piece) ≡ cutting → Begin (longest_of view) (view.held ++ piece)
    → says_signals view (map Comes piece) ≡ says_all (fed view piece) (of_cutting view cutting)
whole_says [] view cutting h some e f = absurd (omega arith)
whole_says (byte ∷ []) view cutting h some e f =
    ap (λ t. says_all view t ++ []) (byte_happens view byte cutting h e)
    ∙ append-nil (says_all (next view (Came byte)) (of_cutting view cutting))
whole_says (byte ∷ b ∷ piece) view cutting h some e f =
    let c = f (view.held ++ byte ∷ []) (b ∷ piece) (omega arith) (one_more view.held byte (b ∷ piece)) in
    ap (λ t. says_all view t ++ says_signals (after_all view t) (map Comes (b ∷ piece))) (byte_happens view byte Unfinished h c)
    ∙ whole_says (b ∷ piece) (next view (Came byte)) cutting (hears_next view byte h) (omega arith)
    (ap (cut (longest_of view)) (one_more view.held byte (b ∷ piece)) ∙ e) (begin_next (longest_of view) view.held byte (b ∷ piece) f)
    ∙ ap (λ v. says_all v (of_cutting view cutting)) (fed_next view byte (b ∷ piece))

frame_begins : (most : ℕ) → most < 2 ^ 31 → (payload whole : List ℕ) → length payload ≤ most → whole ≡ frame payload → Begin most whole
frame_begins most low payload whole le e a b more is =
    cut_unfinished most low a (begins_frame most low a b payload le more (is ∙ e))

length_begins : (most : ℕ) (whole : List ℕ) → length whole ≡ 4 → Begin most whole
length_begins most whole n a b more is =
    let l = length-append a b in
    let m : length (a ++ b) ≡ length whole = ap length is in
    cut_short most a (omega arith)

pub payload_view : (piece : List ℕ) (view : View) (payload : List ℕ)
    → Hears view → 0 < length piece → length payload ≤ longest_of view → view.held ++ piece ≡ frame payload
    → after_signals view (map Comes piece) ≡ next (fed view piece) (arrival view payload)
payload_view piece view payload h some le e =
    whole_view piece view (Payload payload) h some
    (ap (cut (longest_of view)) e ∙ cut_frame (longest_of view) (longest_low view) payload le)
    (frame_begins (longest_of view) (longest_low view) payload (view.held ++ piece) le e)

pub payload_says : (piece : List ℕ) (view : View) (payload : List ℕ)
    → Hears view → 0 < length piece → length payload ≤ longest_of view → view.held ++ piece ≡ frame payload
    → says_signals view (map Comes piece) ≡ says (fed view piece) (arrival view payload)
payload_says piece view payload h some le e =
    whole_says piece view (Payload payload) h some
    (ap (cut (longest_of view)) e ∙ cut_frame (longest_of view) (longest_low view) payload le)
    (frame_begins (longest_of view) (longest_low view) payload (view.held ++ piece) le e)
    ∙ append-nil (says (fed view piece) (arrival view payload))

-- a length that is not admitted
cut_bad : (most : ℕ) (bytes : List ℕ) (fault : FrameFault) → IsBadLength most bytes fault → cut most bytes ≡ Bad fault
cut_bad most bytes Negative bad = cut_negative most bytes (omega arith) bad.1
cut_bad most bytes TooLong bad = cut_too_long most bytes (omega arith) bad.1 bad.2
cut_bad most bytes _ bad = elim bad [ ]

bad_four : (most : ℕ) (bytes : List ℕ) (fault : FrameFault) → IsBadLength most bytes fault → length bytes ≡ 4
bad_four most bytes Negative bad = bad.0
bad_four most bytes TooLong bad = bad.0
bad_four most bytes _ bad = elim bad [ ]

pub bad_view : (piece : List ℕ) (view : View) (fault : FrameFault) → Hears view → 0 < length piece
    → IsBadLength (longest_of view) (view.held ++ piece) fault
    → after_signals view (map Comes piece) ≡ next (fed view piece) (Dropped (Framed fault))
bad_view piece view fault h some bad =
    whole_view piece view (Bad fault) h some (cut_bad (longest_of view) (view.held ++ piece) fault bad)
    (length_begins (longest_of view) (view.held ++ piece) (bad_four (longest_of view) (view.held ++ piece) fault bad))

pub bad_says : (piece : List ℕ) (view : View) (fault : FrameFault) → Hears view → 0 < length piece
    → IsBadLength (longest_of view) (view.held ++ piece) fault
    → says_signals view (map Comes piece) ≡ says (fed view piece) (Dropped (Framed fault))
bad_says piece view fault h some bad =
    whole_says piece view (Bad fault) h some (cut_bad (longest_of view) (view.held ++ piece) fault bad)
    (length_begins (longest_of view) (view.held ++ piece) (bad_four (longest_of view) (view.held ++ piece) fault bad))
    ∙ append-nil (says (fed view piece) (Dropped (Framed fault)))

-- ---- bytes that nobody hears

if_open_not : (state : State) (more : List Happening) → ¬ (IsOpen state) → if_open state more ≡ []
if_open_not Connecting more n = absurd (n refl)
if_open_not Connected more n = absurd (n refl)
if_open_not _ more n = refl

cond_nil : (b : Bool) → cond {A = List Happening} b [] [] ≡ []
cond_nil true = refl
cond_nil false = refl

unheard_byte : (view : View) (byte : ℕ) → ¬ (IsOpen view.standing.state) → happenings view (Comes byte) ≡ []
unheard_byte view byte n = ap (λ t. cond view.standing.halted [] t) (if_open_not view.standing.state _ n) ∙ cond_nil view.standing.halted

pub unheard_view : (piece : List ℕ) (view : View) → ¬ (IsOpen view.standing.state) → after_signals view (map Comes piece) ≡ view
unheard_view [] view n = refl
unheard_view (byte ∷ piece) view n =
    ap (λ t. after_signals (after_all view t) (map Comes piece)) (unheard_byte view byte n) ∙ unheard_view piece view n

pub unheard_says : (piece : List ℕ) (view : View) → ¬ (IsOpen view.standing.state) → says_signals view (map Comes piece) ≡ []
unheard_says [] view n = refl
unheard_says (byte ∷ piece) view n =
    ap (λ t. says_all view t ++ says_signals (after_all view t) (map Comes piece)) (unheard_byte view byte n) ∙ unheard_says piece view n

-- ---- the first frame of what is held and came

-- what begins at least as long begins with the other
append_split : (h left f rest : List ℕ) → h ++ left ≡ f ++ rest → length h ≤ length f → (a : List ℕ) × (f ≡ h ++ a) × (left ≡ a ++ rest)
append_split [] left f rest e le = (f, refl, e)
append_split (x ∷ h) left [] rest e le = absurd (omega arith)
append_split (x ∷ h) left (y ∷ f) rest e le =
    let head : x ≡ y = cc in
    let tail : h ++ left ≡ f ++ rest = cc in
    let s = append_split h left f rest tail (omega arith) in
    (s.0, ap (λ t. t ∷ f) (sym head) ∙ ap (λ t. x ∷ t) s.1, s.2)

-- less than a whole frame is held
shorter_than_frame : (most : ℕ) → most < 2 ^ 31 → (held left payload rest : List ℕ)
    → length payload ≤ most → IsUnfinished most held → held ++ left ≡ frame payload ++ rest → length held < length (frame payload)
shorter_than_frame most low held left payload rest le u e = elim (cases_lt (length held) 4) [
  | inl short ↦ let n = length-frame payload in omega arith
  | inr there ↦
      let n = length-frame payload in
      let same : length_field (held ++ left) ≡ length_field (frame payload ++ rest) = ap length_field e in
      let a = same_field held left there in
      let b = same_field (frame payload) rest (omega arith) in
      let f = field_of_frame payload (omega arith) in
      let s = u.short there in
      omega arith
]

fed_as : (piece : List ℕ) (view : View)
    → 0 < length piece → fed view piece ≡ record view { moments = heard_now view; held = view.held ++ piece }
fed_as [] view some = absurd (omega arith)
fed_as (byte ∷ piece) view some = refl

-- what is taken or dropped does not depend on what was held
same_message : (view : View) (held : List ℕ) (message : Message)
    → next (record view { moments = heard_now view; held = held }) (Took message) ≡ next (heard view) (Took message)
same_message view held (Accepted welcome) = refl
same_message view held Expiry = refl
same_message view held (Replies ticket Close zxid result) = refl
same_message view held (Replies ticket question zxid result) = refl
same_message view held (Watches_set true zxid) = refl
same_message view held (Watches_set false zxid) = refl
same_message view held (Notifies event path) = refl
same_message view held Pong = refl
same_message view held Skipped = refl

same_words : (view : View) (held : List ℕ) (message : Message)
    → says (record view { moments = heard_now view; held = held }) (Took message) ≡ says (heard view) (Took message)
same_words view held (Accepted welcome) = refl
same_words view held Expiry = refl
same_words view held (Replies ticket question zxid result) = refl
same_words view held (Watches_set last zxid) = refl
same_words view held (Notifies event path) = refl
same_words view held Pong = refl
same_words view held Skipped = refl

same_next : (view : View) (held payload : List ℕ)
    → next (record view { moments = heard_now view; held = held }) (arrival view payload) ≡ next (heard view) (arrival view payload)
same_next view held payload =
    of_reading (λ h. next (record view { moments = heard_now view; held = held }) h ≡ next (heard view) h) (same_message view held)
    (λ fault. refl) view.standing.state view.pending view.saved.last payload

same_says : (view : View) (held payload : List ℕ)
    → says (record view { moments = heard_now view; held = held }) (arrival view payload) ≡ says (heard view) (arrival view payload)
same_says view held payload =
    of_reading (λ h. says (record view { moments = heard_now view; held = held }) h ≡ says (heard view) h) (same_words view held)
    (λ fault. refl) view.standing.state view.pending view.saved.last payload

-- a whole frame stands first: the rest of it, and what it makes of the view
frame_rest : (view : View) (left payload rest : List ℕ)
    → Hears view → IsUnfinished (longest_of view) view.held → length payload ≤ longest_of view → view.held ++ left ≡ frame payload ++ rest
    → (piece : List ℕ) × (left ≡ piece ++ rest) × (0 < length piece) × (view.held ++ piece ≡ frame payload)
    × (after_signals view (map Comes piece) ≡ next (heard view) (arrival view payload))
frame_rest view left payload rest h u le e =
    let short = shorter_than_frame (longest_of view) (longest_low view) view.held left payload rest le u e in
    let s = append_split view.held left (frame payload) rest e (omega arith) in
    let n : length (frame payload) ≡ length (view.held ++ s.0) = ap length s.1 in
    let l = length-append view.held s.0 in
    let some : 0 < length s.0 = omega arith in (
      s.0,
      s.2,
      some,
      sym s.1,
      payload_view s.0 view payload h some le (sym s.1)
          ∙ ap (λ v. next v (arrival view payload)) (fed_as s.0 view some) ∙ same_next view (view.held ++ s.0) payload,
    )

-- bytes that come in two parts
pub parted_view : (view : View) (left first rest : List ℕ)
    → left ≡ first ++ rest → after_signals view (map Comes left) ≡ after_signals (after_signals view (map Comes first)) (map Comes rest)
parted_view view left first rest e =
    ap (λ t. after_signals view (map Comes t)) e ∙ ap (after_signals view) (map-append Comes first rest)
    ∙ after_append (map Comes first) (map Comes rest) view

pub parted_says : (view : View) (left first rest : List ℕ) → left ≡ first ++ rest
    → says_signals view (map Comes left)
    ≡ says_signals view (map Comes first) ++ says_signals (after_signals view (map Comes first)) (map Comes rest)
parted_says view left first rest e =
    ap (λ t. says_signals view (map Comes t)) e ∙ ap (says_signals view) (map-append Comes first rest)
    ∙ says_append (map Comes first) (map Comes rest) view

pub frame_view : (view : View) (left payload rest : List ℕ)
    → Hears view → IsUnfinished (longest_of view) view.held → length payload ≤ longest_of view → view.held ++ left ≡ frame payload ++ rest
    → after_signals view (map Comes left) ≡ after_signals (next (heard view) (arrival view payload)) (map Comes rest)
frame_view view left payload rest h u le e =
    let s = frame_rest view left payload rest h u le e in
    parted_view view left s.0 rest s.1 ∙ ap (λ v. after_signals v (map Comes rest)) s.4

pub frame_says : (view : View) (left payload rest : List ℕ)
    → Hears view → IsUnfinished (longest_of view) view.held → length payload ≤ longest_of view → view.held ++ left ≡ frame payload ++ rest
    → says_signals view (map Comes left)
    ≡ says (heard view) (arrival view payload) ++ says_signals (next (heard view) (arrival view payload)) (map Comes rest)
frame_says view left payload rest h u le e =
    let s = frame_rest view left payload rest h u le e in
    parted_says view left s.0 rest s.1
    ∙ ap (λ t. t ++ says_signals (after_signals view (map Comes s.0)) (map Comes rest)) (
    payload_says s.0 view payload h s.2 le s.3
    ∙ ap (λ v. says v (arrival view payload)) (fed_as s.0 view s.2)
    ∙ same_says view (view.held ++ s.0) payload
    )
    ∙ ap (λ v. says (heard view) (arrival view payload) ++ says_signals v (map Comes rest)) s.4

-- a length that is not admitted stands first
shorter_than_length : (most : ℕ) → most < 2 ^ 31 → (held left : List ℕ) (fault : FrameFault) → IsUnfinished most held
    → StandsBad most (held ++ left) fault → length held < 4
shorter_than_length most low held left fault u bad = elim (cases_lt (length held) 4) [
  | inl short ↦ short
  | inr there ↦ absurd (no fault bad there)
]
  where
    no : (fault : FrameFault) → StandsBad most (held ++ left) fault → 4 ≤ length held → ⊥
    no Negative bad there = let f = same_field held left there in let a = u.admitted there in omega arith
    no TooLong bad there = let f = same_field held left there in let a = u.admitted there in omega arith
    no _ bad there = elim bad [ ]

bad_there : (most : ℕ) (bytes : List ℕ) (fault : FrameFault) → StandsBad most bytes fault → 4 ≤ length bytes
bad_there most bytes Negative bad = bad.0
bad_there most bytes TooLong bad = bad.0
bad_there most bytes _ bad = elim bad [ ]

bad_of : (most : ℕ) (bytes four rest : List ℕ) (fault : FrameFault)
    → length four ≡ 4 → bytes ≡ four ++ rest → StandsBad most bytes fault → IsBadLength most four fault
bad_of most bytes four rest Negative n e bad =
    let f : length_field bytes ≡ length_field (four ++ rest) = ap length_field e in
    let g = same_field four rest (omega arith) in (n, omega arith)
bad_of most bytes four rest TooLong n e bad =
    let f : length_field bytes ≡ length_field (four ++ rest) = ap length_field e in
    let g = same_field four rest (omega arith) in (n, omega arith, omega arith)
bad_of most bytes four rest _ n e bad = elim bad [ ]

not_idle : ¬ (IsOpen Idle)
not_idle o = cc

record Split (view : View) (left : List ℕ) (fault : FrameFault) : Type 0 where
  first : List ℕ
  rest : List ℕ
  whole : left ≡ first ++ rest
  some : 0 < length first
  bad : IsBadLength (longest_of view) (view.held ++ first) fault

split_bad : (view : View) (left : List ℕ) (fault : FrameFault)
    → IsUnfinished (longest_of view) view.held → StandsBad (longest_of view) (view.held ++ left) fault → Split view left fault
split_bad view left fault u bad =
    let short = shorter_than_length (longest_of view) (longest_low view) view.held left fault u bad in
    let there = bad_there (longest_of view) (view.held ++ left) fault bad in
    let four : length (take 4 (view.held ++ left)) ≡ 4 = length-take-le 4 (view.held ++ left) there in
    let e : view.held ++ left ≡ take 4 (view.held ++ left) ++ drop 4 (view.held ++ left) = sym (take-append-drop 4 (view.held ++ left)) in
    let s = append_split view.held left (take 4 (view.held ++ left)) (drop 4 (view.held ++ left)) e (omega arith) in
    let n : length (take 4 (view.held ++ left)) ≡ length (view.held ++ s.0) = ap length s.1 in
    let l = length-append view.held s.0 in
    record {
      first = s.0;
      rest = drop 4 (view.held ++ left);
      whole = s.2;
      some = omega arith;
      bad = subst (λ t. IsBadLength (longest_of view) t fault) s.1
          (bad_of (longest_of view) (view.held ++ left) (take 4 (view.held ++ left)) (drop 4 (view.held ++ left)) fault four e bad);
    }

pub bad_first_view : (view : View) (left : List ℕ) (fault : FrameFault)
    → Hears view → IsUnfinished (longest_of view) view.held → StandsNext (longest_of view) fault (view.held ++ left)
    → after_signals view (map Comes left) ≡ next (heard view) (Dropped (Framed fault))
bad_first_view view left fault h u bad =
    let s = split_bad view left fault u (stands_bad (longest_of view) (view.held ++ left) fault bad) in
    parted_view view left s.first s.rest s.whole
    ∙ ap (λ v. after_signals v (map Comes s.rest))
    (bad_view s.first view fault h s.some s.bad ∙ ap (λ v. next v (Dropped (Framed fault))) (fed_as s.first view s.some))
    ∙ unheard_view s.rest (next (heard view) (Dropped (Framed fault))) not_idle

pub bad_first_says : (view : View) (left : List ℕ) (fault : FrameFault)
    → Hears view → IsUnfinished (longest_of view) view.held → StandsNext (longest_of view) fault (view.held ++ left)
    → says_signals view (map Comes left) ≡ says (heard view) (Dropped (Framed fault))
bad_first_says view left fault h u bad =
    let s = split_bad view left fault u (stands_bad (longest_of view) (view.held ++ left) fault bad) in
    parted_says view left s.first s.rest s.whole
    ∙ ap (λ v. says_signals view (map Comes s.first) ++ says_signals v (map Comes s.rest))
    (bad_view s.first view fault h s.some s.bad ∙ ap (λ v. next v (Dropped (Framed fault))) (fed_as s.first view s.some))
    ∙ ap (λ t. says_signals view (map Comes s.first) ++ t) (unheard_says s.rest (next (heard view) (Dropped (Framed fault))) not_idle)
    ∙ append-nil (says_signals view (map Comes s.first))
    ∙ bad_says s.first view fault h s.some s.bad
    ∙ ap (λ v. says v (Dropped (Framed fault))) (fed_as s.first view s.some)
