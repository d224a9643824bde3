-- When a connection is given up: a drop is among what happens exactly where one of its causes is there. Both ways go case by case from the
-- signal to the byte, the frame and the payload.
use Rattle.std.proofs.Common.{◌≡◌, ◌≢◌, ◌≤◌, ◌<◌, ◌+◌, ◌^◌, ℕ, ℤ, pos, length, Bool, true, false, cond, eqb, ◌&&◌, List, [], ◌∷◌, ◌++◌}
use Rattle.std.proofs.Common.{drop, Option, Some, None, Ok, Err, refl, sym, ap, subst, ◌∙◌, inl, inr, ◌⊎◌, arith}
use Rattle.std.specs.Prelude.{nat_le, nat_lt, int_lt, max, ◌*◌, ◌-◌, Result as Reading}
use Rattle.std.specs.Ordering.{int_eq}
use Rattle.std.proofs.lemmas.Bool.Decides.{Decides-eqb, Decides-int_eq, nat_tests}
use Rattle.std.proofs.lemmas.Bool.{cases_lt}
use Rattle.zk_frames.specs.Frame.{length_field}
use Rattle.zk_frames.specs.Stream.{StandsNext}
use Rattle.zk_frames.specs.declared.fault.FrameFault.{FrameFault}
use Rattle.zk_frames.specs.declared.fault.FrameFault.TheVariants.{Negative, TooLong, Memory}
use Rattle.zk_session.specs.declared.states.State.{State}
use Rattle.zk_session.specs.declared.states.State.TheVariants.{Idle, Connecting, Connected, Expired, Closed}
use Rattle.zk_conversation.specs.declared.fault.TalkFault.{TalkFault}
use Rattle.zk_conversation.specs.Questions.{Question}
use Rattle.zk_conversation.specs.Results.{Result}
use Rattle.zk_conversation.specs.Calls.{Call}
use Rattle.zk_conversation.specs.Arriving.{Arrived, Connected as Welcomed, Replied, Watches_set as Part_set, Notice, Pong as Ponged}
use Rattle.zk_conversation.specs.Arriving.{Skipped as Passed, arriving}
use Rattle.zk_turns.specs.Turns.{Outcome, Fault, Framed, Talked, Silent, Behind, WatchesRefused, Signal, Opens, Comes, Cuts, Ticks, Calls}
use Rattle.zk_turns.specs.Turns.{Forget, Halt}
use Rattle.zk_turns.specs.Past.{is_talking, Happening, Took, Dropped, Lost, Pinged, Replies, Watches_set}
use Rattle.zk_turns.specs.View.{View}
use Rattle.zk_turns.specs.Taken.{Cutting, Unfinished, Bad, Payload, cut, longest_of, of_cutting, phase_of, taken_of, reading, leaves_watch}
use Rattle.zk_turns.specs.Taken.{opens}
use Rattle.zk_turns.specs.Taken.{if_open, due, timeout_of, refusal, caused, happenings, comes}
use Rattle.zk_turns.specs.Rule.{IsOpen}
use Rattle.zk_turns.specs.Meaning.{Among}
use Rattle.zk_turns.specs.Causes.{EndsBy, ByteEnds, IsFrameOf, IsGivenUp}
use Rattle.zk_turns.proofs.Pieces.{cut_there, cut_short, longest_low}
use Rattle.zk_turns.proofs.Words.{happening_of, calls}

-- ---- lengths

bad_field : (most : ℕ) (bytes : List ℕ) (fault : FrameFault) (n : ℕ) (a b c : Bool)
    → nat_le (2 ^ 31) n ≡ a → nat_lt most n ≡ b → 4 ≤ length bytes → n ≡ length_field bytes
    → cond a (Bad Negative) (cond b (Bad TooLong) (cond c (Payload (drop 4 bytes)) Unfinished)) ≡ Bad fault → StandsNext most fault bytes
bad_field most bytes fault n true b c e l there same f =
    let g : Negative ≡ fault = cc in
    let h : 2 ^ 31 ≤ n = grind (arith, nat_tests) in
    subst (λ t. StandsNext most t bytes) g (record { there = there; below = subst (λ m. 2 ^ 31 ≤ m) same h })
bad_field most bytes fault n false true c e l there same f =
    let g : TooLong ≡ fault = cc in
    let h : most < n = grind (arith, nat_tests) in
    let k : n < 2 ^ 31 = grind (arith, nat_tests) in
    subst (λ t. StandsNext most t bytes) g
    (record { there = there; above = subst (λ m. most < m) same h; positive = subst (λ m. m < 2 ^ 31) same k })
bad_field most bytes fault n false false true e l there same f = absurd cc
bad_field most bytes fault n false false false e l there same f = absurd cc

bad_stands : (most : ℕ) (bytes : List ℕ) (fault : FrameFault) → cut most bytes ≡ Bad fault → StandsNext most fault bytes
bad_stands most bytes fault e = elim (cases_lt (length bytes) 4) [
  | inl short ↦ absurd (let f = cut_short most bytes short in cc)
  | inr there ↦ bad_field most bytes fault (length_field bytes) (nat_le (2 ^ 31) (length_field bytes)) (nat_lt most
      (length_field bytes)) (eqb (length bytes) (4 + length_field bytes)) refl refl there refl (sym (cut_there most bytes there) ∙ e)
]

stands_cut : (most : ℕ) (bytes : List ℕ) (fault : FrameFault) → StandsNext most fault bytes → cut most bytes ≡ Bad fault
stands_cut most bytes Negative s =
    let n : nat_le (2 ^ 31) (length_field bytes) ≡ true = let b = s.below in grind (arith, nat_tests) in
    cut_there most bytes s.there ∙ ap (λ b. cond b (Bad Negative) (cond (nat_lt most (length_field bytes)) (Bad TooLong)
    (cond (eqb (length bytes) (4 + length_field bytes)) (Payload (drop 4 bytes)) Unfinished))) n
stands_cut most bytes TooLong s =
    let n : nat_le (2 ^ 31) (length_field bytes) ≡ false = let b = s.positive in grind (arith, nat_tests) in
    let m : nat_lt most (length_field bytes) ≡ true = let b = s.above in grind (arith, nat_tests) in
    cut_there most bytes s.there ∙ ap (λ b. cond b (Bad Negative) (cond (nat_lt most (length_field bytes)) (Bad TooLong)
    (cond (eqb (length bytes) (4 + length_field bytes)) (Payload (drop 4 bytes)) Unfinished))) n
    ∙ ap (λ b. cond b (Bad TooLong) (cond (eqb (length bytes) (4 + length_field bytes)) (Payload (drop 4 bytes)) Unfinished)) m
stands_cut most bytes Memory s = absurd s

-- ---- whole frames

frame_field : (most : ℕ) (bytes payload : List ℕ) (n : ℕ) (a b c : Bool)
    → nat_le (2 ^ 31) n ≡ a → nat_lt most n ≡ b → eqb (length bytes) (4 + n) ≡ c → n ≡ length_field bytes
    → cond a (Bad Negative) (cond b (Bad TooLong) (cond c (Payload (drop 4 bytes)) Unfinished)) ≡ Payload payload
    → IsFrameOf most payload bytes
frame_field most bytes payload n true b c e l w same f = absurd cc
frame_field most bytes payload n false true c e l w same f = absurd cc
frame_field most bytes payload n false false true e l w same f =
    let h : n ≤ most = grind (arith, nat_tests) in
    record {
      whole = (Decides-eqb (length bytes) (4 + n)).0 w ∙ ap (λ m. 4 + m) same;
      admitted = subst (λ m. m ≤ most) same h;
      is = cc;
    }
frame_field most bytes payload n false false false e l w same f = absurd cc

payload_frame : (most : ℕ) (bytes payload : List ℕ) → cut most bytes ≡ Payload payload → IsFrameOf most payload bytes
payload_frame most bytes payload e = elim (cases_lt (length bytes) 4) [
  | inl short ↦ absurd (let f = cut_short most bytes short in cc)
  | inr there ↦ frame_field most bytes payload (length_field bytes) (nat_le (2 ^ 31) (length_field bytes)) (nat_lt most
      (length_field bytes)) (eqb (length bytes) (4 + length_field bytes)) refl refl refl refl (sym (cut_there most bytes there) ∙ e)
]

frame_payload : (most : ℕ) → most < 2 ^ 31 → (bytes payload : List ℕ) → IsFrameOf most payload bytes → cut most bytes ≡ Payload payload
frame_payload most low bytes payload s =
    let w = s.whole in
    let le = s.admitted in
    let n : nat_le (2 ^ 31) (length_field bytes) ≡ false = grind (arith, nat_tests) in
    let m : nat_lt most (length_field bytes) ≡ false = grind (arith, nat_tests) in
    cut_there most bytes (omega arith) ∙ ap (λ b. cond b (Bad Negative) (cond (nat_lt most (length_field bytes)) (Bad TooLong)
    (cond (eqb (length bytes) (4 + length_field bytes)) (Payload (drop 4 bytes)) Unfinished))) n
    ∙ ap (λ b. cond b (Bad TooLong) (cond (eqb (length bytes) (4 + length_field bytes)) (Payload (drop 4 bytes)) Unfinished)) m
    ∙ ap (λ b. cond b (Payload (drop 4 bytes)) Unfinished) ((Decides-eqb (length bytes) (4 + length_field bytes)).1 w)
    ∙ ap Payload (sym s.is)

-- ---- a payload that ends its connection

zero_or : (code : ℤ) → ((code ≡ pos 0) × (int_eq code (pos 0) ≡ true)) ⊎ ((code ≢ pos 0) × (int_eq code (pos 0) ≡ false))
zero_or code = by (int_eq code (pos 0)) refl
  where
    by : (b : Bool) → int_eq code (pos 0) ≡ b
        → ((code ≡ pos 0) × (int_eq code (pos 0) ≡ true)) ⊎ ((code ≢ pos 0) × (int_eq code (pos 0) ≡ false))
    by true e = inl ((Decides-int_eq code (pos 0)).0 e, e)
    by false e = inr (λ f. let g = (Decides-int_eq code (pos 0)).1 f in cc, e)

module _ (view : View) (payload : List ℕ) where
  abbrev arrives : Reading Arrived TalkFault
  arrives = arriving (phase_of view.standing.state) view.pending payload

  by_reply : (ticket : ℕ) (question : Question) (zxid : ℤ) (result : Result) (fault : Fault) (a b : Bool)
      → arrives ≡ Ok (Replied ticket question zxid result) → leaves_watch question result ≡ a → int_lt zxid view.saved.last ≡ b
      → Dropped fault ≡ cond (a && b) (Dropped (Behind view.saved.last zxid)) (Took (Replies ticket question zxid result))
      → EndsBy view payload fault
  by_reply ticket question zxid result fault true true e l z d = let g : Behind view.saved.last zxid ≡ fault = cc in
      subst (λ t. EndsBy view payload t) g (ticket, question, result, e, l, z, refl)
  by_reply ticket question zxid result fault true false e l z d = absurd cc
  by_reply ticket question zxid result fault false b e l z d = absurd cc

  by_part : (final : Bool) (zxid err : ℤ) (fault : Fault) → arrives ≡ Ok (Part_set final zxid err)
      → Dropped fault ≡ taken_of view.saved.last (Part_set final zxid err) → EndsBy view payload fault
  by_part final zxid err fault e d = elim (zero_or err) [
    | inl z ↦ absurd (let f : Dropped fault ≡ Took (Watches_set final zxid) =
        d ∙ ap (λ b. cond b (Took (Watches_set final zxid)) (Dropped (WatchesRefused err))) z.1 in cc)
    | inr z ↦
        let f : Dropped fault ≡ Dropped (WatchesRefused err) =
        d ∙ ap (λ b. cond b (Took (Watches_set final zxid)) (Dropped (WatchesRefused err))) z.1 in
        let g : WatchesRefused err ≡ fault = cc in
        subst (λ t. EndsBy view payload t) g (final, zxid, e, z.0)
  ]

  by_result : (r : Reading Arrived TalkFault) → arrives ≡ r → (fault : Fault)
      → Dropped fault ≡ happening_of view.saved.last r → EndsBy view payload fault
  by_result (Err f) e fault d = let g : Talked f ≡ fault = cc in subst (λ t. EndsBy view payload t) g e
  by_result (Ok (Welcomed response)) e fault d = absurd cc
  by_result (Ok (Replied ticket question zxid result)) e fault d =
      by_reply ticket question zxid result fault (leaves_watch question result) (int_lt zxid view.saved.last) e refl refl d
  by_result (Ok (Part_set final zxid err)) e fault d = by_part final zxid err fault e d
  by_result (Ok (Notice event path)) e fault d = absurd cc
  by_result (Ok Ponged) e fault d = absurd cc
  by_result (Ok Passed) e fault d = absurd cc

  drop_ends : (fault : Fault) → Dropped fault ≡ reading view.standing.state view.pending view.saved.last payload → EndsBy view payload fault
  drop_ends fault d = by_result arrives refl fault d

  ends_drop : (fault : Fault) → EndsBy view payload fault → Dropped fault ≡ reading view.standing.state view.pending view.saved.last payload
  ends_drop (Talked f) e = sym (ap (happening_of view.saved.last) e)
  ends_drop (Behind seen came) e =
      ap (λ s. Dropped (Behind s came)) e.6
      ∙ sym (ap (λ b. cond (b && int_lt came view.saved.last) (Dropped (Behind view.saved.last came)) (Took (Replies e.0 e.1 came e.2))) e.4
      ∙ ap (λ b. cond b (Dropped (Behind view.saved.last came)) (Took (Replies e.0 e.1 came e.2))) e.5)
      ∙ sym (ap (happening_of view.saved.last) e.3)
  ends_drop (WatchesRefused code) e = elim (zero_or code) [
    | inl z ↦ absurd (e.3 z.0)
    | inr z ↦ sym (ap (λ b. cond b (Took (Watches_set e.0 e.1)) (Dropped (WatchesRefused code))) z.1)
        ∙ sym (ap (happening_of view.saved.last) e.2)
  ]
  ends_drop (Framed f) e = absurd e
  ends_drop Silent e = absurd e

-- ---- a byte

cutting_ends : (view : View) (bytes : List ℕ) (fault : Fault) (c : Cutting) → cut (longest_of view) bytes ≡ c
    → Among (Dropped fault) (of_cutting view c)
    → ByteEnds view bytes fault
cutting_ends view bytes fault Unfinished e a = absurd a
cutting_ends view bytes fault (Bad f) e (inl d) = let g : Framed f ≡ fault = cc in
    subst (λ t. ByteEnds view bytes t) g (bad_stands (longest_of view) bytes f e)
cutting_ends view bytes fault (Bad f) e (inr a) = absurd a
cutting_ends view bytes fault (Payload p) e (inr a) = absurd a
cutting_ends view bytes fault (Payload p) e (inl d) = by fault (drop_ends view p fault d)
  where
    by : (fault : Fault) → EndsBy view p fault → ByteEnds view bytes fault
    by (Framed f) x = absurd x
    by (Talked f) x = (p, payload_frame (longest_of view) bytes p e, x)
    by Silent x = absurd x
    by (Behind s c) x = (p, payload_frame (longest_of view) bytes p e, x)
    by (WatchesRefused c) x = (p, payload_frame (longest_of view) bytes p e, x)

ends_payload : (view : View) (bytes : List ℕ) (fault : Fault) (p : List ℕ)
    → IsFrameOf (longest_of view) p bytes → EndsBy view p fault → Among (Dropped fault) (of_cutting view (cut (longest_of view) bytes))
ends_payload view bytes fault p f x =
    subst (λ c. Among (Dropped fault) (of_cutting view c)) (sym (frame_payload (longest_of view) (longest_low view) bytes p f))
    (inl (ends_drop view p fault x))

ends_cutting : (view : View) (bytes : List ℕ) (fault : Fault)
    → ByteEnds view bytes fault → Among (Dropped fault) (of_cutting view (cut (longest_of view) bytes))
ends_cutting view bytes (Framed f) s =
    subst (λ c. Among (Dropped (Framed f)) (of_cutting view c)) (sym (stands_cut (longest_of view) bytes f s)) (inl refl)
ends_cutting view bytes (Talked f) s = ends_payload view bytes (Talked f) s.0 s.1 s.2
ends_cutting view bytes Silent s = absurd s.2
ends_cutting view bytes (Behind a b) s = ends_payload view bytes (Behind a b) s.0 s.1 s.2
ends_cutting view bytes (WatchesRefused c) s = ends_payload view bytes (WatchesRefused c) s.0 s.1 s.2

-- ---- a signal

no_opening : (state : State) (fault : Fault) → Among (Dropped fault) (opens state) → ⊥
no_opening Idle fault (inl e) = cc
no_opening Idle fault (inr a) = a
no_opening Connecting fault (inl e) = cc
no_opening Connecting fault (inr (inl e)) = cc
no_opening Connecting fault (inr (inr a)) = a
no_opening Connected fault (inl e) = cc
no_opening Connected fault (inr (inl e)) = cc
no_opening Connected fault (inr (inr a)) = a
no_opening Expired fault a = a
no_opening Closed fault a = a

open_among : (state : State) (x : Happening) (xs : List Happening) → Among x (if_open state xs) → IsOpen state × Among x xs
open_among Connecting x xs a = (refl, a)
open_among Connected x xs a = (refl, a)
open_among Idle x xs a = absurd a
open_among Expired x xs a = absurd a
open_among Closed x xs a = absurd a

among_open : (state : State) (x : Happening) (xs : List Happening) → IsOpen state → Among x xs → Among x (if_open state xs)
among_open Connecting x xs o a = a
among_open Connected x xs o a = a
among_open Idle x xs o a = absurd cc
among_open Expired x xs o a = absurd cc
among_open Closed x xs o a = absurd cc

no_call : (ticket : ℕ) (call : Call) (why : Option Outcome) (fault : Fault) → Among (Dropped fault) (calls ticket call why) → ⊥
no_call ticket call None fault (inl e) = cc
no_call ticket call None fault (inr a) = a
no_call ticket call (Some why) fault (inl e) = cc
no_call ticket call (Some why) fault (inr a) = a

silence : (view : View) (now : ℕ) (fault : Fault) → Among (Dropped fault) (due view now)
    → (fault ≡ Silent) × (2 * timeout_of view ≤ 3 * (now - view.moments.heard))
silence view now fault a = by (nat_le (2 * timeout_of view) (3 * (now - view.moments.heard))) refl a
  where
    pings : List Happening
    pings = cond (is_talking view.standing.state && nat_le (timeout_of view) (3 * (now - view.moments.sent))) (Pinged ∷ []) []

    no_ping : (b : Bool) → Among (Dropped fault) (cond b (Pinged ∷ []) []) → ⊥
    no_ping true (inl e) = cc
    no_ping true (inr a) = a
    no_ping false a = a

    none : (state : State) → Among (Dropped fault)
        (cond (is_talking state && nat_le (timeout_of view) (3 * (now - view.moments.sent))) (Pinged ∷ []) []) → ⊥
    none Connected a = no_ping (nat_le (timeout_of view) (3 * (now - view.moments.sent))) a
    none Idle a = a
    none Connecting a = a
    none Expired a = a
    none Closed a = a

    by : (b : Bool) → nat_le (2 * timeout_of view) (3 * (now - view.moments.heard)) ≡ b
        → Among (Dropped fault) (cond b (Dropped Silent ∷ [])
        (cond (is_talking view.standing.state && nat_le (timeout_of view) (3 * (now - view.moments.sent))) (Pinged ∷ []) []))
        → (fault ≡ Silent) × (2 * timeout_of view ≤ 3 * (now - view.moments.heard))
    by true e (inl d) = (cc, grind (arith, nat_tests))
    by true e (inr a) = absurd a
    by false e a = absurd (none view.standing.state a)

silent : (view : View) (now : ℕ) → 2 * timeout_of view ≤ 3 * (now - view.moments.heard) → Among (Dropped Silent) (due view now)
silent view now le =
    let t : nat_le (2 * timeout_of view) (3 * (now - view.moments.heard)) ≡ true = grind (arith, nat_tests) in
    subst (λ b. Among (Dropped Silent) (cond b (Dropped Silent ∷ []) (cond
    (is_talking view.standing.state && nat_le (timeout_of view) (3 * (now - view.moments.sent))) (Pinged ∷ []) []))) (sym t) (inl refl)

caused_ends : (view : View) (signal : Signal) (fault : Fault) → Among (Dropped fault) (caused view signal) → IsGivenUp view signal fault
caused_ends view Opens fault a = absurd (no_opening view.standing.state fault a)
caused_ends view (Comes byte) fault a = by (open_among view.standing.state (Dropped fault) (comes view byte) a)
  where
    by : IsOpen view.standing.state × Among (Dropped fault) (comes view byte) → IsGivenUp view (Comes byte) fault
    by (o, inl e) = absurd cc
    by (o, inr b) = (o, cutting_ends view (view.held ++ byte ∷ []) fault (cut (longest_of view) (view.held ++ byte ∷ [])) refl b)
caused_ends view Cuts fault a = by (open_among view.standing.state (Dropped fault) (Lost ∷ []) a).1
  where
    by : Among (Dropped fault) (Lost ∷ []) → IsGivenUp view Cuts fault
    by (inl e) = absurd cc
    by (inr b) = absurd b
caused_ends view (Ticks moment) fault (inl e) = absurd cc
caused_ends view (Ticks moment) fault (inr a) =
    let o = open_among view.standing.state (Dropped fault) (due view (max moment view.moments.now)) a in
    let s = silence view (max moment view.moments.now) fault o.1 in
    (o.0, s.0, s.1)
caused_ends view (Calls ticket call) fault a = absurd (no_call ticket call (refusal view call) fault a)
caused_ends view Forget fault (inl e) = absurd cc
caused_ends view Forget fault (inr a) = absurd a
caused_ends view Halt fault (inl e) = absurd cc
caused_ends view Halt fault (inr a) = absurd a

ends_caused : (view : View) (signal : Signal) (fault : Fault) → IsGivenUp view signal fault → Among (Dropped fault) (caused view signal)
ends_caused view (Comes byte) fault g =
    among_open view.standing.state (Dropped fault) (comes view byte) g.0 (inr (ends_cutting view (view.held ++ byte ∷ []) fault g.1))
ends_caused view (Ticks moment) fault g = inr (among_open view.standing.state (Dropped fault) (due view (max moment view.moments.now)) g.0
    (subst (λ f. Among (Dropped f) (due view (max moment view.moments.now))) (sym g.1) (silent view (max moment view.moments.now) g.2)))
ends_caused view Opens fault g = absurd g
ends_caused view Cuts fault g = absurd g
ends_caused view (Calls ticket call) fault g = absurd g
ends_caused view Forget fault g = absurd g
ends_caused view Halt fault g = absurd g

live : (view : View) (signal : Signal) → view.standing.halted ≡ false → happenings view signal ≡ caused view signal
live view Forget e = refl
live view Halt e = refl
live view signal e = ap (λ b. cond b [] (caused view signal)) e

pub given_up : (view : View) (signal : Signal) (fault : Fault)
    → view.standing.halted ≡ false → (Among (Dropped fault) (happenings view signal) → IsGivenUp view signal fault)
    × (IsGivenUp view signal fault → Among (Dropped fault) (happenings view signal))
given_up view signal fault e = (
  λ a. caused_ends view signal fault (subst (λ l. Among (Dropped fault) l) (live view signal e) a),
  λ g. subst (λ l. Among (Dropped fault) l) (sym (live view signal e)) (ends_caused view signal fault g),
)
