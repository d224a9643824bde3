-- Where all that was asked is processed, and all that was sent is received, all is quiet: no request is left, and no frame, as none is
-- empty.
use Rattle.std.proofs.Common.{ℕ, zero, suc, ◌≡◌, ◌+◌, Bool, true, false, List, [], ◌∷◌, map, drop, length, refl, sym, ap, subst, ◌∙◌, arith}
use Rattle.std.specs.Prelude.{◌&&◌, not}
use Rattle.std.proofs.lemmas.List.{length-append}
use Rattle.zk_frames.specs.Frame.{frame, joined}
use Rattle.zk_laws.specs.Laws.{AreRestored}
use Rattle.zk_laws.specs.Parsed.{AreTold}
use Rattle.zk_laws.specs.Served.{Entry, Sent, items_in, wire_of, is_going, requests, unread}
use Rattle.theory_serving.proofs.Fronts.{front_behind, front_field}
use Rattle.theory_serving.specs.Shown.{Shown, Open}
use Rattle.theory_serving.specs.Wires.{IsWire, Shows, is_up}
use Rattle.zk_turns.proofs.Pieces.{length-frame}
use Rattle.zk_turns.specs.Past.{has_halted, is_open, is_talking, state_of}
use Rattle.zk_turns.specs.Ranges.{IsResumable}
use Rattle.zk_turns.specs.Rule.{Stands}
use Rattle.zk_turns.specs.Taken.{past_of}
use Rattle.zk_turns.specs.Turns.{Item, Start}
use Rattle.zk_turns.specs.View.{View, Standing}
use Rattle.theory_rules.specs.Missed.{AreFrames, IsQuietPlace, RequestsAreFrames, OneIsLess, QuietAtLast}
use Rattle.zk_laws.proofs.Found.{all_told}

are_frames : (sent : List Sent) → AreTold (map (λ s. s.payload) sent) → AreFrames (length sent) (joined (map (λ s. s.payload) sent))
are_frames [] told = refl
are_frames (first ∷ more) told = (first.payload, joined (map (λ s. s.payload) more), told.0, refl, are_frames more told.1)

told_after : (n : ℕ) (sent : List Sent) → AreTold (map (λ s. s.payload) sent) → AreTold (map (λ s. s.payload) (drop n sent))
told_after zero sent told = told
told_after (suc n) [] told = tt
told_after (suc n) (first ∷ more) told = told_after n more told.1

not_halted : (halted up : Bool) → (up && not halted) ≡ true → halted ≡ false
not_halted false up is = refl
not_halted true true is = absurd (let e : false ≡ true = is in cc)
not_halted true false is = absurd (let e : false ≡ true = is in cc)

-- the view tells whether the client has a connection
is_going_as : (start : Start) (items : List Item) (view : View)
    → Stands start items view → is_up view ≡ true → is_going (past_of start items) ≡ true
is_going_as start items view stands up = ap (λ (t : Standing). is_open t.state && not t.halted) (sym stands.standing) ∙ up

-- a frame is not empty
no_frame : (first : Sent) (more : List Sent) → joined (map (λ s. s.payload) (first ∷ more)) ≡ [] → ⊥
no_frame first more none =
    let n = length-frame first.payload in
    let all : length (frame first.payload) + length (joined (map (λ s. s.payload) more)) ≡ 0 =
    sym (length-append (frame first.payload) (joined (map (λ s. s.payload) more))) ∙ ap length none in
    absurd (omega (arith, n, all))

none_left : (sent : List Sent) → joined (map (λ s. s.payload) sent) ≡ [] → AreRestored (map (λ s. s.request) sent)
none_left [] none = tt
none_left (first ∷ more) none = absurd (no_frame first more none)

-- ---- of a schedule

module _ (start : Start) (entries : List Entry) (view : View) (shown : Shown) (stands : Stands start (items_in entries) view)
    (shows : Shows start entries shown)
    (up : is_up view ≡ true) (open_now : shown.phase ≡ Open) where
  wire : IsWire start (past_of start (items_in entries)) (wire_of shown.history entries) shown
  wire = shows.wire (is_going_as start (items_in entries) view stands up)

  frames : IsResumable start → (count : ℕ) × AreFrames count shown.requests
  frames from =
      let sent = unread start (past_of start (items_in entries)) (wire_of shown.history entries) in (
        length sent,
        subst (AreFrames (length sent)) (sym (wire.waiting open_now)) (are_frames sent (told_after (wire_of shown.history
            entries).processed (requests start (past_of start (items_in entries))) (all_told start (items_in entries) from))),
      )

  quiet_here : is_talking view.standing.state ≡ true → shown.requests ≡ [] → shown.output ≡ [] → view.held ≡ [] → IsQuietPlace view shown
  quiet_here talks processed received held = record {
    start = start;
    entries = entries;
    stands = stands;
    serving = shows.serving;
    quiet = record {
      going = is_going_as start (items_in entries) view stands up;
      talking = ap (λ (t : Standing). is_talking t.state) (sym stands.standing) ∙ talks;
      received = wire.coming ∙ received;
      taken = ap (λ (v : View). v.held) (sym (stands.going (not_halted (has_halted (past_of start (items_in entries)))
          (is_open (state_of (past_of start (items_in entries)))) (is_going_as start (items_in entries) view stands up)))) ∙ held;
      restored = none_left (unread start (past_of start (items_in entries)) (wire_of shown.history entries))
          (sym (wire.waiting open_now) ∙ processed);
    };
    place = wire.server open_now;
  }

-- ---- the laws

pub requests_are_frames : RequestsAreFrames
requests_are_frames view shown s up open_now =
    frames s.start s.served.entries view shown
    (subst (λ (items : List Item). Stands s.start items view) (sym s.served.whole) s.stands) s.served.shows up open_now s.resumable

pub one_is_less : OneIsLess
one_is_less count request xid payload rest steps old new asked first does open_now =
    let bytes = does.requests open_now in
    let length_is : length asked.0 ≡ length payload =
    sym (front_field asked.0 asked.1 old.requests asked.3 asked.2) ∙ front_field payload new.requests old.requests bytes first.small in
    let rest_is : asked.1 ≡ new.requests = sym (front_behind asked.0 asked.1 old.requests asked.3)
    ∙ ap (λ n. drop (4 + n) old.requests) length_is ∙ front_behind payload new.requests old.requests bytes in
    subst (AreFrames count) rest_is asked.4

pub quiet_at_last : QuietAtLast
quiet_at_last view shown s up talks open_now processed received held =
    quiet_here s.start s.served.entries view shown (subst (λ (items : List Item). Stands s.start items view) (sym s.served.whole) s.stands)
    s.served.shows up open_now talks processed received held
