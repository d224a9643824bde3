-- What is taken from a beginning of the frames is the beginning of the messages: one frame, one payload, one reading. A frame's length
-- tells where it ends, and its xid how it is read.
use Rattle.zk_frames.specs.declared.fault.FrameFault.{FrameFault}
use Rattle.zk_turns.specs.Spelled.{IsHeaded, HasRecord, HasResult}
use Rattle.zk_laws.specs.Served.{code_of, IsPayload}
use Rattle.zk_turns.specs.Taken.{taken_of, welcome_by, accepted_or_expired, reading, Cutting, Unfinished, Bad, Payload, cut, cut_at}
use Rattle.zk_turns.specs.Taken.{leaves_watch}
use Rattle.zk_conversation.specs.Calls.{part_xid}
use Rattle.zk_nodes.specs.Path.{Text}
use Rattle.zk_conversation.specs.Pending.{part_waits, Pending, Call_waits}
use Rattle.zk_jute.specs.Lenient.{or_empty}
use Rattle.zk_conversation.specs.Results.{record_of, result_of, result_layout, result_from, response_timeout, response_session}
use Rattle.zk_conversation.specs.Results.{response_password, Result, NoNode, Refused, Found, Read, Listing, Made, Done, Brought}
use Rattle.zk_conversation.specs.Arriving.{arriving, later_arriving, header_arriving, notice_arriving, call_arriving, first_arriving}
use Rattle.zk_conversation.specs.Arriving.{noticed, Notice}
use Rattle.zk_records.specs.inner.ResponseLaws.{response_again}
use Rattle.zk_records.specs.Response.{Response, IsPayload as IsResponse}
use Rattle.zk_records.specs.Events.{event_number, event_of}
use Rattle.zk_records.specs.Layouts.{reply_header, watcher_event}
use Rattle.zk_jute.specs.inner.Laws.{reads}
use Rattle.zk_jute.specs.Layout.{Layout, Value}
use Rattle.zk_jute.specs.Reading.{reading as jute_reading, ◌>>=◌}
use Rattle.std.proofs.Common.{◌≡◌, ℕ, zero, suc, ◌+◌, ◌^◌, ◌≤◌, ◌<◌, ℤ, pos, negsuc, Bool, true, false, cond, eqb, leb, ltb, ◌&&◌, List, []}
use Rattle.std.proofs.Common.{◌∷◌, ◌++◌, drop, length, Ok, Err, refl, sym, ap, subst, ◌∙◌, arith, inl, inr, ◌⊎◌}
use Rattle.std.specs.Prelude.{int_lt, nat_lt, is_some, if◌then◌else◌, ◌≢◌}
use Rattle.std.specs.Ordering.{int_eq}
use Rattle.std.proofs.lemmas.Nat.{from_be_bytes-to_be_bytes_4}
use Rattle.std.proofs.lemmas.Bool.Decides.{Decides-eqb, Decides-int_eq, leb_tells}
use Rattle.std.proofs.lemmas.Bool.{le-ltb, lt-ltb, cases_lt}
use Rattle.zk_records.specs.declared.event.Event.{Event}
use Rattle.zk_records.specs.declared.event.Event.TheVariants.{Created, Deleted, DataChanged, ChildrenChanged}
use Rattle.zk_conversation.specs.Questions.{Question, Exists, GetData, GetChildren}
use Rattle.zk_turns.specs.Turns.{Behind}
use Rattle.zk_frames.specs.declared.fault.FrameFault.TheVariants.{Negative, TooLong}
use Rattle.zk_conversation.specs.declared.fault.TalkFault.TheVariants.{OtherXid}
use Rattle.zk_session.specs.declared.states.State.TheVariants.{Connecting, Connected, Expired}
use Rattle.zk_frames.specs.Frame.{frame, length_field}
use Rattle.zk_turns.specs.Past.{Took, Dropped, Accepted as Accepts, Expiry, Replies as Answers_call, Watches_set as Sets_watches}
use Rattle.zk_turns.specs.Past.{Notifies as Tells, Pong as Echo}
use Rattle.zk_session.specs.SessionView.{Welcome}
use Rattle.zk_turns.proofs.Pieces.{cut_there, cut_short, same_field, length-frame, drop-frame}
use Rattle.zk_laws.proofs.Log.{left_by}
use Rattle.zk_laws.specs.Server.{Notice as Notified}
use Rattle.zk_laws.specs.Messages.{Accepted, Expired, Replies, Watches_set, Notifies, Pong, from_zero}
use Rattle.zk_laws.specs.Server.{HasCode}
use Rattle.zk_turns.proofs.Words.{happening_of}

-- ---- cutting

payload_by : (bytes p : List ℕ) (n : ℕ) (a b c : Bool)
    → eqb (length bytes) (4 + n) ≡ c → cond a (Bad Negative) (cond b (Bad TooLong) (cond c (Payload (drop 4 bytes)) Unfinished)) ≡ Payload p
    → (length bytes ≡ 4 + n) × (p ≡ drop 4 bytes)
payload_by bytes p n true b c e f = absurd cc
payload_by bytes p n false true c e f = absurd cc
payload_by bytes p n false false true e f = ((Decides-eqb (length bytes) (4 + n)).0 e, cc)
payload_by bytes p n false false false e f = absurd cc

-- a payload is what follows a length
cut_payload : (most : ℕ) (bytes p : List ℕ) → cut most bytes ≡ Payload p
    → (4 ≤ length bytes) × (length bytes ≡ 4 + length_field bytes) × (p ≡ drop 4 bytes)
cut_payload most bytes p e = elim (cases_lt (length bytes) 4) [
  | inl short ↦ absurd (let f = cut_short most bytes short in cc)
  | inr there ↦
      let f : cut_at most (length_field bytes) bytes ≡ Payload p = sym (cut_there most bytes there) ∙ e in
      let r = payload_by bytes p (length_field bytes) (leb (2 ^ 31) (length_field bytes)) (ltb most (length_field bytes))
      (eqb (length bytes) (4 + length_field bytes)) refl f in
      (there, r.0, r.1)
]

bad_by : (most : ℕ) (bytes : List ℕ) (fault : FrameFault) (n : ℕ) (a b c : Bool) → leb (2 ^ 31) n ≡ a → ltb most n ≡ b
    → cond a (Bad Negative) (cond b (Bad TooLong) (cond c (Payload (drop 4 bytes)) Unfinished)) ≡ Bad fault
    → (2 ^ 31 ≤ n) ⊎ ((fault ≡ TooLong) × (most < n))
bad_by most bytes fault n true b c e l f = elim (leb_tells (2 ^ 31) n) [ inl t ↦ inl t.1 | inr t ↦ absurd (let g = t.0 in cc) ]
bad_by most bytes fault n false true c e l f =
    elim (cases_lt most n) [ inl lt ↦ inr (cc, lt) | inr le ↦ absurd (let g = le-ltb most n le in cc) ]
bad_by most bytes fault n false false true e l f = absurd cc
bad_by most bytes fault n false false false e l f = absurd cc

cut_bad : (most : ℕ) (bytes : List ℕ) (fault : FrameFault) → cut most bytes ≡ Bad fault
    → (4 ≤ length bytes) × ((2 ^ 31 ≤ length_field bytes) ⊎ ((fault ≡ TooLong) × (most < length_field bytes)))
cut_bad most bytes fault e = elim (cases_lt (length bytes) 4) [
  | inl short ↦ absurd (let f = cut_short most bytes short in cc)
  | inr there ↦
      let f : cut_at most (length_field bytes) bytes ≡ Bad fault = sym (cut_there most bytes there) ∙ e in (
        there,
        bad_by most bytes fault (length_field bytes) (leb (2 ^ 31) (length_field bytes)) (ltb most (length_field bytes))
            (eqb (length bytes) (4 + length_field bytes)) refl refl f,
      )
]

-- ---- frames

pub field_of : (payload : List ℕ) → length payload < 2 ^ 31 → length_field (frame payload) ≡ length payload
field_of payload le = from_be_bytes-to_be_bytes_4 (length payload) (omega arith)

first_field : (held coming payload more : List ℕ)
    → length payload < 2 ^ 31 → 4 ≤ length held → held ++ coming ≡ frame payload ++ more → length_field held ≡ length payload
first_field held coming payload more low there e =
    let n = length-frame payload in
    sym (same_field held coming there) ∙ ap length_field e ∙ same_field (frame payload) more (omega arith) ∙ field_of payload low

pub split_at : (a b c d : List ℕ) → a ++ b ≡ c ++ d → length a ≡ length c → (a ≡ c) × (b ≡ d)
split_at [] b [] d e l = (refl, e)
split_at [] b (x ∷ c) d e l = absurd (omega arith)
split_at (x ∷ a) b [] d e l = absurd (omega arith)
split_at (x ∷ a) b (y ∷ c) d e l =
    let h : x ≡ y = cc in
    let t : a ++ b ≡ c ++ d = cc in
    let r = split_at a b c d t (omega arith) in
    ((λ i. h i ∷ r.0 i), r.1)

-- The payload that is cut off is the first one's, and the frames of the others are left.
pub taken_first : (most : ℕ) (held coming payload more p : List ℕ)
    → length payload < 2 ^ 31 → held ++ coming ≡ frame payload ++ more → cut most held ≡ Payload p → (p ≡ payload) × (coming ≡ more)
taken_first most held coming payload more p low e c =
    let t = cut_payload most held p c in
    let there : 4 ≤ length held = t.0 in
    let len : length held ≡ 4 + length_field held = t.1 in
    let f = first_field held coming payload more low there e in
    let n = length-frame payload in
    let s = split_at held coming (frame payload) more e (omega arith) in
    (t.2 ∙ ap (λ l. drop 4 l) s.0 ∙ drop-frame payload, s.1)

-- No length is negative, and one that is refused is the first payload's and above the limit.
pub first_too_long : (most : ℕ) (held coming payload more : List ℕ) (fault : FrameFault)
    → length payload < 2 ^ 31 → held ++ coming ≡ frame payload ++ more → cut most held ≡ Bad fault
    → (fault ≡ TooLong) × (most < length payload) × (length_field held ≡ length payload)
first_too_long most held coming payload more fault low e c =
    let t = cut_bad most held fault c in
    let there : 4 ≤ length held = t.0 in
    let f = first_field held coming payload more low there e in
    elim t.1 [ inl high ↦ absurd (omega arith) | inr is ↦ (is.0, subst (λ n. most < n) f is.1, f) ]

-- nothing is cut off where nothing is sent
pub none_cut : (most : ℕ) (held coming : List ℕ) (c : Cutting) → held ++ coming ≡ [] → cut most held ≡ c → c ≡ Unfinished
none_cut most [] coming c e f = sym f ∙ cut_short most [] (omega arith)
none_cut most (x ∷ held) coming c e f = absurd cc

-- ---- readings

headed : (xid zxid err : ℤ) (payload behind : List ℕ) → IsHeaded xid zxid err payload behind → (end : ℕ)
    → jute_reading reply_header end payload ≡ Ok ((xid, (zxid, err)), behind)
headed xid zxid err payload behind h end =
    ap (jute_reading reply_header end) h.whole ∙ (reads reply_header end).again (xid, (zxid, err)) behind h.fits

recorded : (layout : Layout) (value : Value layout) (bytes : List ℕ) (r : HasRecord layout value bytes) (end : ℕ)
    → jute_reading layout end bytes ≡ Ok (value, r.ignored)
recorded layout value bytes r end = ap (jute_reading layout end) r.whole ∙ (reads layout end).again value r.ignored r.fits

-- what arrives with a header, by its xid
reads_later : (ps : List Pending) (last xid zxid err : ℤ) (p behind : List ℕ) → IsHeaded xid zxid err p behind
    → reading Connected ps last p ≡ happening_of last (header_arriving ps (record { xid = xid; zxid = zxid; err = err }) (length p) behind)
unfolding arriving
reads_later ps last xid zxid err p behind h =
    ap (λ r. happening_of last (later_arriving ps (length p) r)) (headed xid zxid err p behind h (length p))

event_is : (event : Event) (path : Text) → noticed (event_of (event_number event)) path ≡ Notice event path
event_is Created path = refl
event_is Deleted path = refl
event_is DataChanged path = refl
event_is ChildrenChanged path = refl

pub reads_notice : (ps : List Pending) (last xid : ℤ) (notice : Notified) (p : List ℕ)
    → IsPayload xid (Notifies notice) p → reading Connected ps last p ≡ Took (Tells notice.event notice.path)
reads_notice ps last xid notice p is =
    reads_later ps last (negsuc 0) is.0 is.1 p is.2 is.3
    ∙ ap (λ r. happening_of last (notice_arriving r))
    (recorded watcher_event (event_number notice.event, (is.4, is.5)) is.2 is.6 (length p))
    ∙ ap (λ a. taken_of last a) (event_is notice.event (or_empty is.5)) ∙ ap (λ t. Took (Tells notice.event t)) is.7

pub reads_pong : (ps : List Pending) (last xid : ℤ) (p : List ℕ) → IsPayload xid Pong p → reading Connected ps last p ≡ Took Echo
reads_pong ps last xid p is = reads_later ps last (negsuc 1) is.0 is.1 p is.2 is.3

pub reads_part : (ps : List Pending) (last : ℤ) (is_last : Bool) (zxid : ℕ) (p : List ℕ) → IsPayload part_xid (Watches_set is_last zxid) p
    → reading Connected (part_waits is_last ∷ ps) last p ≡ Took (Sets_watches is_last (pos zxid))
reads_part ps last is_last zxid p is = reads_later (part_waits is_last ∷ ps) last part_xid (pos zxid) (pos 0) p is.0 is.1

other_code : (a b : ℤ) → a ≢ b → int_eq a b ≡ false
other_code a b n = by (int_eq a b) refl
  where
    by : (t : Bool) → int_eq a b ≡ t → t ≡ false
    by true e = absurd (n ((Decides-int_eq a b).0 e))
    by false e = refl

found_is : (q : Question) (r : Result) (end : ℕ) (behind : List ℕ) → (value : Value (result_layout q))
    × (found : HasRecord (result_layout q) value behind) × (result_from q value found.ignored ≡ r) → record_of q end behind ≡ Ok r
unfolding record_of
found_is q r end behind f =
    ap (λ x. x >>= λ found. Ok (result_from q found.0 found.1)) (recorded (result_layout q) f.0 behind f.1 end) ∙ ap Ok f.2

result_is : (q : Question) (r : Result) (end : ℕ) (behind : List ℕ)
    → HasCode r → HasResult q r behind → result_of q (code_of r) end behind ≡ Ok r
result_is q NoNode end behind c f = refl
result_is q (Refused code) end behind c f =
    ap (λ b. if b then record_of q end behind else (if int_eq code (negsuc 100) then Ok NoNode else Ok (Refused code)))
    (other_code code (pos 0) c.0)
    ∙ ap (λ b. if b then Ok NoNode else Ok (Refused code)) (other_code code (negsuc 100) c.1)
result_is q (Found stat) end behind c f = found_is q (Found stat) end behind f
result_is q (Read bytes stat) end behind c f = found_is q (Read bytes stat) end behind f
result_is q (Listing names stat) end behind c f = found_is q (Listing names stat) end behind f
result_is q (Made at) end behind c f = found_is q (Made at) end behind f
result_is q Done end behind c f = found_is q Done end behind f
result_is q (Brought bytes) end behind c f = found_is q (Brought bytes) end behind f

pub leaves_is : (q : Question) (r : Result) → leaves_watch q r ≡ is_some (left_by q r)
leaves_is (Exists at true) NoNode = refl
leaves_is (Exists at true) (Found stat) = refl
leaves_is (GetData at true) (Read bytes stat) = refl
leaves_is (GetChildren at true) (Listing names stat) = refl
leaves_is _ _ = refl

low_is : (z : ℕ) (last : ℤ) → int_lt (pos z) last ≡ nat_lt z (from_zero last)
low_is z (pos n) = refl
low_is z (negsuc n) = sym (le-ltb z 0 (omega arith))

pub reads_reply : (ps : List Pending) (last : ℤ) (n ticket : ℕ) (q : Question) (zxid : ℕ) (r : Result) (p : List ℕ)
    → HasCode r → IsPayload (pos n) (Replies q zxid r) p
    → (is_some (left_by q r) && nat_lt zxid (from_zero last)) ≡ false
    → reading Connected (record { xid = pos n; waiting = Call_waits ticket q } ∷ ps) last p ≡ Took (Answers_call ticket q (pos zxid) r)
reads_reply ps last n ticket q zxid r p c is behind =
    reads_later (record { xid = pos n; waiting = Call_waits ticket q } ∷ ps) last (pos n) (pos zxid) (code_of r) p is.0 is.1
    ∙ ap (λ b. happening_of last
    (cond b (call_arriving ticket q (pos zxid) (result_of q (code_of r) (length p) is.0)) (Err (OtherXid (pos n) (pos n)))))
    ((Decides-int_eq (pos n) (pos n)).1 refl)
    ∙ ap (λ x. happening_of last (call_arriving ticket q (pos zxid) x)) (result_is q r (length p) is.0 c is.2)
    ∙ ap (λ b. cond b (Dropped (Behind last (pos zxid))) (Took (Answers_call ticket q (pos zxid) r)))
    (ap (λ b. b && int_lt (pos zxid) last) (leaves_is q r) ∙ ap (λ b. is_some (left_by q r) && b) (low_is zxid last) ∙ behind)

not_zero : (n : ℕ) → eqb (suc n) 0 ≡ false
not_zero n = by (eqb (suc n) 0) refl
  where
    by : (b : Bool) → eqb (suc n) 0 ≡ b → b ≡ false
    by true e = absurd (let s = (Decides-eqb (suc n) 0).0 e in omega arith)
    by false e = refl

welcomes : (timeout session : ℤ) (password : List ℕ)
    → int_lt (pos 0) timeout ≡ true → (welcome : Welcome) × (welcome_by timeout session password ≡ Accepts welcome)
welcomes (pos zero) session password low = absurd cc
welcomes (pos (suc n)) session password low = (
  record { timeout = suc n; session = session; password = password },
  ap (λ b. cond b Expiry (Accepts (record { timeout = suc n; session = session; password = password }))) (not_zero n),
)
welcomes (negsuc n) session password low = absurd cc

expires : (timeout session : ℤ) (password : List ℕ) → int_lt (pos 0) timeout ≡ false → welcome_by timeout session password ≡ Expiry
expires (pos zero) session password low = refl
expires (pos (suc n)) session password low = absurd (let f = lt-ltb 0 (suc n) (omega arith) in cc)
expires (negsuc n) session password low = refl

first_read : (ps : List Pending) (last : ℤ) (p : List ℕ) (response : Response) (ignored : List ℕ)
    → IsResponse p response ignored → reading Connecting ps last p ≡ Took (accepted_or_expired response)
unfolding arriving
first_read ps last p response ignored is = ap (λ r. happening_of last (first_arriving r)) (response_again (length p) p response ignored is)

pub reads_accepted : (ps : List Pending) (last xid : ℤ) (p : List ℕ)
    → IsPayload xid Accepted p → (welcome : Welcome) × (reading Connecting ps last p ≡ Took (Accepts welcome))
reads_accepted ps last xid p is =
    let w = welcomes (response_timeout is.0) (response_session is.0) (response_password is.0) is.3 in
    (w.0, first_read ps last p is.0 is.1 is.2 ∙ ap Took w.1)

pub reads_expired : (ps : List Pending) (last xid : ℤ) (p : List ℕ) → IsPayload xid Expired p → reading Connecting ps last p ≡ Took Expiry
reads_expired ps last xid p is =
    first_read ps last p is.0 is.1 is.2 ∙ ap Took (expires (response_timeout is.0) (response_session is.0) (response_password is.0) is.3)
