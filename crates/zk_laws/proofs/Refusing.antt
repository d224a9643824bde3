-- How a refusal is read: of a part of setWatches, it ends the connection; of a call, it is an answer with whatever zxid.
use Rattle.std.proofs.Common.{◌≡◌, ℕ, ℤ, pos, negsuc, Bool, true, false, cond, List, ◌∷◌, length, refl, ap, ◌∙◌, Ok, Err, None}
use Rattle.std.specs.Prelude.{◌≢◌, ◌&&◌, int_lt, is_some, if◌then◌else◌}
use Rattle.std.specs.Ordering.{int_eq}
use Rattle.std.proofs.lemmas.Bool.Decides.{Decides-int_eq}
use Rattle.zk_jute.specs.inner.Laws.{reads}
use Rattle.zk_jute.specs.Reading.{reading as jute_reading}
use Rattle.zk_records.specs.Layouts.{reply_header}
use Rattle.zk_conversation.specs.Calls.{part_xid}
use Rattle.zk_conversation.specs.Questions.{Question, Exists, GetData, GetChildren}
use Rattle.zk_conversation.specs.Pending.{Pending, Call_waits, part_waits}
use Rattle.zk_conversation.specs.Arriving.{arriving, later_arriving, call_arriving}
use Rattle.zk_conversation.specs.declared.fault.TalkFault.TheVariants.{OtherXid}
use Rattle.zk_conversation.specs.Results.{Refused, NoNode, result_of, record_of}
use Rattle.zk_session.specs.declared.states.State.TheVariants.{Connected}
use Rattle.zk_turns.specs.Turns.{Talked, Behind, WatchesRefused}
use Rattle.zk_turns.specs.Past.{Dropped, Took as Takes_in, Replies as Answers_call, Watches_set as Sets_watches}
use Rattle.zk_turns.specs.Spelled.{IsHeaded}
use Rattle.zk_turns.specs.Taken.{reading, taken_of}
use Rattle.zk_laws.specs.Server.{IsOther}
use Rattle.zk_laws.proofs.Log.{left_by}
use Rattle.zk_laws.proofs.Framed.{leaves_is}
use Rattle.zk_laws.proofs.Matching.{IsRefusal}

pub left_refused : (q : Question) (code : ℤ) → left_by q (Refused code) ≡ None
left_refused (Exists at true) code = refl
left_refused (GetData at true) code = refl
left_refused (GetChildren at true) code = refl
left_refused _ code = refl

other_than : (a b : ℤ) → a ≢ b → int_eq a b ≡ false
other_than a b n = by (int_eq a b) refl
  where
    by : (t : Bool) → int_eq a b ≡ t → t ≡ false
    by true e = absurd (n ((Decides-int_eq a b).0 e))
    by false e = refl

-- a part that is refused ends the connection
pub reads_refusal : (ps : List Pending) (last : ℤ) (b : Bool) (p : List ℕ) (r : IsRefusal p)
    → reading Connected (part_waits b ∷ ps) last p ≡ Dropped (WatchesRefused r.code)
unfolding arriving
reads_refusal ps last b p r =
    let found = ap (jute_reading reply_header (length p)) r.headed.whole
    ∙ (reads reply_header (length p)).again (part_xid, (r.zxid, r.code)) r.behind r.headed.fits in
    ap (λ x. elim (later_arriving (part_waits b ∷ ps) (length p) x) [
      | Ok arrived ↦ taken_of last arrived
      | Err fault ↦
          Dropped (Talked fault)
    ]) found
    ∙ ap (λ t. cond t (Takes_in (Sets_watches b r.zxid)) (Dropped (WatchesRefused r.code))) (other_than r.code (pos 0) r.other)

-- a call that is refused is answered so, whatever the zxid
pub reads_denial : (ps : List Pending) (last : ℤ) (n ticket : ℕ) (q : Question) (zxid code : ℤ) (p behind : List ℕ)
    → IsOther code → IsHeaded (pos n) zxid code p behind
    → reading Connected (record { xid = pos n; waiting = Call_waits ticket q } ∷ ps) last p
    ≡ Takes_in (Answers_call ticket q zxid (Refused code))
unfolding arriving
reads_denial ps last n ticket q zxid code p behind other headed =
    let found = ap (jute_reading reply_header (length p)) headed.whole
    ∙ (reads reply_header (length p)).again (pos n, (zxid, code)) behind headed.fits in
    ap (λ x. elim (later_arriving (record { xid = pos n; waiting = Call_waits ticket q } ∷ ps) (length p) x) [
      | Ok arrived ↦
          taken_of last arrived
      | Err fault ↦ Dropped (Talked fault)
    ]) found
    ∙ ap (λ b. elim (cond b (call_arriving ticket q zxid (result_of q code (length p) behind)) (Err (OtherXid (pos n) (pos n)))) [
      | Ok
          arrived ↦ taken_of last arrived
      | Err fault ↦ Dropped (Talked fault)
    ]) ((Decides-int_eq (pos n) (pos n)).1 refl)
    ∙ ap (λ x. elim (call_arriving ticket q zxid x) [ Ok arrived ↦ taken_of last arrived | Err fault ↦ Dropped (Talked fault) ])
    (ap (λ b. if b then record_of q (length p) behind else (if int_eq code (negsuc 100) then Ok NoNode else Ok (Refused code)))
    (other_than code (pos 0) other.0) ∙ ap (λ b. if b then Ok NoNode else Ok (Refused code)) (other_than code (negsuc 100) other.1))
    ∙ ap (λ b. cond (b && int_lt zxid last) (Dropped (Behind last zxid)) (Takes_in (Answers_call ticket q zxid (Refused code))))
    (leaves_is q (Refused code) ∙ ap (λ o. is_some o) (left_refused q code))
