-- What holds in each case holds of what the definitions choose: one lemma for each way in which they choose.
use Rattle.std.proofs.Common.{ℕ, negsuc, Bool, true, false, cond, ◌&&◌, List, [], ◌∷◌, Ok}
use Rattle.std.specs.Prelude.{if◌then◌else◌, nat_le, ◌*◌, ◌-◌, Result as Reading}
use Rattle.std.specs.Ordering.{int_eq}
use Rattle.zk_jute.specs.Reading.{reading}
use Rattle.zk_records.specs.Layouts.{watcher_event}
use Rattle.zk_records.specs.declared.reply_header.ReplyHeader.{ReplyHeader}
use Rattle.zk_session.specs.declared.states.State.{State}
use Rattle.zk_session.specs.declared.states.State.TheVariants.{Connecting, Connected}
use Rattle.zk_conversation.specs.declared.fault.TalkFault.{TalkFault}
use Rattle.zk_conversation.specs.Pending.{Pending}
use Rattle.zk_conversation.specs.Arriving.{Arrived, Pong, Skipped, notice_arriving, oldest_arriving, header_arriving}
use Rattle.zk_turns.specs.Turns.{Silent}
use Rattle.zk_turns.specs.Past.{Happening, Dropped, Pinged, is_talking}
use Rattle.zk_turns.specs.View.{View}
use Rattle.zk_turns.specs.Taken.{if_open, due, timeout_of}

pub by_cond : {A : Type 0} (P : A → Type 0) (b : Bool) (x y : A) → P x → P y → P (cond b x y)
by_cond P true x y p q = p
by_cond P false x y p q = q

-- what is read after a header
pub by_header : (P : Reading Arrived TalkFault → Type 0) (ps : List Pending) (header : ReplyHeader) (end : ℕ) (bytes : List ℕ)
    → P (notice_arriving (reading watcher_event end bytes)) → P (Ok Pong) → P (Ok Skipped) → P (oldest_arriving ps header end bytes)
    → P (header_arriving ps header end bytes)
by_header P ps header end bytes notice pong skipped oldest =
    let by_oldest : Reading Arrived TalkFault = if int_eq header.xid (negsuc 3) then Ok Skipped else oldest_arriving ps header end bytes in
    let by_pong : Reading Arrived TalkFault = if int_eq header.xid (negsuc 1) then Ok Pong else by_oldest in
    by_cond P (int_eq header.xid (negsuc 0)) (notice_arriving (reading watcher_event end bytes)) by_pong notice
    (by_cond P (int_eq header.xid (negsuc 1)) (Ok Pong) by_oldest pong
    (by_cond P (int_eq header.xid (negsuc 3)) (Ok Skipped) (oldest_arriving ps header end bytes) skipped oldest))

module _ (P : List Happening → Type 0) where
  -- what happens on an open connection alone
  pub by_open : (state : State) (more : List Happening) → P [] → P more → P (if_open state more)
  by_open Connecting more none some = some
  by_open Connected more none some = some
  by_open _ more none some = none

  -- what falls due
  pub by_due : (view : View) (now : ℕ) → P (Dropped Silent ∷ []) → P (Pinged ∷ []) → P [] → P (due view now)
  by_due view now silent pinged none =
      by_cond P (nat_le (2 * timeout_of view) (3 * (now - view.moments.heard))) _ _ silent (by view.standing.state)
    where
      by : (state : State) → P (if is_talking state && nat_le (timeout_of view) (3 * (now - view.moments.sent)) then Pinged ∷ [] else [])
      by Connected = by_cond P (nat_le (timeout_of view) (3 * (now - view.moments.sent))) (Pinged ∷ []) [] pinged none
      by _ = none
