-- Which xids the calls have.
use Rattle.std.specs.Prelude.{◌≡◌, ◌≢◌, ◌≤◌, ◌<◌, ◌+◌, ℕ, pos, false, List, [], ◌∷◌, None}
use Rattle.zk_frames.specs.Frame.{frame}
use Rattle.zk_conversation.specs.Calls.{Call, call_payload, ping_xid, part_xid}
use Rattle.zk_turns.specs.Turns as turns
use Rattle.zk_turns.specs.Turns.{Turn, Start, Item, Send}
use Rattle.zk_turns.specs.Past.{Past, Happening, Asked, xid_of}
use Rattle.zk_turns.specs.View.{View}
use Rattle.zk_turns.specs.Taken.{past_of, refusal}
use Rattle.zk_turns.specs.Rule.{Rule, Stands}

-- The next call's xid is 1 where none was sent.
abbrev pub FirstIsOne : Type 0
FirstIsOne = xid_of [] ≡ 1

abbrev pub AreInRange : Type 0
AreInRange = (past : Past) → (1 ≤ xid_of past) × (xid_of past ≤ 2147483647)

abbrev pub RunOn : Type 0
RunOn = (ticket : ℕ) (call : Call) (past : Past) → xid_of past < 2147483647 → xid_of (Asked ticket call ∷ past) ≡ xid_of past + 1

abbrev pub BeginAgain : Type 0
BeginAgain = (ticket : ℕ) (call : Call) (past : Past) → xid_of past ≡ 2147483647 → xid_of (Asked ticket call ∷ past) ≡ 1

-- Nothing but a call that is sent moves it: no refusal, no ping, no cut and no new connection.
abbrev pub CallsAloneMove : Type 0
CallsAloneMove = (happening : Happening) (past : Past) → ((ticket : ℕ) (call : Call) → happening ≢ Asked ticket call)
    → xid_of (happening ∷ past) ≡ xid_of past

-- A call that is not refused goes out with it.
abbrev pub GoesOut : Type 0
GoesOut = (ticket : ℕ) (call : Call) (view after : View) (turn : Turn) → Rule view turn after → turn.input ≡ turns.Call ticket call
    → refusal view call ≡ None
    → turn.outputs ≡ Send (frame (call_payload (pos view.xid) call)) ∷ []

-- What a client that goes on has as its next xid is this one.
abbrev pub IsShown : Type 0
IsShown = (start : Start) (items : List Item) (view : View) → Stands start items view → view.standing.halted ≡ false
    → view.xid ≡ xid_of (past_of start items)

-- No call has the xid of a ping or of a part of setWatches.
abbrev pub AreApart : Type 0
AreApart = (past : Past) → (pos (xid_of past) ≢ ping_xid) × (pos (xid_of past) ≢ part_xid)
