-- Replies to what waits.
use Rattle.std.proofs.Common.{◌≡◌, ◌<◌, ◌≤◌, ℕ, List, [], ◌∷◌, true, length, drop, map, get_or, Ok, refl, ap, sym, arith}
use Rattle.std.specs.Ordering.{int_eq}
use Rattle.std.proofs.lemmas.Bool.Decides.{Decides-int_eq}
use Rattle.zk_records.specs.declared.reply_header.ReplyHeader.{ReplyHeader}
use Rattle.zk_conversation.specs.declared.counts.Counts.{Counts}
use Rattle.zk_conversation.specs.Results.{Result as Found}
use Rattle.zk_conversation.specs.Pending.{Pending, Waiting, Part_waits, Call_waits}
use Rattle.zk_conversation.specs.inner.Counted.{counts_without}
use Rattle.zk_conversation.specs.Arriving.{call_arriving, reply_arriving, oldest_arriving, pending_after}
use Rattle.zk_conversation.specs.inner.Lent.{awaited_result}
use Rattle.zk_conversation.specs.inner.Arrives.{arrival_for}
use Rattle.zk_limits.specs.declared.limits.TheConstants.{MOST_PENDING}

-- what waits gets what was read of its reply
reply-read : (waiting : Waiting) (header : ReplyHeader) (end : ℕ) (bytes : List ℕ) (found : Found)
    → awaited_result waiting header.err end bytes ≡ Ok found
    → reply_arriving waiting header end bytes ≡ Ok (arrival_for waiting header found)
reply-read (Part_waits last) header end bytes found e = refl
reply-read (Call_waits ticket question) header end bytes found e = ap (call_arriving ticket question header.zxid) e

-- the oldest request gets it, where the xid is its own
pub oldest-read : (oldest : Pending) (header : ReplyHeader) (end : ℕ) (bytes : List ℕ) (found : Found) (more : List Pending)
    → oldest.xid ≡ header.xid
    → awaited_result oldest.waiting header.err end bytes ≡ Ok found
    → oldest_arriving (oldest ∷ more) header end bytes ≡ Ok (arrival_for oldest.waiting header found)
oldest-read oldest header end bytes found more same e =
    let own : int_eq oldest.xid header.xid ≡ true = (Decides-int_eq oldest.xid header.xid).1 same in
    rw own (reply-read oldest.waiting header end bytes found e)

first-of : {X : Type 0} (xs : List X) (x : X) → 0 < length xs → x ≡ get_or xs 0 x → xs ≡ x ∷ drop 1 xs
first-of [] x some e = absurd (omega arith)
first-of (y ∷ ys) x some e = ap (λ z. z ∷ ys) (sym e)

-- a list whose first element is known, seen by view
pub viewed-first : {X : Type 0} (view : X → Pending) (xs : List X) (x : X)
    → 0 < length xs → x ≡ get_or xs 0 x → map view xs ≡ view x ∷ map view (drop 1 xs)
viewed-first view xs x some e = ap (map view) (first-of xs x some e)

pub none-left : {X : Type 0} (xs : List X) → length xs ≤ 0 → xs ≡ []
none-left [] none = refl
none-left (x ∷ xs) none = absurd (omega arith)

pub fewer : (counts : Counts) (waiting : Waiting) → counts.calls ≤ MOST_PENDING → let left = counts_without counts waiting in
    left.calls ≤ MOST_PENDING
fewer counts (Part_waits last) few = few
fewer counts (Call_waits ticket question) few = omega arith

pub answer-takes : (waiting : Waiting) (header : ReplyHeader) (found : Found) (pending : List Pending)
    → pending_after (arrival_for waiting header found) pending ≡ drop 1 pending
answer-takes (Part_waits last) header found pending = refl
answer-takes (Call_waits ticket question) header found pending = refl
