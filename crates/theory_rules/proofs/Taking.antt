-- A server that takes a transaction, or processes the request that stands next: for each of these steps, that its entry may stand there.
use Rattle.std.proofs.Common.{ℕ, ℤ, pos, true, false, ◌≡◌, ◌≤◌, ◌<◌, ◌^◌, List, [], ◌∷◌, ◌++◌, map, length, refl, sym, subst, ◌∙◌}
use Rattle.std.specs.Prelude.{int_lt, ◌≢◌, Bool}
use Rattle.std.specs.List.{AllByRecursion}
use Rattle.zk_nodes.specs.History.{History}
use Rattle.zk_watches.specs.Lists.{Lists}
use Rattle.zk_records.specs.Response.{Response, ResponseFits, EndsPayload, response_spelling, IsPayload as IsResponse}
use Rattle.zk_conversation.specs.Calls.{ping_xid}
use Rattle.zk_conversation.specs.Results.{response_timeout}
use Rattle.zk_turns.specs.Turns.{Start}
use Rattle.zk_turns.specs.Taken.{past_of}
use Rattle.zk_laws.specs.Server.{Notice, AreSent, fires_all, part_tells, tree_held, zxid_held}
use Rattle.zk_laws.specs.Messages.{Request, Connect, Restore, Ping, Watches_set}
use Rattle.zk_laws.specs.ServerSteps.{Stage, Waiting, Serving, Ended, ServerStep, Advances, Admits, Refuses, Restores, Pongs, MayDo}
use Rattle.zk_laws.specs.ServerSteps.{messages_by, changes_next}
use Rattle.zk_laws.specs.Served.{Sent, Entry, ArePayloads, first_xid, items_in, unread, wire_of}
use Rattle.theory_rules.specs.Next.{end_of, Reaches, Awaits, CanTake, headed, IsSendable, zxid_of, notice_payload, IsTellable}
use Rattle.theory_rules.specs.Told.{AllTell}
use Rattle.theory_rules.proofs.Spelled.{headed_so, notices_spelled, notices_alone, all_tell_more, all_tell_alone}

-- the request that stands next is processed
pub serves : (h : History) (start : Start) (entries : List Entry) (stage : Stage) (request : Request) (xid : ℤ) (step : ServerStep)
    (payloads : List (List ℕ)) → Awaits h start entries stage request xid
    → ((others : List Request) → MayDo h step (end_of h entries) (request ∷ others))
    → ArePayloads xid (messages_by h step (end_of h entries).place) payloads → CanTake h start entries step payloads
serves h start entries stage request xid step payloads a may told = (
  record {
    going = a.reaches.going;
    may = subst (λ (waiting : List Sent). MayDo h step (end_of h entries) (map (λ sent. sent.request) waiting)) (sym a.next)
        (may (map (λ sent. sent.request) a.others));
    told = subst (λ (waiting : List Sent). ArePayloads (first_xid waiting) (messages_by h step (end_of h entries).place) payloads)
        (sym a.next) told;
  },
  a.reaches.serving,
)

pub pongs : (h : History) (start : Start) (entries : List Entry) (xid zxid err : ℤ) (behind : List ℕ)
    → Awaits h start entries Serving Ping xid → IsSendable ping_xid zxid err behind
    → CanTake h start entries Pongs (headed ping_xid zxid err behind ∷ [])
pongs h start entries xid zxid err behind a can =
    serves h start entries Serving Ping xid Pongs (headed ping_xid zxid err behind ∷ []) a (λ others. (a.reaches.there, refl))
    (can.small, (zxid, err, behind, headed_so ping_xid zxid err behind can.fits), tt)

pub advances : (h : History) (start : Start) (entries : List Entry) (stage : Stage) (sent : List Notice) (zxid err : ℤ)
    → Reaches h start entries stage → stage ≢ Ended
    → (end_of h entries).place < length h.transactions
    → AreSent (fires_all (changes_next h (end_of h entries).place) (end_of h entries).watches) sent
    → AllByRecursion (IsTellable zxid err) sent → CanTake h start entries (Advances sent) (map (notice_payload zxid err) sent)
advances h start entries stage sent zxid err r on low all tells = (
  record {
    going = r.going;
    may = (λ ended. on (sym r.there ∙ ended), low, all);
    told = notices_alone (first_xid (unread start (past_of start (items_in entries)) (wire_of h entries))) zxid err sent tells;
  },
  r.serving,
)

pub restores : (h : History) (start : Start) (entries : List Entry) (is_last : Bool) (relative : ℕ) (part : Lists) (xid : ℤ)
    (sent : List Notice) (zxid err : ℤ) (behind : List ℕ)
    → Awaits h start entries Serving (Restore is_last relative part) xid
    → AreSent (part_tells relative (tree_held h (end_of h entries).place) part) sent
    → AllByRecursion (IsTellable zxid err) sent → IsSendable xid (zxid_of h entries) (pos 0) behind
    → CanTake h start entries (Restores is_last relative part sent)
    (map (notice_payload zxid err) sent ++ headed xid (zxid_of h entries) (pos 0) behind ∷ [])
restores h start entries is_last relative part xid sent zxid err behind a all tells can =
    serves h start entries Serving (Restore is_last relative part) xid (Restores is_last relative part sent)
    (map (notice_payload zxid err) sent ++ headed xid (zxid_of h entries) (pos 0) behind ∷ []) a
    (λ others. (a.reaches.there, refl, all))
    (notices_spelled xid zxid err sent (Watches_set is_last (zxid_held h (end_of h entries).place) ∷ [])
    (headed xid (zxid_of h entries) (pos 0) behind ∷ []) tells
    (can.small, (behind, headed_so xid (zxid_of h entries) (pos 0) behind can.fits), tt))

-- a ConnectRequest is answered: the session is accepted, or it has expired
module _ (h : History) (start : Start) (entries : List Entry) (seen : ℕ) (xid : ℤ) (response : Response) (ignored : List ℕ)
    (a : Awaits h start entries Waiting (Connect seen) xid)
    (low : seen ≤ zxid_held h (end_of h entries).place) (fits : ResponseFits response) (ends : EndsPayload response.read_only ignored)
    (small : length (response_spelling response ++ ignored) < 2 ^ 31) where
  response_so : IsResponse (response_spelling response ++ ignored) response ignored
  response_so = record { fits = fits; whole = refl; ends = ends }

  pub admits : int_lt (pos 0) (response_timeout response) ≡ true
      → CanTake h start entries (Admits seen) ((response_spelling response ++ ignored) ∷ [])
  admits above =
      serves h start entries Waiting (Connect seen) xid (Admits seen) ((response_spelling response ++ ignored) ∷ []) a
      (λ others. (a.reaches.there, refl, low)) (small, (response, ignored, response_so, above), tt)

  pub refuses : int_lt (pos 0) (response_timeout response) ≡ false
      → CanTake h start entries (Refuses seen) ((response_spelling response ++ ignored) ∷ [])
  refuses above =
      serves h start entries Waiting (Connect seen) xid (Refuses seen) ((response_spelling response ++ ignored) ∷ []) a
      (λ others. (a.reaches.there, refl, low)) (small, (response, ignored, response_so, above), tt)

-- ---- notices with any numbers, and any bytes after

pub tells_of_changes : (h : History) (start : Start) (entries : List Entry) (stage : Stage) (sent : List Notice) (payloads : List (List ℕ))
    → Reaches h start entries stage → stage ≢ Ended
    → (end_of h entries).place < length h.transactions
    → AreSent (fires_all (changes_next h (end_of h entries).place) (end_of h entries).watches) sent → AllTell sent payloads
    → CanTake h start entries (Advances sent) payloads
tells_of_changes h start entries stage sent payloads r on low all tells = (
  record {
    going = r.going;
    may = (λ ended. on (sym r.there ∙ ended), low, all);
    told = all_tell_alone (first_xid (unread start (past_of start (items_in entries)) (wire_of h entries))) sent payloads tells;
  },
  r.serving,
)

pub tells_of_parts : (h : History) (start : Start) (entries : List Entry) (is_last : Bool) (relative : ℕ) (part : Lists) (xid : ℤ)
    (sent : List Notice) (payloads : List (List ℕ)) (behind : List ℕ)
    → Awaits h start entries Serving (Restore is_last relative part) xid
    → AreSent (part_tells relative (tree_held h (end_of h entries).place) part) sent
    → AllTell sent payloads → IsSendable xid (zxid_of h entries) (pos 0) behind
    → CanTake h start entries (Restores is_last relative part sent) (payloads ++ headed xid (zxid_of h entries) (pos 0) behind ∷ [])
tells_of_parts h start entries is_last relative part xid sent payloads behind a all tells can =
    serves h start entries Serving (Restore is_last relative part) xid (Restores is_last relative part sent)
    (payloads ++ headed xid (zxid_of h entries) (pos 0) behind ∷ []) a
    (λ others. (a.reaches.there, refl, all))
    (all_tell_more xid sent payloads (Watches_set is_last (zxid_held h (end_of h entries).place) ∷ [])
    (headed xid (zxid_of h entries) (pos 0) behind ∷ []) tells
    (can.small, (behind, headed_so xid (zxid_of h entries) (pos 0) behind can.fits), tt))
