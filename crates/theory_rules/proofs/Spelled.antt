-- Payloads that spell the messages of a server, by the fields of their headers; and the orders in which notices may be sent, as counts that
-- are the same in any order.
use Rattle.std.proofs.Common.{ℕ, zero, suc, ℤ, negsuc, ◌≡◌, ◌<◌, ◌+◌, List, [], ◌∷◌, ◌++◌, map, refl, sym, arith, Some}
use Rattle.std.specs.List.{AllByRecursion}
use Rattle.std.specs.Prelude.{pos}
use Rattle.std.proofs.lemmas.Int.{ints}
use Rattle.std.proofs.lemmas.List.{append-nil}
use Rattle.zk_jute.specs.Layout.{Layout, Value}
use Rattle.zk_jute.specs.Spelling.{spelling, Fits}
use Rattle.zk_records.specs.declared.event.Event.{Event}
use Rattle.zk_records.specs.declared.event.Event.TheVariants.{Created, Deleted, DataChanged, ChildrenChanged}
use Rattle.zk_records.specs.Events.{event_number}
use Rattle.zk_records.specs.Layouts.{reply_header, watcher_event}
use Rattle.zk_nodes.specs.DataStats.{data_stat_of}
use Rattle.zk_nodes.specs.History.{Node, node_fields}
use Rattle.zk_conversation.specs.Results.{stat_of}
use Rattle.zk_turns.specs.Spelled.{IsHeaded, HasRecord}
use Rattle.zk_laws.specs.Server.{Notice, times, AreSent}
use Rattle.zk_laws.specs.Messages.{Message, Notifies}
use Rattle.zk_laws.specs.Served.{IsPayload, ArePayloads}
use Rattle.theory_rules.specs.Told.{Tells, AllTell}
use Rattle.theory_rules.specs.Next.{headed, notice_payload, IsTellable, stat_value}

pub headed_so : (xid zxid err : ℤ) (behind : List ℕ) → Fits reply_header (xid, (zxid, err))
    → IsHeaded xid zxid err (headed xid zxid err behind) behind
headed_so xid zxid err behind fits = record { fits = fits; whole = refl }

pub recorded_so : (layout : Layout) (value : Value layout) (ignored : List ℕ)
    → Fits layout value → HasRecord layout value (spelling layout value ++ ignored)
recorded_so layout value ignored fits = record { ignored = ignored; fits = fits; whole = refl }

event_fits : (notice : Notice) (zxid err : ℤ)
    → IsTellable zxid err notice → Fits watcher_event (event_number notice.event, (pos 3, Some notice.path))
event_fits notice zxid err tells = go notice.event
  where
    go : (event : Event) → Fits watcher_event (event_number event, (pos 3, Some notice.path))
    go Created = (omega (arith, ints), (omega (arith, ints), tells.path))
    go Deleted = (omega (arith, ints), (omega (arith, ints), tells.path))
    go DataChanged = (omega (arith, ints), (omega (arith, ints), tells.path))
    go ChildrenChanged = (omega (arith, ints), (omega (arith, ints), tells.path))

pub notice_spelled : (xid zxid err : ℤ) (notice : Notice)
    → IsTellable zxid err notice → IsPayload xid (Notifies notice) (notice_payload zxid err notice)
notice_spelled xid zxid err notice tells =
    let value : Value watcher_event = (event_number notice.event, (pos 3, Some notice.path)) in
    let behind : List ℕ = spelling watcher_event value in (
      zxid,
      err,
      behind,
      headed_so (negsuc 0) zxid err behind tells.fits,
      pos 3,
      Some notice.path,
      record { ignored = []; fits = event_fits notice zxid err tells; whole = sym (append-nil behind) },
      refl,
    )

pub notices_spelled : (xid zxid err : ℤ) (sent : List Notice) (messages : List Message) (payloads : List (List ℕ))
    → AllByRecursion (IsTellable zxid err) sent → ArePayloads xid messages payloads
    → ArePayloads xid (map Notifies sent ++ messages) (map (notice_payload zxid err) sent ++ payloads)
notices_spelled xid zxid err [] messages payloads all told = told
notices_spelled xid zxid err (notice ∷ sent) messages payloads all told =
    (all.0.small, notice_spelled xid zxid err notice all.0, notices_spelled xid zxid err sent messages payloads all.1 told)

pub notices_alone : (xid zxid err : ℤ) (sent : List Notice)
    → AllByRecursion (IsTellable zxid err) sent → ArePayloads xid (map Notifies sent) (map (notice_payload zxid err) sent)
notices_alone xid zxid err [] all = tt
notices_alone xid zxid err (notice ∷ sent) all =
    (all.0.small, notice_spelled xid zxid err notice all.0, notices_alone xid zxid err sent all.1)

tells_so : (xid : ℤ) (notice : Notice) (payload : List ℕ) → Tells notice payload → IsPayload xid (Notifies notice) payload
tells_so xid notice payload t =
    let value : Value watcher_event = (event_number notice.event, (t.state, t.path)) in
    let behind : List ℕ = spelling watcher_event value ++ t.ignored in (
      t.zxid,
      t.err,
      behind,
      record { fits = t.header; whole = t.whole },
      t.state,
      t.path,
      record { ignored = t.ignored; fits = t.event; whole = refl },
      t.named,
    )

pub all_tell_more : (xid : ℤ) (sent : List Notice) (payloads : List (List ℕ)) (messages : List Message) (more : List (List ℕ))
    → AllTell sent payloads → ArePayloads xid messages more
    → ArePayloads xid (map Notifies sent ++ messages) (payloads ++ more)
all_tell_more xid [] [] messages more all told = told
all_tell_more xid [] (payload ∷ payloads) messages more all told = absurd all
all_tell_more xid (notice ∷ sent) [] messages more all told = absurd all
all_tell_more xid (notice ∷ sent) (payload ∷ payloads) messages more all told =
    (all.0.small, tells_so xid notice payload all.0, all_tell_more xid sent payloads messages more all.1 told)

pub all_tell_alone : (xid : ℤ) (sent : List Notice) (payloads : List (List ℕ))
    → AllTell sent payloads → ArePayloads xid (map Notifies sent) payloads
all_tell_alone xid [] [] all = tt
all_tell_alone xid [] (payload ∷ payloads) all = absurd all
all_tell_alone xid (notice ∷ sent) [] all = absurd all
all_tell_alone xid (notice ∷ sent) (payload ∷ payloads) all =
    (all.0.small, tells_so xid notice payload all.0, all_tell_alone xid sent payloads all.1)

-- ---- the orders of notices

times_append : (n : Notice) (xs ys : List Notice) → times n (xs ++ ys) ≡ times n xs + times n ys
times_append n [] ys = omega arith
times_append n (x ∷ xs) ys = let r = times_append n xs ys in omega (arith, r)

pub all_sent : (fired : List Notice) → AreSent fired fired
all_sent fired n = (omega arith, λ some. some)

pub swapped_sent : (first second : List Notice) → AreSent (first ++ second) (second ++ first)
swapped_sent first second n = let a = times_append n first second in let b = times_append n second first in
    (omega (arith, a, b), λ some. omega (arith, a, b, some))

pub joined_sent : (fired sent more others : List Notice)
    → AreSent fired sent → AreSent more others → AreSent (fired ++ more) (sent ++ others)
joined_sent f s g t a b n =
    let u = times_append n f g in
    let v = times_append n s t in
    let p = (a n).0 in
    let q = (b n).0 in
    (omega (arith, u, v, p, q), λ some. go (times n f) refl some u v)
  where
    go : (k : ℕ) → times n f ≡ k → 0 < times n (f ++ g)
        → times n (f ++ g) ≡ times n f + times n g → times n (s ++ t) ≡ times n s + times n t → 0 < times n (s ++ t)
    go zero e some u v = let r = (b n).1 (omega (arith, some, u, e)) in omega (arith, r, v)
    go (suc k) e some u v = let r = (a n).1 (omega (arith, e)) in omega (arith, r, v)

pub once_sent : (notice : Notice) → AreSent (notice ∷ notice ∷ []) (notice ∷ [])
once_sent notice n = (omega arith, λ some. omega (arith, some))

-- ---- the Stat of a node

pub stat_fields : (node : Node) (cversion acl_version children : ℤ)
    → data_stat_of (stat_of (stat_value node cversion acl_version children)) ≡ node_fields node
stat_fields node cversion acl_version children = refl

pub stat_pzxid : (node : Node) (cversion acl_version children : ℤ)
    → (stat_of (stat_value node cversion acl_version children)).pzxid ≡ pos node.pzxid
stat_pzxid node cversion acl_version children = refl
