-- A schedule stays one when the history goes on: what a server holds is a beginning of the history, and transactions that are added leave
-- each beginning as it was.
use Rattle.std.proofs.Common.{ℕ, zero, suc, ◌≡◌, ◌<◌, ◌≤◌, ◌+◌, true, List, [], ◌∷◌, ◌++◌, refl, ap, sym, ◌∙◌, subst, arith, map, take}
use Rattle.std.proofs.Common.{drop, length, Option, Some, None}
use Rattle.std.specs.Bool.{⊤}
use Rattle.std.specs.Prelude.{slice_get}
use Rattle.std.specs.List.{flat_map}
use Rattle.zk_frames.specs.Frame.{frame}
use Rattle.zk_nodes.specs.History.{Transaction, Change, History, Tree, after}
use Rattle.zk_conversation.specs.Calls as call
use Rattle.zk_conversation.specs.Calls.{Call}
use Rattle.zk_conversation.specs.Results.{Result, NoNode, Found, Read, Listing, Made, Done}
use Rattle.zk_turns.specs.Turns.{Start, Item, Turned, Forgets, Halts, Input, Bytes, Cut, Now, Call as Calling, Opened as Opening}
use Rattle.zk_turns.specs.Past.{Past}
use Rattle.zk_turns.specs.Taken.{past_of}
use Rattle.zk_laws.specs.Server.{held, tree_held, zxid_held, Gives, AreSent, fires_all, leaves_set_all}
use Rattle.zk_laws.specs.Messages.{Message, Request}
use Rattle.zk_laws.specs.ServerSteps.{ServerEnd, ServerStep, Advances, Admits, Refuses, Answers, Restores, Pongs, changes_next, MayDo}
use Rattle.zk_laws.specs.ServerSteps.{messages_by, end_after}
use Rattle.zk_laws.specs.Served.{Entry, Goes_on, Serves, Wire, new_wire, wire_of, wire_on, wire_past, items_in, MayServe, IsServing, Served}
use Rattle.zk_laws.specs.Served.{ArePayloads, first_xid, unread, is_going}
use Rattle.theory_serving.specs.GoingOn.{GoesOn}

-- these transactions more
abbrev pub longer : History → List Transaction → History
longer h more = record { first = h.first; transactions = h.transactions ++ more }

take_more : (ts more : List Transaction) (n : ℕ) → n ≤ length ts → take n (ts ++ more) ≡ take n ts
take_more ts more zero low = refl
take_more [] more (suc n) low = absurd (omega (arith, low))
take_more (t ∷ ts) more (suc n) low = ap (λ (xs : List Transaction). t ∷ xs) (take_more ts more n (omega (arith, low)))

get_more : (ts more : List Transaction) (n : ℕ) → n < length ts → slice_get (ts ++ more) n ≡ slice_get ts n
get_more [] more n low = absurd (omega (arith, low))
get_more (t ∷ ts) more zero low = refl
get_more (t ∷ ts) more (suc n) low = get_more ts more n (omega (arith, low))

length_more : (ts more : List Transaction) → length ts ≤ length (ts ++ more)
length_more [] more = omega arith
length_more (t ∷ ts) more = let r = length_more ts more in omega (arith, r)

pub held_more : (h : History) (more : List Transaction) (place : ℕ)
    → place ≤ length h.transactions → held (longer h more) place ≡ held h place
held_more h more place low = take_more h.transactions more place low

tree_more : (h : History) (more : List Transaction) (place : ℕ)
    → place ≤ length h.transactions → tree_held (longer h more) place ≡ tree_held h place
tree_more h more place low = ap (λ (ts : List Transaction). after ts h.first) (held_more h more place low)

zxid_more : (h : History) (more : List Transaction) (place : ℕ)
    → place ≤ length h.transactions → zxid_held (longer h more) place ≡ zxid_held h place
zxid_more h more place low = rw (held_more h more place low) refl

changes_more : (h : History) (more : List Transaction) (place : ℕ)
    → place < length h.transactions → changes_next (longer h more) place ≡ changes_next h place
changes_more h more place low =
    ap (λ (o : Option Transaction). elim o [ None ↦ [] | Some one ↦ one.changes ]) (get_more h.transactions more place low)

gives_more : (h : History) (more : List Transaction) (place : ℕ) → place ≤ length h.transactions → (call : Call) (result : Result)
    → Gives h place call result → Gives (longer h more) place call result
gives_more h more place low (call.Exists path watch) NoNode g = rw (held_more h more place low) g
gives_more h more place low (call.Exists path watch) (Found stat) g = rw (held_more h more place low) g
gives_more h more place low (call.GetData path watch) NoNode g = rw (held_more h more place low) g
gives_more h more place low (call.GetData path watch) (Read bytes stat) g = rw (held_more h more place low) g
gives_more h more place low (call.GetChildren path watch) NoNode g = rw (held_more h more place low) g
gives_more h more place low (call.GetChildren path watch) (Listing names stat) g = rw (held_more h more place low) g
gives_more h more place low (call.SetData path content version) (Found stat) g = rw (held_more h more place low) g
gives_more h more place low (call.Create path content mode) (Made at) g = rw (held_more h more place low) g
gives_more h more place low (call.Delete path version) Done g = rw (held_more h more place low) g
gives_more h more place low asked result g = g

may_more : (h : History) (more : List Transaction) (step : ServerStep) (server : ServerEnd) (requests : List Request)
    → server.place ≤ length h.transactions
    → MayDo h step server requests → MayDo (longer h more) step server requests
may_more h more (Advances sent) server requests low m =
    let longer_is = length_more h.transactions more in
    let room : server.place < length h.transactions = m.1 in (
      m.0,
      omega (arith, room, longer_is),
      subst (λ (cs : List Change). AreSent (fires_all cs server.watches) sent) (sym (changes_more h more server.place room)) m.2,
    )
may_more h more (Admits seen) server requests low m = rw (held_more h more server.place low) m
may_more h more (Refuses seen) server requests low m = rw (held_more h more server.place low) m
may_more h more (Answers asked result) server requests low m = (m.0, m.1, gives_more h more server.place low asked result m.2)
may_more h more (Restores is_last relative part sent) server requests low m = rw (held_more h more server.place low) m
may_more h more Pongs server requests low m = m

says_more : (h : History) (more : List Transaction) (step : ServerStep) (place : ℕ)
    → place ≤ length h.transactions → messages_by (longer h more) step place ≡ messages_by h step place
says_more h more (Advances sent) place low = refl
says_more h more (Admits seen) place low = refl
says_more h more (Refuses seen) place low = refl
says_more h more (Answers asked result) place low = rw (held_more h more place low) refl
says_more h more (Restores is_last relative part sent) place low = rw (held_more h more place low) refl
says_more h more Pongs place low = refl

ends_more : (h : History) (more : List Transaction) (step : ServerStep) (server : ServerEnd) (requests : List Request)
    → server.place ≤ length h.transactions
    → MayDo h step server requests → end_after (longer h more) step server ≡ end_after h step server
ends_more h more (Advances sent) server requests low m =
    ap (λ (cs : List Change). record server { place = suc server.place; watches = leaves_set_all cs server.watches })
    (changes_more h more server.place m.1)
ends_more h more (Admits seen) server requests low m = refl
ends_more h more (Refuses seen) server requests low m = refl
ends_more h more (Answers asked result) server requests low m = refl
ends_more h more (Restores is_last relative part sent) server requests low m = rw (held_more h more server.place low) refl
ends_more h more Pongs server requests low m = refl

place_after : (h : History) (step : ServerStep) (server : ServerEnd) (requests : List Request) → server.place ≤ length h.transactions
    → MayDo h step server requests → (end_after h step server).place ≤ length h.transactions
place_after h (Advances sent) server requests low m = let room : server.place < length h.transactions = m.1 in omega (arith, room)
place_after h (Admits seen) server requests low m = low
place_after h (Refuses seen) server requests low m = low
place_after h (Answers asked result) server requests low m = low
place_after h (Restores is_last relative part sent) server requests low m = low
place_after h Pongs server requests low m = low

-- what an input asks of where the server stands
abbrev pub MayCome : History → (place : ℕ) → Input → Past → Wire → Type 0
MayCome h place input past wire =
    elim input [
      | Opening ↦ place ≤ length h.transactions
      | Bytes bytes ↦ is_going past ≡ true
          → (rest : List ℕ) × (wire.coming ≡ bytes ++ rest)
      | _ ↦ ⊤
    ]

abbrev pub wire_with : (place : ℕ) → Input → Wire → Wire
wire_with place input wire =
    elim input [ Opening ↦ new_wire place | Bytes bytes ↦ record wire { coming = drop (length bytes) wire.coming } | _ ↦ wire ]

place_with : (h : History) (place : ℕ) (input : Input) (past : Past) (wire : Wire)
    → MayCome h place input past wire → wire.server.place ≤ length h.transactions
    → (wire_with place input wire).server.place ≤ length h.transactions
place_with h place Opening past wire m low = m
place_with h place Cut past wire m low = low
place_with h place (Bytes bytes) past wire m low = low
place_with h place (Now moment) past wire m low = low
place_with h place (Calling ticket asked) past wire m low = low

come_more : (h : History) (more : List Transaction) (place : ℕ) (input : Input) (past : Past) (wire : Wire)
    → MayCome h place input past wire → MayCome (longer h more) place input past wire
come_more h more place Opening past wire m = let longer_is = length_more h.transactions more in omega (arith, m, longer_is)
come_more h more place Cut past wire m = m
come_more h more place (Bytes bytes) past wire m = m
come_more h more place (Now moment) past wire m = m
come_more h more place (Calling ticket asked) past wire m = m

-- the server's place is one of the history
pub place_low : (h : History) (start : Start) (entries : List Entry)
    → IsServing h start entries → (wire_of h entries).server.place ≤ length h.transactions
place_low h start [] s = omega arith
place_low h start (Goes_on place (Turned turn) ∷ earlier) s =
    place_with h place turn.input (past_of start (items_in earlier)) (wire_of h earlier) s.0 (place_low h start earlier s.1)
place_low h start (Goes_on place Forgets ∷ earlier) s = place_low h start earlier s.1
place_low h start (Goes_on place Halts ∷ earlier) s = place_low h start earlier s.1
place_low h start (Serves step payloads ∷ earlier) s =
    place_after h step (wire_of h earlier).server (map (λ sent. sent.request)
    (unread start (past_of start (items_in earlier)) (wire_of h earlier))) (place_low h start earlier s.1) s.0.may

serves_more : (h : History) (more : List Transaction) (start : Start) (step : ServerStep) (payloads : List (List ℕ)) (past : Past)
    (wire : Wire) → wire.server.place ≤ length h.transactions
    → MayServe h start step payloads past wire → MayServe (longer h more) start step payloads past wire
serves_more h more start step payloads past wire low m = record {
  going = m.going;
  may = may_more h more step wire.server (map (λ sent. sent.request) (unread start past wire)) low m.may;
  told = subst (λ (ms : List Message). ArePayloads (first_xid (unread start past wire)) ms payloads)
      (sym (says_more h more step wire.server.place low)) m.told;
}

-- The servers end where they did.
pub wire_more : (h : History) (more : List Transaction) (start : Start) (entries : List Entry)
    → IsServing h start entries → wire_of (longer h more) entries ≡ wire_of h entries
wire_more h more start [] s = refl
wire_more h more start (Goes_on place item ∷ earlier) s = ap (wire_past place item) (wire_more h more start earlier s.1)
wire_more h more start (Serves step payloads ∷ earlier) s =
    let wire : Wire = wire_of h earlier in
    let same : end_after (longer h more) step wire.server ≡ end_after h step wire.server =
    ends_more h more step wire.server (map (λ sent. sent.request) (unread start (past_of start (items_in earlier)) wire))
    (place_low h start earlier s.1) s.0.may in
    ap (wire_on (longer h more) step payloads) (wire_more h more start earlier s.1)
    ∙ ap (λ (server : ServerEnd). record {
      server = server;
      processed = wire.processed + (elim step [ Advances sent ↦ 0 | _ ↦ 1 ]);
      coming = wire.coming ++ flat_map frame payloads;
    }) same

-- A schedule stays one.
pub serving_more : (h : History) (more : List Transaction) (start : Start) (entries : List Entry)
    → IsServing h start entries → IsServing (longer h more) start entries
serving_more h more start [] s = s
serving_more h more start (Goes_on place (Turned turn) ∷ earlier) s = (
  subst (λ (wire : Wire). MayCome (longer h more) place turn.input (past_of start (items_in earlier)) wire) (sym
      (wire_more h more start earlier s.1)) (come_more h more place turn.input (past_of start (items_in earlier)) (wire_of h earlier) s.0),
  serving_more h more start earlier s.1,
)
serving_more h more start (Goes_on place Forgets ∷ earlier) s = (s.0, serving_more h more start earlier s.1)
serving_more h more start (Goes_on place Halts ∷ earlier) s = (s.0, serving_more h more start earlier s.1)
serving_more h more start (Serves step payloads ∷ earlier) s = (
  subst (λ (wire : Wire). MayServe (longer h more) start step payloads (past_of start (items_in earlier)) wire)
      (sym (wire_more h more start earlier s.1))
      (serves_more h more start step payloads (past_of start (items_in earlier)) (wire_of h earlier) (place_low h start earlier s.1) s.0),
  serving_more h more start earlier s.1,
)

-- a history that goes on is one with transactions more
is_longer : (h later : History) (g : GoesOn h later) → longer h g.more ≡ later
is_longer h later g = sym (cc_ext h later g)
  where
    cc_ext : (h later : History) (g : GoesOn h later) → later ≡ longer h g.more
    cc_ext h later g =
        ap (λ (t : Tree). record { first = t; transactions = later.transactions }) g.first
        ∙ ap (λ (ts : List Transaction). record { first = h.first; transactions = ts }) g.transactions

pub goes_serving : (h later : History) (start : Start) (entries : List Entry)
    → GoesOn h later → IsServing h start entries → IsServing later start entries
goes_serving h later start entries g s =
    subst (λ (x : History). IsServing x start entries) (is_longer h later g) (serving_more h g.more start entries s)

pub goes_wire : (h later : History) (start : Start) (entries : List Entry)
    → GoesOn h later → IsServing h start entries → wire_of later entries ≡ wire_of h entries
goes_wire h later start entries g s =
    subst (λ (x : History). wire_of x entries ≡ wire_of h entries) (is_longer h later g) (wire_more h g.more start entries s)

pub goes_served : (h later : History) (start : Start) (items : List Item) → GoesOn h later → Served h start items → Served later start items
goes_served h later start items g s = record { entries = s.entries; whole = s.whole; may = goes_serving h later start s.entries g s.may }
