-- Steps over a history that goes on: step by step, since each looks only at transactions that are there already.
use Rattle.std.proofs.Common.{ℕ, zero, suc, ℤ, ◌≡◌, ◌≤◌, ◌<◌, ◌+◌, List, [], ◌∷◌, ◌++◌, drop, length, Option, Some, None, refl, ap, sym}
use Rattle.std.proofs.Common.{◌∙◌, subst, arith, inl, inr}
use Rattle.std.specs.Prelude.{slice_get, slice_index, slice_set}
use Rattle.std.specs.List.{AllByRecursion}
use Rattle.std.proofs.lemmas.List.{length-append}
use Rattle.std.proofs.lemmas.List.Elements.{All-set, All-from_recursion}
use Rattle.std.proofs.Math.ListN.{get_or-eq_default}
use Rattle.std.proofs.lemmas.Bool.{cases_lt}
use Rattle.zk_nodes.specs.History.{Transaction, Change, History, Tree, after}
use Rattle.zk_conversation.specs.Calls as call
use Rattle.zk_conversation.specs.Calls.{Call}
use Rattle.zk_conversation.specs.Questions.{question_of}
use Rattle.zk_conversation.specs.Results.{Result, Refused, Found, Made, Done}
use Rattle.zk_laws.specs.Server.{tree_held, Gives, Reads, AreSent, fires_all, leaves_set_all}
use Rattle.zk_laws.specs.Messages.{Message, Request}
use Rattle.zk_laws.specs.ServerSteps.{ServerEnd, ServerStep, Advances, Admits, Refuses, Answers, Restores, Pongs, changes_next, MayDo}
use Rattle.zk_laws.specs.ServerSteps.{messages_by, end_after}
use Rattle.zk_laws.specs.Served.{ArePayloads}
use Rattle.theory_serving.specs.GoingOn.{GoesOn}
use Rattle.theory_serving.proofs.GoingOn.{longer, held_more}
use Rattle.theory_serving.specs.Steps.{Step, used_by, Moves, ended_by}
use Rattle.theory_serving.specs.Shown.{AllTaken}

get_longer : (ts more : List Transaction) (n : ℕ) → n < length ts → slice_get (ts ++ more) n ≡ slice_get ts n
get_longer [] more n low = absurd (omega (arith, low))
get_longer (t ∷ ts) more zero low = refl
get_longer (t ∷ ts) more (suc n) low = get_longer ts more n (omega (arith, low))

module _ (h : History) (more : List Transaction) where
  tree_longer : (place : ℕ) → place ≤ length h.transactions → tree_held (longer h more) place ≡ tree_held h place
  tree_longer place low = ap (λ (ts : List Transaction). after ts h.first) (held_more h more place low)

  changes_longer : (place : ℕ) → place < length h.transactions → changes_next (longer h more) place ≡ changes_next h place
  changes_longer place low =
      ap (λ (o : Option Transaction). elim o [ None ↦ [] | Some one ↦ one.changes ]) (get_longer h.transactions more place low)

  gives_longer : (place : ℕ) → place ≤ length h.transactions → (asked : Call) (result : Result)
      → Gives h place asked result → Gives (longer h more) place asked result
  gives_longer place low (call.SetData path content version) (Found stat) g = rw (held_more h more place low) g
  gives_longer place low (call.Create path content mode) (Made at) g = rw (held_more h more place low) g
  gives_longer place low (call.Delete path version) Done g = rw (held_more h more place low) g
  gives_longer place low asked (Refused code) g = g
  gives_longer place low asked result g = subst (λ (t : Tree). Reads t (question_of asked) result) (sym (tree_longer place low)) g

  may_longer : (step : ServerStep) (server : ServerEnd) (asked : List Request)
      → server.place ≤ length h.transactions → MayDo h step server asked → MayDo (longer h more) step server asked
  may_longer (Advances sent) server asked low m =
      let grown = length-append h.transactions more in
      let room : server.place < length h.transactions = m.1 in (
        m.0,
        omega (arith, room, grown),
        subst (λ (cs : List Change). AreSent (fires_all cs server.watches) sent) (sym (changes_longer server.place room)) m.2,
      )
  may_longer (Admits seen) server asked low m = rw (held_more h more server.place low) m
  may_longer (Refuses seen) server asked low m = rw (held_more h more server.place low) m
  may_longer (Answers one result) server asked low m = (m.0, m.1, gives_longer server.place low one result m.2)
  may_longer (Restores is_last relative part sent) server asked low m = rw (held_more h more server.place low) m
  may_longer Pongs server asked low m = m

  says_longer : (step : ServerStep) (place : ℕ)
      → place ≤ length h.transactions → messages_by (longer h more) step place ≡ messages_by h step place
  says_longer (Answers one result) place low = rw (held_more h more place low) refl
  says_longer (Restores is_last relative part sent) place low = rw (held_more h more place low) refl
  says_longer _ place low = refl

  ends_longer : (step : ServerStep) (server : ServerEnd) (asked : List Request)
      → server.place ≤ length h.transactions → MayDo h step server asked → end_after (longer h more) step server ≡ end_after h step server
  ends_longer (Advances sent) server asked low m =
      ap (λ (cs : List Change). record server { place = suc server.place; watches = leaves_set_all cs server.watches })
      (changes_longer server.place m.1)
  ends_longer (Restores is_last relative part sent) server asked low m = rw (held_more h more server.place low) refl
  ends_longer _ server asked low m = refl

  place_step : (step : ServerStep) (server : ServerEnd) (asked : List Request)
      → server.place ≤ length h.transactions → MayDo h step server asked → (end_after h step server).place ≤ length h.transactions
  place_step (Advances sent) server asked low m = let room : server.place < length h.transactions = m.1 in omega (arith, room)
  place_step (Admits seen) server asked low m = low
  place_step (Refuses seen) server asked low m = low
  place_step (Answers one result) server asked low m = low
  place_step (Restores is_last relative part sent) server asked low m = low
  place_step Pongs server asked low m = low

  moves_longer : (xid : ℤ) (asked : List Request) (steps : List Step) (server : ServerEnd)
      → server.place ≤ length h.transactions → Moves h xid asked steps server → Moves (longer h more) xid asked steps server
  moves_longer xid asked [] server low m = tt
  moves_longer xid asked (one ∷ rest) server low m = (
    may_longer one.step server asked low m.0,
    subst (λ (ms : List Message). ArePayloads xid ms one.payloads) (sym (says_longer one.step server.place low)) m.1,
    subst (λ (s : ServerEnd). Moves (longer h more) xid (drop (used_by one.step) asked) rest s)
        (sym (ends_longer one.step server asked low m.0))
        (moves_longer xid (drop (used_by one.step) asked) rest (end_after h one.step server)
        (place_step one.step server asked low m.0) m.2),
  )

  ended_longer : (xid : ℤ) (asked : List Request) (steps : List Step) (server : ServerEnd) → server.place ≤ length h.transactions
      → Moves h xid asked steps server → ended_by (longer h more) steps server ≡ ended_by h steps server
  ended_longer xid asked [] server low m = refl
  ended_longer xid asked (one ∷ rest) server low m =
      ap (λ (s : ServerEnd). ended_by (longer h more) rest s) (ends_longer one.step server asked low m.0)
      ∙ ended_longer xid (drop (used_by one.step) asked) rest (end_after h one.step server) (place_step one.step server asked low m.0) m.2

-- Steps lead to a place of the history.
pub place_low : (h : History) (xid : ℤ) (asked : List Request) (steps : List Step) (server : ServerEnd)
    → server.place ≤ length h.transactions → Moves h xid asked steps server → (ended_by h steps server).place ≤ length h.transactions
place_low h xid asked [] server low m = low
place_low h xid asked (one ∷ rest) server low m =
    place_low h xid (drop (used_by one.step) asked) rest (end_after h one.step server) (place_step h [] one.step server asked low m.0) m.2

is_longer : (h later : History) (g : GoesOn h later) → longer h g.more ≡ later
is_longer h later g =
    sym (ap (λ (t : Tree). record { first = t; transactions = later.transactions }) g.first
    ∙ ap (λ (ts : List Transaction). record { first = h.first; transactions = ts }) g.transactions)

pub moves_later : (h later : History) (xid : ℤ) (asked : List Request) (steps : List Step) (server : ServerEnd)
    → GoesOn h later → server.place ≤ length h.transactions → Moves h xid asked steps server → Moves later xid asked steps server
moves_later h later xid asked steps server g low m =
    subst (λ (x : History). Moves x xid asked steps server) (is_longer h later g) (moves_longer h g.more xid asked steps server low m)

pub ended_later : (h later : History) (xid : ℤ) (asked : List Request) (steps : List Step) (server : ServerEnd)
    → GoesOn h later → server.place ≤ length h.transactions → Moves h xid asked steps server
    → ended_by later steps server ≡ ended_by h steps server
ended_later h later xid asked steps server g low m = subst (λ (x : History). ended_by x steps server ≡ ended_by h steps server)
    (is_longer h later g) (ended_longer h g.more xid asked steps server low m)

-- ---- places of all servers

grown : (h later : History) → GoesOn h later → length h.transactions ≤ length later.transactions
grown h later g = let same : length later.transactions ≡ length h.transactions + length g.more =
    ap length g.transactions ∙ length-append h.transactions g.more in omega (arith, same)

pub taken_none : (h : History) (taken : List ℕ) → AllByRecursion (λ place. place ≡ 0) taken → AllTaken h taken
taken_none h taken zeros = All-from_recursion (λ place. place ≤ length h.transactions) taken (by taken zeros)
  where
    by : (places : List ℕ) → AllByRecursion (λ place. place ≡ 0) places → AllByRecursion (λ place. place ≤ length h.transactions) places
    by [] z = tt
    by (place ∷ places) z = let zero_here : place ≡ 0 = z.0 in (omega (arith, zero_here), by places z.1)

pub taken_at : (h : History) (taken : List ℕ) (server : ℕ) → AllTaken h taken → slice_index taken server ≤ length h.transactions
taken_at h taken server all = elim (cases_lt server (length taken)) [
  | inl there ↦ all server 0 there
  | inr past ↦ let none : slice_index taken server ≡ 0 = get_or-eq_default taken 0 past in omega (arith, none)
]

pub taken_set : (h : History) (taken : List ℕ) (server place : ℕ)
    → AllTaken h taken → place ≤ length h.transactions → AllTaken h (slice_set taken server place)
taken_set h taken server place all low = All-set (λ n. n ≤ length h.transactions) taken server place low all

pub taken_later : (h later : History) (taken : List ℕ) → GoesOn h later → AllTaken h taken → AllTaken later taken
taken_later h later taken g all k d there = let low = all k d there in let more = grown h later g in omega (arith, low, more)
