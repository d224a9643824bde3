-- Steps, one list after another, and as entries of a schedule: by induction on the steps, each of which may stand where the ones before it
-- lead.
use Rattle.std.proofs.Common.{ℕ, zero, suc, ℤ, ◌≡◌, ◌≤◌, ◌+◌, true, List, [], ◌∷◌, ◌++◌, map, drop, length, refl, ap, sym, ◌∙◌, subst}
use Rattle.std.proofs.Common.{arith, append_assoc}
use Rattle.std.proofs.lemmas.List.{append-nil}
use Rattle.std.specs.Bool.{⊤}
use Rattle.zk_frames.specs.Frame.{joined}
use Rattle.zk_nodes.specs.History.{History}
use Rattle.zk_turns.specs.Turns.{Start}
use Rattle.zk_turns.specs.Taken.{past_of}
use Rattle.zk_laws.specs.Server.{Notice}
use Rattle.zk_laws.specs.Messages.{Request, Notifies}
use Rattle.zk_laws.specs.ServerSteps.{ServerEnd, ServerStep, Advances, Admits, Refuses, Answers, Restores, Pongs, IsNext, MayDo}
use Rattle.zk_laws.specs.ServerSteps.{messages_by, end_after}
use Rattle.zk_laws.specs.Served.{Sent, Entry, Serves, items_in, Wire, wire_of, is_going, unread, first_xid, requests, ArePayloads}
use Rattle.zk_laws.specs.Served.{IsServing}
use Rattle.theory_serving.specs.Steps.{Step, used_by, Moves, ended_by, sent_by, processed_by}
use Rattle.theory_serving.specs.inner.Steps.{behind}

-- ---- lists

drop_none : {A : Type 0} (n : ℕ) → drop {A = A} n [] ≡ []
drop_none zero = refl
drop_none (suc n) = refl

pub drop_twice : {A : Type 0} (a b : ℕ) (xs : List A) → drop b (drop a xs) ≡ drop (a + b) xs
drop_twice zero b xs = let same : b ≡ 0 + b = omega arith in ap (λ n. drop n xs) same
drop_twice (suc a) b [] = drop_none b ∙ sym (drop_none (suc a + b))
drop_twice (suc a) b (x ∷ xs) = let same : suc (a + b) ≡ suc a + b = omega arith in drop_twice a b xs ∙ ap (λ n. drop n (x ∷ xs)) same

-- ---- one list of steps after another

pub ended_more : (h : History) (first second : List Step) (server : ServerEnd)
    → ended_by h (first ++ second) server ≡ ended_by h second (ended_by h first server)
ended_more h [] second server = refl
ended_more h (one ∷ first) second server = ended_more h first second (end_after h one.step server)

pub sent_more : (first second : List Step) → sent_by (first ++ second) ≡ sent_by first ++ sent_by second
sent_more [] second = refl
sent_more (one ∷ first) second = ap (λ bytes. joined one.payloads ++ bytes) (sent_more first second)
    ∙ sym (append_assoc (joined one.payloads) (sent_by first) (sent_by second))

pub processed_more : (first second : List Step) → processed_by (first ++ second) ≡ processed_by first + processed_by second
processed_more [] second = omega arith
processed_more (one ∷ first) second = let r = processed_more first second in omega (arith, r)

pub moves_more : (h : History) (xid : ℤ) (asked : List Request) (first second : List Step) (server : ServerEnd)
    → Moves h xid asked first server
    → Moves h xid (drop (processed_by first) asked) second (ended_by h first server) → Moves h xid asked (first ++ second) server
moves_more h xid asked [] second server m n = n
moves_more h xid asked (one ∷ first) second server m n = (
  m.0,
  m.1,
  moves_more h xid (drop (used_by one.step) asked) first second (end_after h one.step server) m.2
      (subst (λ rs. Moves h xid rs second (ended_by h first (end_after h one.step server)))
      (sym (drop_twice (used_by one.step) (processed_by first) asked)) n),
)

-- ---- how many requests are processed

used_low : (h : History) (step : ServerStep) (server : ServerEnd) (asked : List Request)
    → MayDo h step server asked → used_by step ≤ length asked
used_low h (Advances sent) server asked m = omega arith
used_low h (Admits seen) server (first ∷ more) m = omega arith
used_low h (Refuses seen) server (first ∷ more) m = omega arith
used_low h (Answers call result) server (first ∷ more) m = omega arith
used_low h (Restores is_last relative part sent) server (first ∷ more) m = omega arith
used_low h Pongs server (first ∷ more) m = omega arith
used_low h (Admits seen) server [] m = absurd m.1
used_low h (Refuses seen) server [] m = absurd m.1
used_low h (Answers call result) server [] m = absurd m.1
used_low h (Restores is_last relative part sent) server [] m = absurd m.1
used_low h Pongs server [] m = absurd m.1

length_drop : {A : Type 0} (n : ℕ) (xs : List A) → n ≤ length xs → n + length (drop n xs) ≡ length xs
length_drop zero xs low = omega arith
length_drop (suc n) [] low = absurd (omega (arith, low))
length_drop (suc n) (x ∷ xs) low = let r = length_drop n xs (omega (arith, low)) in omega (arith, r)

-- no more requests are processed than there are
pub processed_low : (h : History) (xid : ℤ) (asked : List Request) (steps : List Step) (server : ServerEnd)
    → Moves h xid asked steps server → processed_by steps ≤ length asked
processed_low h xid asked [] server m = omega arith
processed_low h xid asked (one ∷ more) server m =
    let low = used_low h one.step server asked m.0 in
    let rest = processed_low h xid (drop (used_by one.step) asked) more (end_after h one.step server) m.2 in
    let whole = length_drop (used_by one.step) asked low in
    omega (arith, low, rest, whole)

-- ---- steps as entries

pub items_behind : (steps : List Step) (earlier : List Entry) → items_in (behind steps earlier) ≡ items_in earlier
items_behind [] earlier = refl
items_behind (one ∷ more) earlier = items_behind more (Serves one.step one.payloads ∷ earlier)

pub server_behind : (h : History) (steps : List Step) (earlier : List Entry)
    → (wire_of h (behind steps earlier)).server ≡ ended_by h steps (wire_of h earlier).server
server_behind h [] earlier = refl
server_behind h (one ∷ more) earlier = server_behind h more (Serves one.step one.payloads ∷ earlier)

pub processed_behind : (h : History) (steps : List Step) (earlier : List Entry)
    → (wire_of h (behind steps earlier)).processed ≡ (wire_of h earlier).processed + processed_by steps
processed_behind h [] earlier = omega arith
processed_behind h (one ∷ more) earlier = let r = processed_behind h more (Serves one.step one.payloads ∷ earlier) in omega (arith, r)

pub coming_behind : (h : History) (steps : List Step) (earlier : List Entry)
    → (wire_of h (behind steps earlier)).coming ≡ (wire_of h earlier).coming ++ sent_by steps
coming_behind h [] earlier = sym (append-nil (wire_of h earlier).coming)
coming_behind h (one ∷ more) earlier =
    coming_behind h more (Serves one.step one.payloads ∷ earlier)
    ∙ append_assoc (wire_of h earlier).coming (joined one.payloads) (sent_by more)

-- ---- a list of at most one request, and those that wait

-- The requests are none, or the first that waits, which has the xid.
abbrev pub Waits : ℤ → List Request → List Sent → Type 0
Waits xid [] waiting = ⊤
Waits xid (request ∷ []) (first ∷ more) = (first.request ≡ request) × (first.xid ≡ xid)
Waits xid _ _ = ⊥

next_waits : (xid : ℤ) (request : Request) (asked : List Request) (waiting : List Sent)
    → Waits xid asked waiting → IsNext request asked → IsNext request (map (λ sent. sent.request) waiting)
next_waits xid request [] waiting w n = absurd n
next_waits xid request (one ∷ []) [] w n = absurd w
next_waits xid request (one ∷ []) (first ∷ more) w n = n ∙ sym w.0
next_waits xid request (one ∷ two ∷ rest) waiting w n = absurd w

may_waits : (h : History) (xid : ℤ) (asked : List Request) (waiting : List Sent) (step : ServerStep) (server : ServerEnd)
    → Waits xid asked waiting → MayDo h step server asked → MayDo h step server (map (λ sent. sent.request) waiting)
may_waits h xid asked waiting (Advances sent) server w m = m
may_waits h xid asked waiting (Admits seen) server w m = (m.0, next_waits xid _ asked waiting w m.1, m.2)
may_waits h xid asked waiting (Refuses seen) server w m = (m.0, next_waits xid _ asked waiting w m.1, m.2)
may_waits h xid asked waiting (Answers call result) server w m = (m.0, next_waits xid _ asked waiting w m.1, m.2)
may_waits h xid asked waiting (Restores is_last relative part sent) server w m = (m.0, next_waits xid _ asked waiting w m.1, m.2)
may_waits h xid asked waiting Pongs server w m = (m.0, next_waits xid _ asked waiting w m.1)

-- a notice tells no xid
notices_any : (first second : ℤ) (notices : List Notice) (payloads : List (List ℕ))
    → ArePayloads first (map Notifies notices) payloads → ArePayloads second (map Notifies notices) payloads
notices_any first second [] [] a = tt
notices_any first second (notice ∷ notices) [] a = absurd a
notices_any first second [] (payload ∷ payloads) a = absurd a
notices_any first second (notice ∷ notices) (payload ∷ payloads) a = (a.0, a.1, notices_any first second notices payloads a.2)

xid_waits : (xid : ℤ) (request : Request) (asked : List Request) (waiting : List Sent)
    → Waits xid asked waiting → IsNext request asked → first_xid waiting ≡ xid
xid_waits xid request [] waiting w n = absurd n
xid_waits xid request (one ∷ []) [] w n = absurd w
xid_waits xid request (one ∷ []) (first ∷ more) w n = w.1
xid_waits xid request (one ∷ two ∷ rest) waiting w n = absurd w

told_waits : (h : History) (xid : ℤ) (asked : List Request) (waiting : List Sent) (step : ServerStep) (server : ServerEnd)
    (payloads : List (List ℕ)) → Waits xid asked waiting → MayDo h step server asked
    → ArePayloads xid (messages_by h step server.place) payloads
    → ArePayloads (first_xid waiting) (messages_by h step server.place) payloads
told_waits h xid asked waiting (Advances sent) server payloads w m a = notices_any xid (first_xid waiting) sent payloads a
told_waits h xid asked waiting (Admits seen) server payloads w m a =
    subst (λ x. ArePayloads x (messages_by h (Admits seen) server.place) payloads) (sym (xid_waits xid _ asked waiting w m.1)) a
told_waits h xid asked waiting (Refuses seen) server payloads w m a =
    subst (λ x. ArePayloads x (messages_by h (Refuses seen) server.place) payloads) (sym (xid_waits xid _ asked waiting w m.1)) a
told_waits h xid asked waiting (Answers call result) server payloads w m a =
    subst (λ x. ArePayloads x (messages_by h (Answers call result) server.place) payloads) (sym (xid_waits xid _ asked waiting w m.1)) a
told_waits h xid asked waiting (Restores is_last relative part sent) server payloads w m a =
    subst (λ x. ArePayloads x (messages_by h (Restores is_last relative part sent) server.place) payloads)
    (sym (xid_waits xid _ asked waiting w m.1)) a
told_waits h xid asked waiting Pongs server payloads w m a =
    subst (λ x. ArePayloads x (messages_by h Pongs server.place) payloads) (sym (xid_waits xid _ asked waiting w m.1)) a

-- after a step that has processed it the one request is gone
gone : (xid : ℤ) (asked : List Request) (waiting later : List Sent) → Waits xid asked waiting → Waits xid (drop 1 asked) later
gone xid [] waiting later w = tt
gone xid (one ∷ []) waiting later w = tt
gone xid (one ∷ two ∷ rest) waiting later w = absurd w

waits_on : (xid : ℤ) (asked : List Request) (sent : List Sent) (n : ℕ) (step : ServerStep) → Waits xid asked (drop n sent)
    → Waits xid (drop (used_by step) asked) (drop (n + used_by step) sent)
waits_on xid asked sent n (Advances notices) w = let same : n + 0 ≡ n = omega arith in
    subst (λ m. Waits xid asked (drop m sent)) (sym same) w
waits_on xid asked sent n (Admits seen) w = gone xid asked (drop n sent) (drop (n + 1) sent) w
waits_on xid asked sent n (Refuses seen) w = gone xid asked (drop n sent) (drop (n + 1) sent) w
waits_on xid asked sent n (Answers call result) w = gone xid asked (drop n sent) (drop (n + 1) sent) w
waits_on xid asked sent n (Restores is_last relative part notices) w = gone xid asked (drop n sent) (drop (n + 1) sent) w
waits_on xid asked sent n Pongs w = gone xid asked (drop n sent) (drop (n + 1) sent) w

-- Steps that may be taken are entries that may stand there.
pub serving_behind : (h : History) (start : Start) (xid : ℤ) (asked : List Request) (steps : List Step) (earlier : List Entry)
    → is_going (past_of start (items_in earlier)) ≡ true
    → Waits xid asked (unread start (past_of start (items_in earlier)) (wire_of h earlier))
    → Moves h xid asked steps (wire_of h earlier).server → IsServing h start earlier → IsServing h start (behind steps earlier)
serving_behind h start xid asked [] earlier going w m s = s
serving_behind h start xid asked (one ∷ more) earlier going w m s =
    let past = past_of start (items_in earlier) in
    let wire : Wire = wire_of h earlier in
    serving_behind h start xid (drop (used_by one.step) asked) more (Serves one.step one.payloads ∷ earlier) going
    (waits_on xid asked (requests start past) wire.processed one.step w) m.2 (
      record {
        going = going;
        may = may_waits h xid asked (unread start past wire) one.step wire.server w m.0;
        told = told_waits h xid asked (unread start past wire) one.step wire.server one.payloads w m.0 m.1;
      },
      s,
    )

-- ---- steps with no request to process

idle_step : (h : History) (asked : List Request) (step : ServerStep) (server : ServerEnd)
    → MayDo h step server [] → MayDo h step server asked
idle_step h asked (Advances sent) server m = m
idle_step h asked (Admits seen) server m = absurd m.1
idle_step h asked (Refuses seen) server m = absurd m.1
idle_step h asked (Answers call result) server m = absurd m.1
idle_step h asked (Restores is_last relative part sent) server m = absurd m.1
idle_step h asked Pongs server m = absurd m.1

idle_told : (h : History) (first second : ℤ) (step : ServerStep) (server : ServerEnd) (payloads : List (List ℕ))
    → MayDo h step server [] → ArePayloads first (messages_by h step server.place) payloads
    → ArePayloads second (messages_by h step server.place) payloads
idle_told h first second (Advances sent) server payloads m a = notices_any first second sent payloads a
idle_told h first second (Admits seen) server payloads m a = absurd m.1
idle_told h first second (Refuses seen) server payloads m a = absurd m.1
idle_told h first second (Answers call result) server payloads m a = absurd m.1
idle_told h first second (Restores is_last relative part sent) server payloads m a = absurd m.1
idle_told h first second Pongs server payloads m a = absurd m.1

idle_stage : (h : History) (step : ServerStep) (server : ServerEnd)
    → MayDo h step server [] → (end_after h step server).stage ≡ server.stage
idle_stage h (Advances sent) server m = refl
idle_stage h (Admits seen) server m = absurd m.1
idle_stage h (Refuses seen) server m = absurd m.1
idle_stage h (Answers call result) server m = absurd m.1
idle_stage h (Restores is_last relative part sent) server m = absurd m.1
idle_stage h Pongs server m = absurd m.1

idle_rest : (h : History) (xid : ℤ) (one : Step) (rest : List Step) (server : ServerEnd)
    → Moves h xid (drop (used_by one.step) []) rest server → Moves h xid [] rest server
idle_rest h xid one rest server m = subst (λ rs. Moves h xid rs rest server) (drop_none (used_by one.step)) m

-- they may be taken whatever is asked
pub idle_moves : (h : History) (first second : ℤ) (asked : List Request) (steps : List Step) (server : ServerEnd)
    → Moves h first [] steps server → Moves h second asked steps server
idle_moves h first second asked [] server m = tt
idle_moves h first second asked (one ∷ rest) server m = (
  idle_step h asked one.step server m.0,
  idle_told h first second one.step server one.payloads m.0 m.1,
  idle_moves h first second (drop (used_by one.step) asked) rest (end_after h one.step server)
      (idle_rest h first one rest (end_after h one.step server) m.2),
)

pub idle_processes : (h : History) (xid : ℤ) (steps : List Step) (server : ServerEnd) → Moves h xid [] steps server → processed_by steps ≡ 0
idle_processes h xid steps server m = let few = processed_low h xid [] steps server m in omega (arith, few)

pub idle_stays : (h : History) (xid : ℤ) (steps : List Step) (server : ServerEnd)
    → Moves h xid [] steps server → (ended_by h steps server).stage ≡ server.stage
idle_stays h xid [] server m = refl
idle_stays h xid (one ∷ rest) server m =
    idle_stays h xid rest (end_after h one.step server) (idle_rest h xid one rest (end_after h one.step server) m.2)
    ∙ idle_stage h one.step server m.0

-- ---- one step after others

pub last_moves : (h : History) (xid : ℤ) (asked : List Request) (first : List Step) (last : Step) (server : ServerEnd)
    → Moves h xid asked first server
    → MayDo h last.step (ended_by h first server) (drop (processed_by first) asked)
    → ArePayloads xid (messages_by h last.step (ended_by h first server).place) last.payloads
    → Moves h xid asked (first ++ last ∷ []) server
last_moves h xid asked first last server m may told = moves_more h xid asked first (last ∷ []) server m (may, told, tt)

-- steps with no request, and then one that processes it
pub answer_moves : (h : History) (other xid : ℤ) (request : Request) (first : List Step) (last : Step) (server : ServerEnd)
    → Moves h other [] first server
    → MayDo h last.step (ended_by h first server) (request ∷ [])
    → ArePayloads xid (messages_by h last.step (ended_by h first server).place) last.payloads
    → Moves h xid (request ∷ []) (first ++ last ∷ []) server
answer_moves h other xid request first last server m may told =
    last_moves h xid (request ∷ []) first last server (idle_moves h other xid (request ∷ []) first server m)
    (subst (λ n. MayDo h last.step (ended_by h first server) (drop n (request ∷ []))) (sym (idle_processes h other first server m)) may)
    told

pub last_ended : (h : History) (first : List Step) (last : Step) (server : ServerEnd)
    → ended_by h (first ++ last ∷ []) server ≡ end_after h last.step (ended_by h first server)
last_ended h first last server = ended_more h first (last ∷ []) server

pub last_sent : (first : List Step) (last : Step) → sent_by (first ++ last ∷ []) ≡ sent_by first ++ joined last.payloads
last_sent first last = sent_more first (last ∷ []) ∙ ap (λ bytes. sent_by first ++ bytes) (append-nil (joined last.payloads))

pub last_processed : (first : List Step) (last : Step) → processed_by (first ++ last ∷ []) ≡ processed_by first + used_by last.step
last_processed first last = let r = processed_more first (last ∷ []) in omega (arith, r)
