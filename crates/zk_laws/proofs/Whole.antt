-- Each move keeps the invariant, and so each schedule does: step by step on a connection, before the client has the acceptance and while it
-- talks, then by induction on the moves.
use Rattle.zk_conversation.specs.Questions.{question_of}
use Rattle.zk_conversation.specs.Calls.{Call}
use Rattle.zk_nodes.specs.Path.{Text, NodePath, path_eq}
use Rattle.zk_nodes.specs.History.{Change, Creates, Sets, Deletes, Transaction, History, IsHistory}
use Rattle.zk_watches.specs.Lists.{Lists}
use Rattle.std.proofs.Common.{ℕ, ◌≡◌, ◌<◌, ◌≤◌, Bool, true, false, ◌&&◌, List, [], ◌∷◌, ◌++◌, refl, ap, sym, ◌∙◌, subst, inl, inr, ◌⊎◌}
use Rattle.std.proofs.Common.{arith, Option, Some, None, if◌then◌else◌, map, length, suc, append-nil}
use Rattle.zk_nodes.specs.declared.side.Side.{Side}
use Rattle.zk_nodes.specs.declared.side.Side.TheVariants.{Data, Child}
use Rattle.zk_conversation.specs.Results.{Result}
use Rattle.zk_records.specs.declared.event.Event.{Event}
use Rattle.zk_records.specs.declared.event.Event.TheVariants.{DataChanged}
use Rattle.zk_laws.specs.Server.{Notice, Watches, fires, leaves_set, fires_all, leaves_set_all, AreSent, sets, tree_held, zxid_held, Gives}
use Rattle.zk_laws.specs.Server.{part_tells, part_sets, both, without, told, same_side}
use Rattle.zk_turns.specs.Turns.{IsAskable}
use Rattle.zk_laws.specs.Messages.{Message, Accepted, Expired, Replies, Watches_set, Notifies, Pong, Request, Connect, Restore, Ask, Ping}
use Rattle.zk_laws.proofs.Log.{Item, Opened, Lost, Forgets, Took, last, good, AreParts, IsCoherent, Answer}
use Rattle.zk_laws.proofs.Steps.{is_behind, ends, Connection, Link, Down, Up, World, restores, Step, Asks, Pings, Joins, Takes, rest_of}
use Rattle.zk_laws.proofs.Steps.{MayStep, stepped, By_server}
use Rattle.zk_laws.specs.ServerSteps.{Stage, Waiting, Serving, Ended, changes_next, Advances, Admits, Refuses, Answers, Restores, Pongs}
use Rattle.zk_laws.specs.ServerSteps.{IsNext}
use Rattle.zk_laws.proofs.Run.{start, Move, Opens, Loses, Halts, Forgets_stale, Goes, May, moved, MayGo, gone, IsSchedule, run}
use Rattle.zk_conversation.specs.Pending.{closes}
use Rattle.zk_laws.proofs.Basics.{none_sent}
use Rattle.zk_laws.proofs.Stamps.{IsNextAt, next_at}
use Rattle.zk_laws.proofs.Invariant.{AreAskable, IsRight, Ahead, is_in, IsAwaited, IsSure, IsSettled, IsUnwatched, IsOpening, IsStarting}
use Rattle.zk_laws.proofs.Invariant.{IsTalking, IsKeptUp, IsKeptBy, IsKept}
use Rattle.zk_laws.proofs.Ahead.{ahead_right, ahead_map, ahead_same, right_less, max_zero}
use Rattle.zk_laws.proofs.NextMoves.{next_ahead}
use Rattle.zk_laws.proofs.AnswerMoves.{answer_ahead, pong_ahead}
use Rattle.zk_laws.proofs.PartMoves.{part_ahead}
use Rattle.zk_laws.proofs.Joining.{joined}

pub next_is : {A : Type 0} (x : A) (xs : List A) → IsNext x xs → xs ≡ x ∷ rest_of xs
next_is x [] n = absurd n
next_is x (y ∷ ys) n = ap (λ z. z ∷ ys) (sym n)

awaited_more : (side : Side) (path : Text) (a : Answer) (z : ℕ) (requests more : List Request)
    → IsAwaited side path a z requests → IsAwaited side path a z (requests ++ more)
awaited_more side path a z [] more w = absurd w
awaited_more side path a z (Restore b r p ∷ rest) more w = (w.0, go w.1 (λ k. awaited_more side path a z rest more k))
  where
    go : (is_in side a path p ≡ true) ⊎ ((b ≡ false) × IsAwaited side path a z rest)
        → (IsAwaited side path a z rest → IsAwaited side path a z (rest ++ more))
        → (is_in side a path p ≡ true) ⊎ ((b ≡ false) × IsAwaited side path a z (rest ++ more))
    go (inl h) f = inl h
    go (inr k) f = inr (k.0, f k.1)
awaited_more side path a z (Connect seen ∷ rest) more w = absurd w
awaited_more side path a z (Ask q ∷ rest) more w = absurd w
awaited_more side path a z (Ping ∷ rest) more w = absurd w

sure_more : (h : History) (side : Side) (path : Text) (requests more : List Request) (place : ℕ) (watches : Watches) (z : ℕ)
    (k : Option Answer) → IsSure h side path requests place watches z k → IsSure h side path (requests ++ more) place watches z k
sure_more h side path requests more place watches z None s = tt
sure_more h side path requests more place watches z (Some a) (inl c) = inl c
sure_more h side path requests more place watches z (Some a) (inr w) = inr (awaited_more side path a z requests more w)

-- more requests after those in flight
askable_more : (requests more : List Request) → AreAskable requests → AreAskable more → AreAskable (requests ++ more)
askable_more [] more a b = b
askable_more (Connect seen ∷ rest) more a b = askable_more rest more a b
askable_more (Restore l r p ∷ rest) more a b = askable_more rest more a b
askable_more (Ask q ∷ rest) more a b = (a.0, askable_more rest more a.1 b)
askable_more (Ping ∷ rest) more a b = askable_more rest more a b

askable_rest : (requests : List Request) → AreAskable requests → AreAskable (rest_of requests)
askable_rest [] a = tt
askable_rest (Connect seen ∷ rest) a = a
askable_rest (Restore l r p ∷ rest) a = a
askable_rest (Ask q ∷ rest) a = a.1
askable_rest (Ping ∷ rest) a = a

askable_parts : (z : ℕ) (parts : List Lists) → AreAskable (restores z parts)
askable_parts z [] = tt
askable_parts z (p ∷ []) = tt
askable_parts z (p ∷ q ∷ parts) = askable_parts z (q ∷ parts)

askable_first : (q : Call) (requests : List Request) → requests ≡ Ask q ∷ rest_of requests → AreAskable requests → IsAskable q
askable_first q requests e a = (subst (λ (rs : List Request). AreAskable rs) e a).0

request_more : (h : History) (log : List Item) (c : Connection) (more : List Request)
    → AreAskable more → IsTalking h log c → IsTalking h log (record c { requests = c.requests ++ more })
request_more h log c more ok t = record {
  stage = t.stage;
  askable = askable_more c.requests more t.askable ok;
  ahead = λ side path. ahead_map h side path c.messages log (IsSettled h side path c.requests c.place c.watches)
      (IsSettled h side path (c.requests ++ more) c.place c.watches) (t.ahead side path)
      (λ l e. (e.0, sure_more h side path c.requests more c.place c.watches (last l) (good side path l) e.1));
}

-- the invariant at a connection whose flag is known
kept_true : (h : History) (log : List Item) (c : Connection) → c.talking ≡ true → IsTalking h log c → IsKeptUp h log c c.talking
kept_true h log c e t = subst (λ (b : Bool). IsKeptUp h log c b) (sym e) t

kept_false : (h : History) (log : List Item) (c : Connection) → c.talking ≡ false → IsStarting h log c → IsKeptUp h log c c.talking
kept_false h log c e t = subst (λ (b : Bool). IsKeptUp h log c b) (sym e) t

pub kept_right : (h : History) (log : List Item) (link : Link) → IsKeptBy h log link → (side : Side) (path : Text) → IsRight h side path log
kept_right h log Down k side path = k side path
kept_right h log (Up c) k side path = go c.talking k
  where
    go : (b : Bool) → IsKeptUp h log c b → IsRight h side path log
    go true t = ahead_right h side path c.messages log (IsSettled h side path c.requests c.place c.watches) (t.ahead side path)
    go false s = s.right side path

-- a list item that changes nothing
right_more : (h : History) (item : Item) (log : List Item)
    → ((side : Side) (path : Text) → good side path (item ∷ log) ≡ good side path log) → last (item ∷ log) ≡ last log
    → ((side : Side) (path : Text) → IsRight h side path log) → (side : Side) (path : Text) → IsRight h side path (item ∷ log)
right_more h item log same seen right side path = right_less h side path (item ∷ log) log (seen, inr (same side path)) (right side path)

-- Steps while the client talks

talk_answers : (h : History) (is : IsHistory h) (log : List Item) (c : Connection) (q : Call) (r : Result)
    → IsNext (Ask q) c.requests → Gives h c.place q r → IsTalking h log c
    → IsTalking h log (record c {
      requests = rest_of c.requests;
      messages = c.messages ++ Replies (question_of q) (zxid_held h c.place) r
          ∷ [];
      watches = both c.watches (sets (question_of q) r);
      stage = if closes (question_of q) then Ended else Serving;
    })
talk_answers h is log c q r next gives t = record {
  stage = on (closes (question_of q));
  askable = askable_rest c.requests t.askable;
  ahead = λ side path. answer_ahead h is side path (rest_of c.requests) c.place c.watches q r
      (askable_first q c.requests (next_is (Ask q) c.requests next) t.askable) gives c.messages log
      (subst (λ (rs : List Request). Ahead h side path c.messages log (IsSettled h side path rs c.place c.watches))
      (next_is (Ask q) c.requests next) (t.ahead side path));
}
  where
    on : (b : Bool) → (if b then Ended else Serving) ≡ Waiting → ⊥
    on true e = cc
    on false e = cc

talk_restores : (h : History) (is : IsHistory h) (log : List Item) (c : Connection) (b : Bool) (z : ℕ) (part : Lists) (sent : List Notice)
    → IsNext (Restore b z part) c.requests
    → AreSent (part_tells z (tree_held h c.place) part) sent → IsTalking h log c
    → IsTalking h log
    (record c {
      requests = rest_of c.requests;
      messages = c.messages ++ (map Notifies sent ++ Watches_set b (zxid_held h c.place) ∷ []);
      watches = both c.watches (part_sets z (tree_held h c.place) part);
    })
talk_restores h is log c b z part sent next all t = record {
  stage = t.stage;
  askable = askable_rest c.requests t.askable;
  ahead = λ side path. part_ahead h is side path b z part (rest_of c.requests) c.place c.watches sent all c.messages log
      (subst (λ (rs : List Request). Ahead h side path c.messages log (IsSettled h side path rs c.place c.watches))
      (next_is (Restore b z part) c.requests next) (t.ahead side path));
}

talk_pongs : (h : History) (log : List Item) (c : Connection) → IsNext Ping c.requests → IsTalking h log c
    → IsTalking h log (record c { requests = rest_of c.requests; messages = c.messages ++ Pong ∷ [] })
talk_pongs h log c next t = record {
  stage = t.stage;
  askable = askable_rest c.requests t.askable;
  ahead = λ side path. pong_ahead h side path (rest_of c.requests) c.place c.watches c.messages log
      (subst (λ (rs : List Request). Ahead h side path c.messages log (IsSettled h side path rs c.place c.watches))
      (next_is Ping c.requests next) (t.ahead side path));
}

talk_advances : (h : History) (is : IsHistory h) (log : List Item) (c : Connection) (sent : List Notice)
    → c.place < length h.transactions → AreSent (fires_all (changes_next h c.place) c.watches) sent → IsTalking h log c
    → IsTalking h log (record c
    { messages = c.messages ++ map Notifies sent; place = suc c.place; watches = leaves_set_all (changes_next h c.place) c.watches })
talk_advances h is log c sent room all t =
    let found = next_at h c.place is room in
    let x : Transaction = found.0 in
    let next : IsNextAt h c.place x = found.1 in
    let e : changes_next h c.place ≡ x.changes = rw (next.nth, changes_next) refl in
    let all' : AreSent (fires_all x.changes c.watches) sent = subst (λ (cs : List Change). AreSent (fires_all cs c.watches) sent) e all in
    let t' : IsTalking h log
    (record c { messages = c.messages ++ map Notifies sent; place = suc c.place; watches = leaves_set_all x.changes c.watches }) =
    record {
      stage = t.stage;
      askable = t.askable;
      ahead = λ side path. next_ahead h is side path c.requests c.place c.watches x next sent all' c.messages log (t.ahead side path);
    } in
    subst (λ (cs : List Change). IsTalking h log
    (record c { messages = c.messages ++ map Notifies sent; place = suc c.place; watches = leaves_set_all cs c.watches })) (sym e) t'

talk_takes : (h : History) (log : List Item) (c : Connection) (m : Message)
    → c.talking ≡ true → IsNext m c.messages → IsTalking h log c → IsKept h (stepped h (Takes m) c log)
talk_takes h log c m e next t = rw not_behind (go (ends m))
  where
    ahead : (side : Side) (path : Text)
        → Ahead h side path (m ∷ rest_of c.messages) log (IsSettled h side path c.requests c.place c.watches)
    ahead side path = subst (λ (ms : List Message). Ahead h side path ms log (IsSettled h side path c.requests c.place c.watches))
        (next_is m c.messages next) (t.ahead side path)

    not_behind : is_behind log m ≡ false
    not_behind = (ahead Data []).1

    go : (b : Bool) → IsKeptBy h (Took m ∷ log) (if b then Down else Up (record c { messages = rest_of c.messages }))
    go true = λ side path. ahead_right h side path (rest_of c.messages) (Took m ∷ log)
        (IsSettled h side path c.requests c.place c.watches) (ahead side path).2
    go false = kept_true h (Took m ∷ log) (record c { messages = rest_of c.messages }) e
        (record { stage = t.stage; askable = t.askable; ahead = λ side path. (ahead side path).2 })

-- Steps before the client has the acceptance

unwatched_without : (side : Side) (path : NodePath) (w : Watches) → IsUnwatched w → IsUnwatched (without side path w)
unwatched_without side path w u at p = go (same_side at side && path_eq p path)
  where
    go : (b : Bool) → (if b then false else w at p) ≡ false
    go true = refl
    go false = u at p

quiet_told : (side : Side) (path : NodePath) (e : Event) (w : Watches) → IsUnwatched w → told side path e w ≡ []
quiet_told side path e w u = rw (u side path) refl

quiet_one : (c : Change) (w : Watches) → IsUnwatched w → (fires c w ≡ []) × IsUnwatched (leaves_set c w)
quiet_one (Creates [] content owner) w u = (refl, u)
quiet_one (Creates (name ∷ above) content owner) w u = (
  rw (u Data (name ∷ above), u Child above) refl,
  unwatched_without Child above (without Data (name ∷ above) w) (unwatched_without Data (name ∷ above) w u),
)
quiet_one (Sets at content) w u = (quiet_told Data at DataChanged w u, unwatched_without Data at w u)
quiet_one (Deletes []) w u = (refl, u)
quiet_one (Deletes (name ∷ above)) w u = (
  rw (u Data (name ∷ above), u Child (name ∷ above), u Child above) refl,
  unwatched_without Child above (without Child (name ∷ above) (without Data (name ∷ above) w))
      (unwatched_without Child (name ∷ above) (without Data (name ∷ above) w) (unwatched_without Data (name ∷ above) w u)),
)

quiet_all : (cs : List Change) (w : Watches) → IsUnwatched w → (fires_all cs w ≡ []) × IsUnwatched (leaves_set_all cs w)
quiet_all [] w u = (refl, u)
quiet_all (c ∷ cs) w u =
    let one = quiet_one c w u in
    let rest = quiet_all cs (leaves_set c w) one.1 in
    (rw (one.0, rest.0) refl, rest.1)

opening_next : (h : History) (log : List Item) (stage : Stage) (requests : List Request) (old new : List Message) (place : ℕ)
    → new ≡ old → zxid_held h place ≤ zxid_held h (suc place)
    → IsOpening h log stage requests old place → IsOpening h log stage requests new (suc place)
opening_next h log Waiting requests old new place e le o = (o.0, e ∙ o.1)
opening_next h log Serving requests old new place e le o = (o.0, e ∙ o.1, let k = o.2 in omega arith)
opening_next h log Ended requests old new place e le o = (o.0, e ∙ o.1)

start_advances : (h : History) (is : IsHistory h) (log : List Item) (c : Connection) (sent : List Notice)
    → c.place < length h.transactions → AreSent (fires_all (changes_next h c.place) c.watches) sent → IsStarting h log c
    → IsStarting h log (record c
    { messages = c.messages ++ map Notifies sent; place = suc c.place; watches = leaves_set_all (changes_next h c.place) c.watches })
start_advances h is log c sent room all s =
    let found = next_at h c.place is room in
    let quiet = quiet_all (changes_next h c.place) c.watches s.unwatched in
    let none : sent ≡ [] = none_sent sent (subst (λ (fired : List Notice). AreSent fired sent) quiet.0 all) in
    let same : c.messages ++ map Notifies sent ≡ c.messages =
    ap (λ (ns : List Notice). c.messages ++ map Notifies ns) none ∙ append-nil c.messages in
    let above = found.1.above in let zxid = found.1.zxid in
    record {
      right = s.right;
      unwatched = quiet.1;
      opening = opening_next h log c.stage c.requests c.messages (c.messages ++ map Notifies sent) c.place same (omega arith) s.opening;
    }

start_admits : (h : History) (log : List Item) (c : Connection) (seen : ℕ)
    → c.stage ≡ Waiting → IsNext (Connect seen) c.requests → seen ≤ zxid_held h c.place → IsStarting h log c
    → IsStarting h log (record c { requests = rest_of c.requests; messages = c.messages ++ Accepted ∷ []; stage = Serving })
start_admits h log c seen w next low s =
    let o : IsOpening h log Waiting c.requests c.messages c.place =
    subst (λ (st : Stage). IsOpening h log st c.requests c.messages c.place) w s.opening in
    let n : Connect seen ≡ Connect (last log) = subst (λ (rs : List Request). IsNext (Connect seen) rs) o.0 next in
    let e : seen ≡ last log = cc in
    record {
      right = s.right;
      unwatched = s.unwatched;
      opening = (ap rest_of o.0, ap (λ (ms : List Message). ms ++ Accepted ∷ []) o.1, omega arith);
    }

start_refuses : (h : History) (log : List Item) (c : Connection) (seen : ℕ)
    → c.stage ≡ Waiting → IsNext (Connect seen) c.requests → IsStarting h log c
    → IsStarting h log (record c { requests = rest_of c.requests; messages = c.messages ++ Expired ∷ []; stage = Ended })
start_refuses h log c seen w next s =
    let o : IsOpening h log Waiting c.requests c.messages c.place =
    subst (λ (st : Stage). IsOpening h log st c.requests c.messages c.place) w s.opening in
    record { right = s.right; unwatched = s.unwatched; opening = (ap rest_of o.0, ap (λ (ms : List Message). ms ++ Expired ∷ []) o.1) }

start_joins : (h : History) (log : List Item) (c : Connection) (parts : List Lists)
    → IsNext Accepted c.messages → AreParts log parts → IsStarting h log c
    → IsTalking h (Took Accepted ∷ log)
    (record c { requests = c.requests ++ restores (last log) parts; messages = rest_of c.messages; talking = true })
start_joins h log c parts next are s = go c.stage refl s.opening
  where
    go : (st : Stage) → c.stage ≡ st → IsOpening h log st c.requests c.messages c.place
        → IsTalking h (Took Accepted ∷ log)
        (record c { requests = c.requests ++ restores (last log) parts; messages = rest_of c.messages; talking = true })
    go Waiting e o = absurd (subst (λ (ms : List Message). IsNext Accepted ms) o.1 next)
    go Ended e o = let bad : Accepted ≡ Expired = subst (λ (ms : List Message). IsNext Accepted ms) o.1 next in absurd cc
    go Serving e o = record {
      stage = λ w. let bad : Serving ≡ Waiting = sym e ∙ w in cc;
      askable = askable_more c.requests (restores (last log) parts) (subst (λ (rs : List Request). AreAskable rs) (sym o.0) tt)
          (askable_parts (last log) parts);
      ahead = λ side path.
          let ms : rest_of c.messages ≡ [] = ap rest_of o.1 in
          let rs : c.requests ++ restores (last log) parts ≡ restores (last log) parts =
          ap (λ (xs : List Request). xs ++ restores (last log) parts) o.0 in
          subst (λ (xs : List Message). Ahead h side path xs (Took Accepted ∷ log)
          (IsSettled h side path (c.requests ++ restores (last log) parts) c.place c.watches)) (sym ms)
          (subst (λ (xs : List Request). Ahead h side path [] (Took Accepted ∷ log) (IsSettled h side path xs c.place c.watches)) (sym rs)
          (joined h side path log parts c.place c.watches are (s.right side path) o.2));
    }

start_takes : (h : History) (log : List Item) (c : Connection)
    → IsNext Expired c.messages → IsStarting h log c → IsKept h (stepped h (Takes Expired) c log)
start_takes h log c next s = λ side path answer e. absurd cc

-- no request that is served is in flight while the server serves
start_serves : (h : History) (log : List Item) (c : Connection) (x : Request)
    → c.stage ≡ Serving → IsNext x c.requests → IsStarting h log c → ⊥
start_serves h log c x e next s =
    let o : IsOpening h log Serving c.requests c.messages c.place =
    subst (λ (st : Stage). IsOpening h log st c.requests c.messages c.place) e s.opening in
    subst (λ (rs : List Request). IsNext x rs) o.0 next

-- A step on a connection.
step_kept : (h : History) (is : IsHistory h) (step : Step) (c : Connection) (log : List Item) → MayStep h step c log → (b : Bool)
    → c.talking ≡ b → IsKeptUp h log c b → IsKept h (stepped h step c log)
step_kept h is (Asks q) c log may true e k =
    kept_true h log (record c { requests = c.requests ++ Ask q ∷ [] }) e (request_more h log c (Ask q ∷ []) (may.1, tt) k)
step_kept h is (Asks q) c log may false e k = let m = may.0 in absurd cc
step_kept h is Pings c log may true e k =
    kept_true h log (record c { requests = c.requests ++ Ping ∷ [] }) e (request_more h log c (Ping ∷ []) tt k)
step_kept h is Pings c log may false e k = absurd cc
step_kept h is (Joins parts) c log may true e k = let f = may.0 in absurd cc
step_kept h is (Joins parts) c log may false e k = start_joins h log c parts may.1 may.2 k
step_kept h is (Takes m) c log may true e k = talk_takes h log c m e may.0 k
step_kept h is (Takes m) c log may false e k = go may.1
  where
    go : (c.talking ≡ true) ⊎ (m ≡ Expired) → IsKept h (stepped h (Takes m) c log)
    go (inl t) = absurd cc
    go (inr x) = subst (λ (y : Message). IsKept h (stepped h (Takes y) c log)) (sym x)
        (start_takes h log c (subst (λ (y : Message). IsNext y c.messages) x may.0) k)
step_kept h is (By_server (Advances sent)) c log may true e k = kept_true h log (record c {
  messages = c.messages ++ map Notifies sent;
  place = suc c.place;
  watches = leaves_set_all (changes_next h c.place) c.watches;
}) e (talk_advances h is log c sent may.1 may.2 k)
step_kept h is (By_server (Advances sent)) c log may false e k = kept_false h log (record c {
  messages = c.messages ++ map Notifies sent;
  place = suc c.place;
  watches = leaves_set_all (changes_next h c.place) c.watches;
}) e (start_advances h is log c sent may.1 may.2 k)
step_kept h is (By_server (Admits seen)) c log may true e k = absurd (k.stage may.0)
step_kept h is (By_server (Admits seen)) c log may false e k =
    kept_false h log (record c { requests = rest_of c.requests; messages = c.messages ++ Accepted ∷ []; stage = Serving }) e
    (start_admits h log c seen may.0 may.1 may.2 k)
step_kept h is (By_server (Refuses seen)) c log may true e k = absurd (k.stage may.0)
step_kept h is (By_server (Refuses seen)) c log may false e k =
    kept_false h log (record c { requests = rest_of c.requests; messages = c.messages ++ Expired ∷ []; stage = Ended }) e
    (start_refuses h log c seen may.0 may.1 k)
step_kept h is (By_server (Answers q r)) c log may true e k =
    kept_true h log (record c {
      requests = rest_of c.requests;
      messages = c.messages ++ Replies (question_of q) (zxid_held h c.place) r
          ∷ [];
      watches = both c.watches (sets (question_of q) r);
      stage = if closes (question_of q) then Ended else Serving;
    }) e
    (talk_answers h is log c q r may.1 may.2 k)
step_kept h is (By_server (Answers q r)) c log may false e k = absurd (start_serves h log c (Ask q) may.0 may.1 k)
step_kept h is (By_server (Restores b z part sent)) c log may true e k = kept_true h log
    (record c {
      requests = rest_of c.requests;
      messages = c.messages ++ (map Notifies sent ++ Watches_set b (zxid_held h c.place) ∷ []);
      watches = both c.watches (part_sets z (tree_held h c.place) part);
    }) e (talk_restores h is log c b z part sent may.1 may.2 k)
step_kept h is (By_server (Restores b z part sent)) c log may false e k = absurd (start_serves h log c (Restore b z part) may.0 may.1 k)
step_kept h is (By_server Pongs) c log may true e k =
    kept_true h log (record c { requests = rest_of c.requests; messages = c.messages ++ Pong ∷ [] }) e (talk_pongs h log c may.1 k)
step_kept h is (By_server Pongs) c log may false e k = absurd (start_serves h log c Ping may.0 may.1 k)

-- forgetting what is stale changes nothing that is good
forget_opening : (h : History) (log : List Item) (stage : Stage) (requests : List Request) (messages : List Message) (place : ℕ)
    → IsOpening h log stage requests messages place → IsOpening h (Forgets ∷ log) stage requests messages place
forget_opening h log Waiting requests messages place o = (o.0 ∙ ap (λ (z : ℕ). Connect z ∷ []) (sym (max_zero (last log))), o.1)
forget_opening h log Serving requests messages place o = (o.0, o.1, let low = o.2 in omega arith)
forget_opening h log Ended requests messages place o = o

forget_kept : (h : History) (log : List Item) (link : Link) → IsKeptBy h log link → IsKeptBy h (Forgets ∷ log) link
forget_kept h log Down k = right_more h Forgets log (λ side path. refl) (max_zero (last log)) k
forget_kept h log (Up c) k = go c.talking k
  where
    go : (b : Bool) → IsKeptUp h log c b → IsKeptUp h (Forgets ∷ log) c b
    go true t = record {
      stage = t.stage;
      askable = t.askable;
      ahead = λ side path. ahead_same h side path c.requests c.place c.watches c.messages (Forgets ∷ log) log
          (max_zero (last log)) refl (t.ahead side path);
    }
    go false s = record {
      right = right_more h Forgets log (λ side path. refl) (max_zero (last log)) s.right;
      unwatched = s.unwatched;
      opening = forget_opening h log c.stage c.requests c.messages c.place s.opening;
    }

-- Each move keeps the invariant.
pub move_kept : (h : History) (is : IsHistory h) (move : Move) (w : World) → May h move w → IsKept h w → IsKept h (moved h move w)
move_kept h is (Opens place) w may k = record {
  right = right_more h Opened w.log (λ side path. refl) (max_zero (last w.log)) (kept_right h w.log w.link k);
  unwatched = λ side path. refl;
  opening = (ap (λ (z : ℕ). Connect z ∷ []) (sym (max_zero (last w.log))), refl);
}
move_kept h is Loses w may k = right_more h Lost w.log (λ side path. refl) (max_zero (last w.log)) (kept_right h w.log w.link k)
move_kept h is Halts w may k = λ side path answer e. absurd cc
move_kept h is Forgets_stale w may k = forget_kept h w.log w.link k
move_kept h is (Goes step) w may k = go w.link may k
  where
    go : (link : Link) → MayGo h step link w.log → IsKeptBy h w.log link → IsKept h (gone h step link w.log)
    go Down may k = absurd may
    go (Up c) may k = step_kept h is step c w.log may c.talking refl k

pub start_kept : (h : History) (saved : ℕ) → IsKept h (start saved)
start_kept h saved side path answer e = absurd cc

pub run_kept : (h : History) (is : IsHistory h) (moves : List Move) (w : World)
    → IsSchedule h moves w → IsKept h w → IsKept h (run h moves w)
run_kept h is [] w may k = k
run_kept h is (move ∷ moves) w may k = run_kept h is moves (moved h move w) may.1 (move_kept h is move w may.0 k)

pub kept_coherent : (h : History) (w : World) → IsKept h w → IsCoherent h w.log
kept_coherent h w k side path answer e = (kept_right h w.log w.link k side path answer e).0

pub coherent : (h : History) → IsHistory h → (saved : ℕ) (moves : List Move) → IsSchedule h moves (start saved)
    → IsCoherent h (run h moves (start saved)).log
coherent h is saved moves may = kept_coherent h (run h moves (start saved)) (run_kept h is moves (start saved) may (start_kept h saved))
