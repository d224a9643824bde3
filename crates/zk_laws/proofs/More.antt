-- The other laws of a run: the last seen zxid never falls, no message is behind, where all is quiet what is good agrees with the server,
-- and each reply was given by a server somewhere. Each is kept by every move.
use Rattle.std.proofs.Common.{ℕ, zero, suc, ℤ, ◌≡◌, ◌≤◌, Bool, true, false, List, [], ◌∷◌, ◌++◌, refl, sym, subst, inl, inr, arith, Option}
use Rattle.std.proofs.Common.{Some, None, if◌then◌else◌, map, take}
use Rattle.std.specs.Bool.{⊤}
use Rattle.zk_nodes.specs.DataStats.{data_stat_of}
use Rattle.zk_nodes.specs.Path.{Text, path_of}
use Rattle.zk_nodes.specs.History.{tree_at, Tree, Change, Creates, Sets, Deletes, Transaction, History, IsHistory, newest, view}
use Rattle.zk_conversation.specs.Calls.{Call, Exists, GetData, GetChildren, SetData, Create, Delete, Close, Raw}
use Rattle.zk_nodes.specs.declared.side.Side.{Side}
use Rattle.zk_nodes.specs.declared.side.Side.TheVariants.{Data, Child}
use Rattle.zk_conversation.specs.Questions.{Question, question_of}
use Rattle.zk_conversation.specs.Results.{Result, NoNode, Refused, Found, Read, Listing, Made, Done}
use Rattle.zk_turns.specs.Past.{names_of}
use Rattle.zk_turns.specs.Meaning.{Among}
use Rattle.zk_laws.specs.Server.{Reads, FitsNames, Notice, HasCode, IsOther, held, tree_held, zxid_held, LastHolds, Gives}
use Rattle.zk_laws.specs.Messages.{Message, Accepted, Expired, Replies, Watches_set, Notifies, Pong, Request, Connect, Restore, Ask, Ping}
use Rattle.zk_laws.proofs.Log.{Item, Lost, Took, last, good, Answer, Absent, Known, Full, Suits}
use Rattle.zk_laws.proofs.Steps.{is_behind, ends, Connection, Link, Down, Up, World, Step, Asks, Pings, Joins, Takes, rest_of, MayStep}
use Rattle.zk_laws.proofs.Steps.{stepped, By_server}
use Rattle.zk_laws.specs.ServerSteps.{Stage, Waiting, Serving, Ended, Advances, Admits, Refuses, Answers, Restores, Pongs, IsNext}
use Rattle.zk_laws.proofs.Run.{start, Move, Opens, Loses, Halts, Forgets_stale, Goes, MayGo, gone, May, moved, IsSchedule, run, NoneBehind}
use Rattle.zk_laws.proofs.Run.{AgreesWhenQuiet}
use Rattle.zk_laws.proofs.Invariant.{Ahead, IsAwaited, IsSure, IsSettled, IsOpening, IsTalking, IsKeptUp, IsKeptBy, IsKept}
use Rattle.zk_laws.specs.Laws.{IsTrueWrite, HasChange, AreRestored}
use Rattle.zk_laws.proofs.Stamps.{tree_at_held}
use Rattle.zk_laws.proofs.Whole.{next_is, start_kept, run_kept}

-- The last seen zxid never falls

last_if : (b : Bool) (low : ℕ) (x y : World) → low ≤ last x.log → low ≤ last y.log → low ≤ last (if◌then◌else◌ {A = World} b x y).log
last_if true low x y p q = p
last_if false low x y p q = q

last_step : (h : History) (step : Step) (c : Connection) (log : List Item) → last log ≤ last (stepped h step c log).log
last_step h (Asks q) c log = omega arith
last_step h Pings c log = omega arith
last_step h (Joins parts) c log = omega arith
last_step h (Takes m) c log = last_if (is_behind log m) (last log) (record { log = Lost ∷ log; link = Down })
    (record { log = Took m ∷ log; link = if ends m then Down else Up (record c { messages = rest_of c.messages }) })
    (omega arith) (omega arith)
last_step h (By_server (Advances sent)) c log = omega arith
last_step h (By_server (Admits seen)) c log = omega arith
last_step h (By_server (Refuses seen)) c log = omega arith
last_step h (By_server (Answers q r)) c log = omega arith
last_step h (By_server (Restores b z part sent)) c log = omega arith
last_step h (By_server Pongs) c log = omega arith

last_more : (h : History) (move : Move) (w : World) → last w.log ≤ last (moved h move w).log
last_more h (Opens place) w = omega arith
last_more h Loses w = omega arith
last_more h Halts w = omega arith
last_more h Forgets_stale w = omega arith
last_more h (Goes step) w = go w.link
  where
    go : (link : Link) → last w.log ≤ last (gone h step link w.log).log
    go Down = omega arith
    go (Up c) = last_step h step c w.log

pub never_falls : (h : History) (moves : List Move) (w : World) → last w.log ≤ last (run h moves w).log
never_falls h [] w = omega arith
never_falls h (move ∷ moves) w = let rest = never_falls h moves (moved h move w) in let one = last_more h move w in omega arith

-- No message is behind

pub none_behind : (h : History) (w : World) → IsKept h w → NoneBehind w
none_behind h w k c m e next = go c.talking refl (subst (λ (l : Link). IsKeptBy h w.log l) e k)
  where
    go : (b : Bool) → c.talking ≡ b → IsKeptUp h w.log c c.talking → is_behind w.log m ≡ false
    go true f k =
        let t : IsTalking h w.log c = subst (λ (b : Bool). IsKeptUp h w.log c b) f k in
        let a : Ahead h Data [] (m ∷ rest_of c.messages) w.log (IsSettled h Data [] c.requests c.place c.watches) =
        subst (λ (ms : List Message). Ahead h Data [] ms w.log (IsSettled h Data [] c.requests c.place c.watches))
        (next_is m c.messages next) (t.ahead Data []) in
        a.1
    go false f k = on c.stage (subst (λ (b : Bool). IsKeptUp h w.log c b) f k).opening
      where
        on : (st : Stage) → IsOpening h w.log st c.requests c.messages c.place → is_behind w.log m ≡ false
        on Waiting o = absurd (subst (λ (ms : List Message). IsNext m ms) o.1 next)
        on Serving o = let x : m ≡ Accepted = subst (λ (ms : List Message). IsNext m ms) o.1 next in rw x refl
        on Ended o = let x : m ≡ Expired = subst (λ (ms : List Message). IsNext m ms) o.1 next in rw x refl

pub never_behind : (h : History) → IsHistory h → (saved : ℕ) (moves : List Move) → IsSchedule h moves (start saved)
    → NoneBehind (run h moves (start saved))
never_behind h is saved moves may = none_behind h (run h moves (start saved)) (run_kept h is moves (start saved) may (start_kept h saved))

-- Quiet agreement

pub not_awaited : (side : Side) (path : Text) (a : Answer) (z : ℕ) (requests : List Request)
    → AreRestored requests → IsAwaited side path a z requests → ⊥
not_awaited side path a z [] r w = w
not_awaited side path a z (Restore b x p ∷ rest) r w = r
not_awaited side path a z (Connect seen ∷ rest) r w = w
not_awaited side path a z (Ask q ∷ rest) r w = w
not_awaited side path a z (Ping ∷ rest) r w = w

pub agrees : (h : History) (w : World) → IsKept h w → AgreesWhenQuiet h w
agrees h w k c e talking none restored side path answer g = go (good side path w.log) g settled.1
  where
    t : IsTalking h w.log c
    t = subst (λ (b : Bool). IsKeptUp h w.log c b) talking (subst (λ (l : Link). IsKeptBy h w.log l) e k)

    settled : IsSettled h side path c.requests c.place c.watches w.log
    settled = (subst (λ (ms : List Message). Ahead h side path ms w.log (IsSettled h side path c.requests c.place c.watches))
        none (t.ahead side path)).1

    go : (k : Option Answer) → k ≡ Some answer → IsSure h side path c.requests c.place c.watches (last w.log) k
        → Suits answer (view side (tree_held h c.place) (path_of path))
    go None f s = absurd cc
    go (Some a) f (inl covered) = let same : a ≡ answer = cc in
        subst (λ (b : Answer). Suits b (view side (tree_held h c.place) (path_of path))) same covered.fits
    go (Some a) f (inr x) = absurd (not_awaited side path a (last w.log) c.requests restored x)

pub agrees_when_quiet : (h : History) → IsHistory h → (saved : ℕ) (moves : List Move) → IsSchedule h moves (start saved)
    → AgreesWhenQuiet h (run h moves (start saved))
agrees_when_quiet h is saved moves may = agrees h (run h moves (start saved)) (run_kept h is moves (start saved) may (start_kept h saved))

-- Answers are true at their zxids

-- the message is a reply that a server gave somewhere
abbrev IsGiven : History → Message → Type 0
IsGiven h (Replies q z r) = (n : ℕ) × (call : Call) × (question_of call ≡ q) × (z ≡ zxid_held h n) × Gives h n call r
IsGiven h _ = ⊤

abbrev AllGiven : History → List Message → Type 0
AllGiven h [] = ⊤
AllGiven h (m ∷ ms) = IsGiven h m × AllGiven h ms

abbrev IsGivenItem : History → Item → Type 0
IsGivenItem h (Took m) = IsGiven h m
IsGivenItem h _ = ⊤

abbrev AllTaken : History → List Item → Type 0
AllTaken h [] = ⊤
AllTaken h (item ∷ log) = IsGivenItem h item × AllTaken h log

abbrev IsGivenOn : History → Link → Type 0
IsGivenOn h Down = ⊤
IsGivenOn h (Up c) = AllGiven h c.messages

abbrev IsHonest : History → World → Type 0
IsHonest h w = AllTaken h w.log × IsGivenOn h w.link

given_more : (h : History) (ms new : List Message) → AllGiven h ms → AllGiven h new → AllGiven h (ms ++ new)
given_more h [] new a b = b
given_more h (m ∷ ms) new a b = (a.0, given_more h ms new a.1 b)

given_notices : (h : History) (ns : List Notice) → AllGiven h (map Notifies ns)
given_notices h [] = tt
given_notices h (n ∷ ns) = (tt, given_notices h ns)

given_rest : (h : History) (ms : List Message) → AllGiven h ms → AllGiven h (rest_of ms)
given_rest h [] a = tt
given_rest h (m ∷ ms) a = a.1

given_first : (h : History) (m : Message) (ms : List Message) → IsNext m ms → AllGiven h ms → IsGiven h m
given_first h m [] n a = absurd n
given_first h m (x ∷ xs) n a = subst (λ (y : Message). IsGiven h y) (sym n) a.0

honest_step : (h : History) (step : Step) (c : Connection) (log : List Item)
    → MayStep h step c log → AllTaken h log → AllGiven h c.messages → IsHonest h (stepped h step c log)
honest_step h (Asks q) c log may t g = (t, g)
honest_step h Pings c log may t g = (t, g)
honest_step h (Joins parts) c log may t g = ((tt, t), given_rest h c.messages g)
honest_step h (Takes m) c log may t g = go (is_behind log m) (ends m)
  where
    go : (b d : Bool) → IsHonest h (if b then record { log = Lost ∷ log; link = Down }
        else record { log = Took m ∷ log; link = if d then Down else Up (record c { messages = rest_of c.messages }) })
    go true d = ((tt, t), tt)
    go false true = ((given_first h m c.messages may.0 g, t), tt)
    go false false = ((given_first h m c.messages may.0 g, t), given_rest h c.messages g)
honest_step h (By_server (Advances sent)) c log may t g = (t, given_more h c.messages (map Notifies sent) g (given_notices h sent))
honest_step h (By_server (Admits seen)) c log may t g = (t, given_more h c.messages (Accepted ∷ []) g (tt, tt))
honest_step h (By_server (Refuses seen)) c log may t g = (t, given_more h c.messages (Expired ∷ []) g (tt, tt))
honest_step h (By_server (Answers q r)) c log may t g =
    (t, given_more h c.messages (Replies (question_of q) (zxid_held h c.place) r ∷ []) g ((c.place, q, refl, refl, may.2), tt))
honest_step h (By_server (Restores b z part sent)) c log may t g = (
  t,
  given_more h c.messages (map Notifies sent ++ Watches_set b (zxid_held h c.place) ∷ []) g
      (given_more h (map Notifies sent) (Watches_set b (zxid_held h c.place) ∷ []) (given_notices h sent) (tt, tt)),
)
honest_step h (By_server Pongs) c log may t g = (t, given_more h c.messages (Pong ∷ []) g (tt, tt))

honest_move : (h : History) (move : Move) (w : World) → May h move w → IsHonest h w → IsHonest h (moved h move w)
honest_move h (Opens place) w may k = ((tt, k.0), tt)
honest_move h Loses w may k = ((tt, k.0), tt)
honest_move h Halts w may k = ((tt, k.0), tt)
honest_move h Forgets_stale w may k = ((tt, k.0), k.1)
honest_move h (Goes step) w may k = go w.link may k.1
  where
    go : (link : Link) → MayGo h step link w.log → IsGivenOn h link → IsHonest h (gone h step link w.log)
    go Down m g = absurd m
    go (Up c) m g = honest_step h step c w.log m k.0 g

honest_run : (h : History) (moves : List Move) (w : World) → IsSchedule h moves w → IsHonest h w → IsHonest h (run h moves w)
honest_run h [] w may k = k
honest_run h (move ∷ moves) w may k = honest_run h moves (moved h move w) may.1 (honest_move h move w may.0 k)

taken_given : (h : History) (m : Message) (log : List Item) → Among (Took m) log → AllTaken h log → IsGiven h m
taken_given h m [] a t = absurd a
taken_given h m (item ∷ log) (inl e) t = subst (λ (i : Item). IsGivenItem h i) (sym e) t.0
taken_given h m (item ∷ log) (inr a) t = taken_given h m log a t.1

given_read : (h : History) (is : IsHistory h) (n : ℕ) (q : Call) (r : Result)
    → Gives h n q r → Reads (tree_at h (zxid_held h n)) (question_of q) r
given_read h is n (Exists p w) NoNode g = subst (λ (t : Tree). Suits Absent (view Data t (path_of p))) (sym (tree_at_held h n is)) g
given_read h is n (Exists p w) (Found f) g =
    subst (λ (t : Tree). Suits (Known (data_stat_of f)) (view Data t (path_of p))) (sym (tree_at_held h n is)) g
given_read h is n (GetData p w) NoNode g = subst (λ (t : Tree). Suits Absent (view Data t (path_of p))) (sym (tree_at_held h n is)) g
given_read h is n (GetData p w) (Read b f) g =
    subst (λ (t : Tree). Suits (Full b (data_stat_of f)) (view Data t (path_of p))) (sym (tree_at_held h n is)) g
given_read h is n (GetChildren p w) NoNode g = subst (λ (t : Tree). Suits Absent (view Child t (path_of p))) (sym (tree_at_held h n is)) g
given_read h is n (GetChildren p w) (Listing ns z) g =
    subst (λ (t : Tree). FitsNames (names_of ns z) (view Child t (path_of p)) × Suits (Known (data_stat_of z)) (view Data t (path_of p)))
    (sym (tree_at_held h n is)) g
given_read h is n _ _ g = tt

last_at : (low : ℕ) (earlier : List Transaction) (one : Transaction)
    → Among one (earlier ++ one ∷ []) × (one.zxid ≡ newest low (earlier ++ one ∷ []))
last_at low [] one = (inl refl, refl)
last_at low (x ∷ earlier) one = let r = last_at x.zxid earlier one in (inr r.0, r.1)

-- the last of some transactions is one of them, with the newest zxid
last_holds : (low : ℕ) (c : Change) (txs : List Transaction)
    → LastHolds c txs → (one : Transaction) × Among one txs × (one.zxid ≡ newest low txs) × Among c one.changes
last_holds low c txs l =
    let r = last_at low l.0 l.1 in (
      l.1,
      subst (λ (t : List Transaction). Among l.1 t) (sym l.2) r.0,
      subst (λ (t : List Transaction). l.1.zxid ≡ newest low t) (sym l.2) r.1,
      l.3,
    )

among_take : (n : ℕ) (x : Transaction) (txs : List Transaction) → Among x (take n txs) → Among x txs
among_take zero x txs a = absurd a
among_take (suc n) x [] a = absurd a
among_take (suc n) x (y ∷ ys) (inl e) = inl e
among_take (suc n) x (y ∷ ys) (inr a) = inr (among_take n x ys a)

holds_change : (h : History) (n : ℕ) (c : Change) → LastHolds c (held h n) → HasChange h (zxid_held h n) c
holds_change h n c l = let r = last_holds 0 c (held h n) l in (r.0, among_take n r.0 h.transactions r.1, r.2, r.3)

-- each call is refused with every code that means no other thing
pub refusal : (h : History) (place : ℕ) (q : Call) (code : ℤ)
    → (Gives h place q (Refused code) → IsOther code) × (IsOther code → Gives h place q (Refused code))
refusal h place (Exists a b) code = (λ g. g, λ g. g)
refusal h place (GetData a b) code = (λ g. g, λ g. g)
refusal h place (GetChildren a b) code = (λ g. g, λ g. g)
refusal h place (SetData a b c) code = (λ g. g, λ g. g)
refusal h place (Create a b c) code = (λ g. g, λ g. g)
refusal h place (Delete a b) code = (λ g. g, λ g. g)
refusal h place Close code = (λ g. g, λ g. g)
refusal h place (Raw a b) code = (λ g. g, λ g. g)

pub coded : (h : History) (place : ℕ) (q : Call) (r : Result) → Gives h place q r → HasCode r
coded h place q (Refused code) g = (refusal h place q code).0 g
coded h place q _ g = tt

pub given_write : (h : History) (n : ℕ) (q : Call) (r : Result) → Gives h n q r → IsTrueWrite h q (zxid_held h n) r
given_write h n (SetData p content v) (Found f) g = holds_change h n (Sets (path_of p) content) g.0
given_write h n (Create p content s) (Made at) g = (g.0, g.1, holds_change h n (Creates (path_of at) content g.0) g.2)
given_write h n (Delete p v) Done g = holds_change h n (Deletes (path_of p)) g
given_write h n _ _ g = tt

pub reads_true : (h : History) → IsHistory h → (saved : ℕ) (moves : List Move) → IsSchedule h moves (start saved)
    → (question : Question) (zxid : ℕ) (result : Result)
    → Among (Took (Replies question zxid result)) (run h moves (start saved)).log → Reads (tree_at h zxid) question result
reads_true h is saved moves may q z r a =
    let k = honest_run h moves (start saved) may ((tt, tt), tt) in
    let g = taken_given h (Replies q z r) (run h moves (start saved)).log a k.0 in
    subst (λ (x : Question). Reads (tree_at h z) x r) g.2
    (subst (λ (y : ℕ). Reads (tree_at h y) (question_of g.1) r) (sym g.3) (given_read h is g.0 g.1 r g.4))

-- a write that a server answers with 0 is a change of its last transaction
pub writes_true : (h : History) (step : Step) (c : Connection) (log : List Item) (call : Call) (result : Result)
    → step ≡ By_server (Answers call result) → MayStep h step c log → IsTrueWrite h call (zxid_held h c.place) result
writes_true h step c log call result e may = given_write h c.place call result (subst (λ (s : Step). MayStep h s c log) e may).2
