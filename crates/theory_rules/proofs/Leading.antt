-- Where a step leads, and what stands next after it: step by step, computed from the definition of the step, the server's end and what is
-- on its way.
use Rattle.std.proofs.Common.{◌^◌, ℕ, zero, suc, ◌≡◌, ◌≤◌, ◌<◌, ◌+◌, Bool, true, false, ◌||◌, List, [], ◌∷◌, ◌++◌, drop, length, map}
use Rattle.std.proofs.Common.{flat_map, refl, ap, subst, inl, inr, arith}
use Rattle.std.specs.Prelude.{◌≢◌, not}
use Rattle.std.proofs.lemmas.Bool.{and_from}
use Rattle.std.specs.List.{AllByRecursion}
use Rattle.zk_frames.specs.Frame.{frame, joined, length_field}
use Rattle.zk_nodes.specs.History.{Change, History}
use Rattle.zk_watches.specs.Lists.{Lists}
use Rattle.zk_conversation.specs.Calls.{Call, Exists, GetData, GetChildren, SetData, Create, Delete, Close, Raw}
use Rattle.zk_conversation.specs.Questions.{question_of}
use Rattle.zk_conversation.specs.Results.{Result}
use Rattle.zk_turns.specs.Turns.{Start, Output, Forgets, Bytes, Cut, Now, Call as Calling}
use Rattle.zk_turns.specs.Past.{Past, is_open, is_talking, has_halted, held_of, state_of}
use Rattle.zk_turns.specs.Taken.{past_of}
use Rattle.zk_turns.specs.Meaning.{Among}
use Rattle.zk_laws.specs.Server.{Notice, Watches, fires, fires_all, leaves_set, leaves_set_all, sets, tree_held, part_sets, times, AreSent}
use Rattle.zk_laws.specs.Laws.{AreRestored}
use Rattle.zk_laws.specs.Messages.{Request, Connect, Restore, Ask, Ping}
use Rattle.zk_laws.specs.ServerSteps.{Serving, Ended, ServerStep, Advances, Admits, Refuses, Answers, Restores, Pongs, changes_next}
use Rattle.zk_laws.specs.Served.{Sent, Entry, Goes_on, Serves, wire_of, items_in, is_going, IsServing, Served}
use Rattle.zk_laws.specs.Headline.{IsQuietAt}
use Rattle.zk_laws.specs.Parsed.{IsCutInto}
use Rattle.theory_serving.specs.Wires.{item_of}
use Rattle.theory_rules.specs.Next.{end_of}
use Rattle.theory_rules.specs.Leads.{IsBehind, awaited}

-- ---- the server's end

pub advanced : (h : History) (entries : List Entry) (sent : List Notice) (payloads : List (List ℕ))
    → IsBehind (suc (end_of h entries).place) (leaves_set_all (changes_next h (end_of h entries).place) (end_of h entries).watches)
    (end_of h entries).stage (end_of h (Serves (Advances sent) payloads ∷ entries))
advanced h entries sent payloads = record { place = refl; watches = λ side path. refl; stage = refl }

pub admitted : (h : History) (entries : List Entry) (seen : ℕ) (payloads : List (List ℕ))
    → IsBehind (end_of h entries).place (end_of h entries).watches Serving (end_of h (Serves (Admits seen) payloads ∷ entries))
admitted h entries seen payloads = record { place = refl; watches = λ side path. refl; stage = refl }

pub refused : (h : History) (entries : List Entry) (seen : ℕ) (payloads : List (List ℕ))
    → IsBehind (end_of h entries).place (end_of h entries).watches Ended (end_of h (Serves (Refuses seen) payloads ∷ entries))
refused h entries seen payloads = record { place = refl; watches = λ side path. refl; stage = refl }

pub answered : (h : History) (entries : List Entry) (call : Call) (result : Result) (payloads : List (List ℕ)) → call ≢ Close
    → IsBehind (end_of h entries).place (λ side path. (end_of h entries).watches side path || sets (question_of call) result side path)
    Serving (end_of h (Serves (Answers call result) payloads ∷ entries))
answered h entries (Exists path watch) result payloads other = record { place = refl; watches = λ side path. refl; stage = refl }
answered h entries (GetData path watch) result payloads other = record { place = refl; watches = λ side path. refl; stage = refl }
answered h entries (GetChildren path watch) result payloads other = record { place = refl; watches = λ side path. refl; stage = refl }
answered h entries (SetData path content version) result payloads other = record { place = refl; watches = λ side path. refl; stage = refl }
answered h entries (Create path content mode) result payloads other = record { place = refl; watches = λ side path. refl; stage = refl }
answered h entries (Delete path version) result payloads other = record { place = refl; watches = λ side path. refl; stage = refl }
answered h entries Close result payloads other = absurd (other refl)
answered h entries (Raw operation bytes) result payloads other = record { place = refl; watches = λ side path. refl; stage = refl }

pub closed : (h : History) (entries : List Entry) (result : Result) (payloads : List (List ℕ))
    → (end_of h (Serves (Answers Close result) payloads ∷ entries)).stage ≡ Ended
closed h entries result payloads = refl

pub restored : (h : History) (entries : List Entry) (is_last : Bool) (relative : ℕ) (part : Lists) (sent : List Notice)
    (payloads : List (List ℕ))
    → IsBehind (end_of h entries).place (λ side path. (end_of h entries).watches side path
    || part_sets relative (tree_held h (end_of h entries).place) part side path)
    (end_of h entries).stage (end_of h (Serves (Restores is_last relative part sent) payloads ∷ entries))
restored h entries is_last relative part sent payloads = record { place = refl; watches = λ side path. refl; stage = refl }

pub ponged : (h : History) (entries : List Entry) (payloads : List (List ℕ))
    → IsBehind (end_of h entries).place (end_of h entries).watches (end_of h entries).stage (end_of h (Serves Pongs payloads ∷ entries))
ponged h entries payloads = record { place = refl; watches = λ side path. refl; stage = refl }

-- ---- what is on its way, and what stands next

pub comes_behind : (h : History) (entries : List Entry) (step : ServerStep) (payloads : List (List ℕ))
    → (wire_of h (Serves step payloads ∷ entries)).coming ≡ (wire_of h entries).coming ++ flat_map frame payloads
comes_behind h entries step payloads = refl

drop_none : {A : Type 0} (n : ℕ) (xs : List A) → drop (n + 0) xs ≡ drop n xs
drop_none n xs = ap (λ (k : ℕ). drop k xs) (omega arith)

pub still_next : (h : History) (start : Start) (entries : List Entry) (sent : List Notice) (payloads : List (List ℕ))
    → awaited h start (Serves (Advances sent) payloads ∷ entries) ≡ awaited h start entries
still_next h start entries sent payloads =
    ap (λ (all : List Sent). map (λ sent. sent.request) all) (drop_none (wire_of h entries).processed _)

pub next_done : (h : History) (start : Start) (entries : List Entry) (step : ServerStep) (payloads : List (List ℕ)) (request : Request)
    (others : List Request) → ((sent : List Notice) → step ≢ Advances sent)
    → awaited h start entries ≡ request ∷ others → awaited h start (Serves step payloads ∷ entries) ≡ others
next_done h start entries step payloads request others on e = go step on
  where
    behind_it : (n : ℕ) (all : List Sent)
        → map (λ sent. sent.request) (drop n all) ≡ request ∷ others → map (λ sent. sent.request) (drop (suc n) all) ≡ others
    behind_it zero [] f = absurd cc
    behind_it zero (sent ∷ more) f = cc
    behind_it (suc n) [] f = absurd cc
    behind_it (suc n) (sent ∷ more) f = behind_it n more f

    one_less : (n : ℕ) (all : List Sent)
        → map (λ sent. sent.request) (drop n all) ≡ request ∷ others → map (λ sent. sent.request) (drop (n + 1) all) ≡ others
    one_less n all f = let more : suc n ≡ n + 1 = omega arith in
        subst (λ (k : ℕ). map (λ sent. sent.request) (drop k all) ≡ others) more (behind_it n all f)

    go : (step : ServerStep) → ((sent : List Notice) → step ≢ Advances sent) → awaited h start (Serves step payloads ∷ entries) ≡ others
    go (Advances sent) on = absurd (on sent refl)
    go (Admits seen) on = one_less (wire_of h entries).processed _ e
    go (Refuses seen) on = one_less (wire_of h entries).processed _ e
    go (Answers call result) on = one_less (wire_of h entries).processed _ e
    go (Restores is_last relative part sent) on = one_less (wire_of h entries).processed _ e
    go Pongs on = one_less (wire_of h entries).processed _ e

-- ---- what leaves the wire as it was

pub cut_stays : (h : History) (entries : List Entry) (place : ℕ) (outputs : List Output)
    → wire_of h (Goes_on place (item_of Cut outputs) ∷ entries) ≡ wire_of h entries
cut_stays h entries place outputs = refl

pub tick_stays : (h : History) (entries : List Entry) (place moment : ℕ) (outputs : List Output)
    → wire_of h (Goes_on place (item_of (Now moment) outputs) ∷ entries) ≡ wire_of h entries
tick_stays h entries place moment outputs = refl

pub call_stays : (h : History) (entries : List Entry) (place ticket : ℕ) (call : Call) (outputs : List Output)
    → wire_of h (Goes_on place (item_of (Calling ticket call) outputs) ∷ entries) ≡ wire_of h entries
call_stays h entries place ticket call outputs = refl

pub forgetting_stays : (h : History) (entries : List Entry) (place : ℕ) → wire_of h (Goes_on place Forgets ∷ entries) ≡ wire_of h entries
forgetting_stays h entries place = refl

pub bytes_stay : (h : History) (entries : List Entry) (place : ℕ) (bytes : List ℕ) (outputs : List Output)
    → (end_of h (Goes_on place (item_of (Bytes bytes) outputs) ∷ entries) ≡ end_of h entries)
    × ((wire_of h (Goes_on place (item_of (Bytes bytes) outputs) ∷ entries)).processed ≡ (wire_of h entries).processed)
bytes_stay h entries place bytes outputs = (refl, refl)

-- ---- what is quiet

none_restores : (requests : List Request)
    → ((is_last : Bool) (relative : ℕ) (part : Lists) → Among (Restore is_last relative part) requests → ⊥) → AreRestored requests
none_restores [] none = tt
none_restores (Connect seen ∷ more) none = none_restores more (λ l r p m. none l r p (inr m))
none_restores (Restore is_last relative part ∷ more) none = absurd (none is_last relative part (inl refl))
none_restores (Ask call ∷ more) none = none_restores more (λ l r p m. none l r p (inr m))
none_restores (Ping ∷ more) none = none_restores more (λ l r p m. none l r p (inr m))

pub quiet_so : (h : History) (start : Start) (entries : List Entry)
    → is_talking (state_of (past_of start (items_in entries))) ≡ true → is_going (past_of start (items_in entries)) ≡ true
    → (wire_of h entries).coming ≡ [] → held_of (past_of start (items_in entries)) ≡ []
    → ((is_last : Bool) (relative : ℕ) (part : Lists) → Among (Restore is_last relative part) (awaited h start entries) → ⊥)
    → IsQuietAt h start entries
quiet_so h start entries talks on received taken none =
    record { going = on; talking = talks; received = received; taken = taken; restored = none_restores (awaited h start entries) none }

pub going_so : (past : Past) → is_open (state_of past) ≡ true → has_halted past ≡ false → is_going past ≡ true
going_so past up on = and_from (is_open (state_of past)) (not (has_halted past)) up (ap not on)

pub served_so : (h : History) (start : Start) (entries : List Entry) → IsServing h start entries → Served h start (items_in entries)
served_so h start entries s = record { entries = entries; whole = refl; may = s }

-- ---- notices

pub counted_so : (fired sent : List Notice) → ((notice : Notice) → times notice sent ≤ times notice fired)
    → ((notice : Notice) → 0 < times notice fired → 0 < times notice sent) → AreSent fired sent
counted_so fired sent most all n = (most n, all n)

pub first_tells : (change : Change) (changes : List Change) (watches : Watches)
    → fires_all (change ∷ changes) watches ≡ fires change watches ++ fires_all changes (leaves_set change watches)
first_tells change changes watches = refl

pub none_tells : (watches : Watches) → fires_all [] watches ≡ []
none_tells watches = refl

-- ---- frames

pub cut_so : (payloads : List (List ℕ)) (rest : List ℕ) → AllByRecursion (λ payload. length payload < 2 ^ 31) payloads
    → (4 ≤ length rest → length rest < 4 + length_field rest) → IsCutInto payloads rest (joined payloads ++ rest)
cut_so payloads rest told short = record { whole = refl; told = told; short = short }
