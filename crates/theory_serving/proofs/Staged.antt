-- The request that stands first is for the stage at which its server is: only the first request of a connection is a ConnectRequest, and
-- only it is processed before the session is accepted.
use Rattle.std.proofs.Common.{ℕ, zero, suc, ℤ, ◌≡◌, ◌≢◌, Bool, true, false, List, [], ◌∷◌, ◌++◌, map, drop, length, refl, sym, subst, arith}
use Rattle.std.specs.List.{AllByRecursion}
use Rattle.std.specs.Bool.{⊤}
use Rattle.zk_nodes.specs.History.{History, IsHistory}
use Rattle.zk_turns.specs.Turns.{Start, Item, Turned, Forgets, Halts, Input, Bytes, Cut, Now, Call as Calling, Opened as Opening}
use Rattle.zk_turns.specs.Past.{Past, Began, Asked, Pinged, Took as Takes_in, Accepted as Accepts, state_of, last_of, lists_of, is_talking}
use Rattle.zk_turns.specs.Taken.{past_of}
use Rattle.zk_turns.proofs.Ranged.{all_append}
use Rattle.zk_watches.specs.Lists.{Lists}
use Rattle.zk_watches.specs.Parts.{parts}
use Rattle.zk_laws.specs.Messages.{Message, Request, Connect, Restore, Ask, Ping, from_zero}
use Rattle.zk_laws.specs.ServerSteps.{Stage, Waiting, Serving, Ended, ServerStep, Advances, Admits, Refuses, Answers, Restores, Pongs}
use Rattle.zk_laws.specs.Served.{Sent, Entry, Goes_on, Serves, items_in, Wire, new_wire, wire_of, wire_past, wire_on, is_going, unread}
use Rattle.zk_laws.specs.Served.{requests, part_requests, WasSent, IsServing}
use Rattle.zk_laws.proofs.Log.{Item as Seen}
use Rattle.zk_laws.proofs.Seen.{seen}
use Rattle.zk_laws.proofs.Matching.{messages, connection, Matches}
use Rattle.zk_laws.proofs.Invariant.{IsOpening, IsKeptUp}
use Rattle.zk_laws.proofs.Matching.{AllAsked}
use Rattle.zk_laws.proofs.Moving.{schedule_here}
use Rattle.zk_laws.proofs.Reaching.{kept_by_run}
use Rattle.theory_serving.specs.Wires.{IsFor}
use Rattle.theory_serving.proofs.Waiting.{first_all}

-- ---- only the first request of a connection is a ConnectRequest

abbrev IsNoConnect : Request → Type 0
IsNoConnect (Connect seen) = ⊥
IsNoConnect request = ⊤

abbrev IsLater : Sent → Type 0
IsLater sent = IsNoConnect sent.request

-- those after the first
abbrev AreLater : List Sent → Type 0
AreLater [] = ⊤
AreLater (first ∷ more) = AllByRecursion IsLater more

more_later : (first more : List Sent) → AreLater first → AllByRecursion IsLater more → AreLater (first ++ more)
more_later [] [] a b = tt
more_later [] (sent ∷ more) a b = b.1
more_later (sent ∷ first) more a b = all_append IsLater first more a b

parts_later : (relative : ℤ) (ps : List Lists) → AllByRecursion IsLater (part_requests relative ps)
parts_later relative [] = tt
parts_later relative (part ∷ []) = (tt, tt)
parts_later relative (part ∷ next ∷ more) = (tt, parts_later relative (next ∷ more))

requests_later : (start : Start) (past : Past) → AreLater (requests start past)
requests_later start [] = tt
requests_later start (Began ∷ past) = tt
requests_later start (Takes_in (Accepts welcome) ∷ past) =
    more_later (requests start past) _ (requests_later start past) (parts_later (last_of start past) (parts (lists_of past)))
requests_later start (Asked ticket call ∷ past) = more_later (requests start past) _ (requests_later start past) (tt, tt)
requests_later start (Pinged ∷ past) = more_later (requests start past) _ (requests_later start past) (tt, tt)
requests_later start (Takes_in _ ∷ past) = requests_later start past
requests_later start (_ ∷ past) = requests_later start past

behind_first : (n : ℕ) (sent : List Sent) (first : Sent) (more : List Sent)
    → drop (suc n) sent ≡ first ∷ more → AreLater sent → IsLater first
behind_first n [] first more e a = absurd cc
behind_first n (s ∷ sent) first more e a = first_all IsLater n sent first more e a

-- ---- a server that has processed nothing has accepted nobody

abbrev IsNew : Wire → Type 0
IsNew wire = wire.processed ≡ 0 → wire.server.stage ≢ Serving

new_past : (place : ℕ) (item : Item) (wire : Wire) → IsNew wire → IsNew (wire_past place item wire)
new_past place (Turned turn) wire new = by turn.input
  where
    by : (input : Input) → IsNew
        (elim input [ Opening ↦ new_wire place | Bytes bytes ↦ record wire { coming = drop (length bytes) wire.coming } | _ ↦ wire ])
    by Opening = λ e f. absurd cc
    by (Bytes bytes) = new
    by Cut = new
    by (Now moment) = new
    by (Calling ticket call) = new
new_past place Forgets wire new = new
new_past place Halts wire new = new

new_on : (h : History) (step : ServerStep) (payloads : List (List ℕ)) (wire : Wire) → IsNew wire → IsNew (wire_on h step payloads wire)
new_on h (Advances sent) payloads wire new e = new (omega (arith, e))
new_on h (Admits seen) payloads wire new e = absurd (omega (arith, e))
new_on h (Refuses seen) payloads wire new e = absurd (omega (arith, e))
new_on h (Answers call result) payloads wire new e = absurd (omega (arith, e))
new_on h (Restores is_last relative part sent) payloads wire new e = absurd (omega (arith, e))
new_on h Pongs payloads wire new e = absurd (omega (arith, e))

new_wire_of : (h : History) (entries : List Entry) → IsNew (wire_of h entries)
new_wire_of h [] = λ e f. absurd cc
new_wire_of h (Goes_on place item ∷ earlier) = new_past place item (wire_of h earlier) (new_wire_of h earlier)
new_wire_of h (Serves step payloads ∷ earlier) = new_on h step payloads (wire_of h earlier) (new_wire_of h earlier)

-- ---- the first that is not processed

module _ (h : History) (is : IsHistory h) (start : Start) (entries : List Entry) (first : Sent) (more : List Sent) where
  abbrev past : Past
  past = past_of start (items_in entries)

  abbrev wire : Wire
  wire = wire_of h entries

  abbrev stage : Stage
  stage = wire.server.stage

  abbrev asked_of : List Request
  asked_of = map (λ s. s.request) (first ∷ more)

  first_is : {A : Type 0} {x y : A} {xs ys : List A} → x ∷ xs ≡ y ∷ ys → x ≡ y
  first_is e = cc

  starting : (log : List Seen) (at : Stage) (messages : List Message) (place : ℕ)
      → IsOpening h log at asked_of messages place → IsFor first.request at
  starting log Waiting messages place o = subst (λ (r : Request). IsFor r Waiting) (sym (first_is o.0)) (λ e. absurd cc)
  starting log Serving messages place o = absurd cc
  starting log Ended messages place o = absurd cc

  talking : unread start past wire ≡ first ∷ more → stage ≢ Waiting → (request : Request) → first.request ≡ request → IsFor request stage
  talking e later (Connect seen) same = by wire.processed refl
    where
      by : (n : ℕ) → wire.processed ≡ n → stage ≢ Serving
      by zero f = new_wire_of h entries f
      by (suc n) f =
          let at : drop (suc n) (requests start past) ≡ first ∷ more = subst (λ (k : ℕ). drop k (requests start past) ≡ first ∷ more) f e in
          absurd (subst IsNoConnect same (behind_first n (requests start past) first more at (requests_later start past)))
  talking e later (Restore is_last relative part) same = later
  talking e later (Ask call) same = later
  talking e later Ping same = later

  by_state : unread start past wire ≡ first ∷ more → (messages : List Message) (talks : Bool)
      → IsKeptUp h (seen start past) (connection talks (map (λ s. s.request) (unread start past wire)) messages wire.server) talks
      → IsFor first.request stage
  by_state e messages false kept = starting (seen start past) stage messages wire.server.place (subst (λ (sent : List Sent).
      IsOpening h (seen start past) stage (map (λ s. s.request) sent) messages wire.server.place) e kept.opening)
  by_state e messages true kept = talking e kept.stage first.request refl

  pub for_stage : AllAsked (items_in entries)
      → IsServing h start entries → is_going past ≡ true → unread start past wire ≡ first ∷ more → IsFor first.request stage
  for_stage asked serving going e =
      let m : Matches h start (WasSent entries) past wire = schedule_here h is start entries asked serving in
      let g = m.going going in
      by_state e (messages g.0) (is_talking (state_of past)) (kept_by_run h (from_zero start.last) is (is_talking (state_of past))
      (seen start past) (map (λ s. s.request) (unread start past wire)) (messages g.0) wire.server g.2.kept)
