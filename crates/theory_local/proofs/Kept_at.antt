-- The invariant of a client whose servers keep to the model at some paths, and the steps that keep it: that of the laws, asked at those
-- paths alone.
use Rattle.std.proofs.Common.{ℕ, ◌≡◌, ◌<◌, ◌≤◌, max, Bool, true, false, ◌&&◌, List, [], ◌∷◌, ◌++◌, refl, ap, sym, ◌∙◌, subst, inl, inr, ◌⊎◌}
use Rattle.std.proofs.Common.{ℤ, arith, Option, Some, None, is_some, cond, map, length, suc, nat_lt, append-nil}
use Rattle.std.proofs.lemmas.Bool.Decides.{nat_tests}
use Rattle.std.proofs.lemmas.Bool.{and_right}
use Rattle.std.proofs.lemmas.List.{map-append}
use Rattle.std.specs.Prelude.{◌≢◌}
use Rattle.zk_nodes.specs.Path.{Text}
use Rattle.zk_nodes.specs.History.{Transaction, History, IsHistory}
use Rattle.zk_nodes.specs.declared.side.Side.{Side}
use Rattle.zk_conversation.specs.Calls.{Call}
use Rattle.zk_conversation.specs.Questions.{question_of}
use Rattle.zk_conversation.specs.Pending.{closes}
use Rattle.zk_conversation.specs.Results.{Result, Refused}
use Rattle.zk_watches.specs.Lists.{Lists}
use Rattle.zk_turns.specs.Turns.{IsAskable}
use Rattle.zk_laws.specs.Server.{Notice, Watches, IsOther, AreSent, fires_all, leaves_set_all, sets, tree_held, zxid_held, part_tells}
use Rattle.zk_laws.specs.Server.{part_sets, both}
use Rattle.zk_laws.specs.Messages.{Message, Accepted, Expired, Replies, Watches_set, Notifies, Pong, Request, Connect, Restore, Ask, Ping}
use Rattle.zk_laws.proofs.Log.{Item, Starts, Forgets, Took, zxid_in, last, good, left_by, AreParts}
use Rattle.zk_laws.proofs.Steps.{is_behind, restores, Connection, Up, World, By_server, served}
use Rattle.zk_laws.proofs.Run.{Goes}
use Rattle.zk_laws.proofs.Whole.{move_kept}
use Rattle.zk_laws.specs.ServerSteps.{Stage, Waiting, Serving, Ended, Advances, changes_next}
use Rattle.std.specs.List.{AllByRecursion}
use Rattle.zk_laws.proofs.Invariant.{IsRight, Ahead, IsAwaited, IsSure, IsSettled, IsUnwatched, IsStarting}
use Rattle.zk_laws.proofs.Log.{Answer}
use Rattle.zk_turns.proofs.Ranged.{all_append}
use Rattle.zk_laws.proofs.Basics.{none_sent}
use Rattle.zk_laws.proofs.Stamps.{IsNextAt, next_at}
use Rattle.zk_laws.proofs.Ahead.{ahead_right, ahead_map, ahead_same, right_less, max_zero}
use Rattle.zk_laws.proofs.AnswerMoves.{pong_ahead}
use Rattle.zk_laws.proofs.Joining.{joined}
use Rattle.theory_local.specs.LocalSteps.{GivesAt, AreToldAt}
use Rattle.zk_laws.proofs.Refusing.{left_refused}
use Rattle.theory_local.proofs.Elsewhere.{told_more, next_at_path, part_at_path, answer_at_path, denied_ahead}

-- ---- zxids rise

-- a call is refused, with the zxid 0
abbrev pub IsLow : ℕ → Result → Type 0
IsLow z (Refused code) = (z ≡ 0) × IsOther code
IsLow z _ = ⊥

-- a reply is not below, or is such a refusal
abbrev IsAbove : ℕ → Message → Type 0
IsAbove low (Replies q z r) = (low ≤ z) ⊎ IsLow z r
IsAbove low _ = Unit {0}

-- No reply in flight is below the zxid that was seen last by then, and that is not above the server's.
abbrev pub Rises : ℕ → List Message → ℕ → Type 0
Rises low [] top = low ≤ top
Rises low (m ∷ ms) top = IsAbove low m × Rises (max (zxid_in (Took m)) low) ms top

rises_more : (low top next : ℕ) (ms new : List Message) → Rises low ms top → ((l : ℕ) → l ≤ top → Rises l new next)
    → Rises low (ms ++ new) next
rises_more low top next [] new r f = f low r
rises_more low top next (m ∷ ms) new r f = (r.0, rises_more (max (zxid_in (Took m)) low) top next ms new r.1 f)

rises_notices : (low top : ℕ) (ns : List Notice) (rest : List Message) → Rises low rest top → Rises low (map Notifies ns ++ rest) top
rises_notices low top [] rest r = r
rises_notices low top (n ∷ ns) rest r = (tt, rises_notices (max 0 low) top ns rest (subst (λ l. Rises l rest top) (sym (max_zero low)) r))

rises_told : (low top next : ℕ) (ms : List Message) (ns : List Notice)
    → top ≤ next → Rises low ms top → Rises low (ms ++ map Notifies ns) next
rises_told low top next ms ns le r = rises_more low top next ms (map Notifies ns) r
    (λ l k. subst (λ new. Rises l new next) (append-nil (map Notifies ns)) (rises_notices l next ns [] (omega arith)))

pub not_behind : (log : List Item) (m : Message) (ms : List Message) (top : ℕ) → Rises (last log) (m ∷ ms) top → is_behind log m ≡ false
not_behind log (Replies q z r) ms top rises = early r rises.0
  where
    above : (r : Result) → last log ≤ z → is_behind log (Replies q z r) ≡ false
    above r le = and_right (is_some (left_by q r)) (nat_lt z (last log)) (grind (arith, nat_tests))

    early : (r : Result) → (last log ≤ z) ⊎ IsLow z r → is_behind log (Replies q z r) ≡ false
    early (Refused code) e = ap (λ o. is_some o && nat_lt z (last log)) (left_refused q code)
    early r (inl le) = above r le
    early r (inr low) = absurd low
not_behind log Accepted ms top rises = refl
not_behind log Expired ms top rises = refl
not_behind log (Watches_set b z) ms top rises = refl
not_behind log (Notifies n) ms top rises = refl
not_behind log Pong ms top rises = refl

-- ---- requests

-- a question in flight is about a path
abbrev pub IsAskableRequest : Request → Type 0
IsAskableRequest (Ask call) = IsAskable call
IsAskableRequest _ = Unit {0}

askable_parts : (z : ℕ) (parts : List Lists) → AllByRecursion IsAskableRequest (restores z parts)
askable_parts z [] = tt
askable_parts z (p ∷ []) = (tt, tt)
askable_parts z (p ∷ q ∷ parts) = (tt, askable_parts z (q ∷ parts))

-- what is awaited is so with more requests
awaited_still : (side : Side) (path : Text) (a : Answer) (z : ℕ) (requests more : List Request)
    → IsAwaited side path a z requests → IsAwaited side path a z (requests ++ more)
awaited_still side path a z (Restore b r p ∷ rest) more w =
    (w.0, elim w.1 [ inl here ↦ inl here | inr later ↦ inr (later.0, awaited_still side path a z rest more later.1) ])
awaited_still side path a z [] more w = absurd w
awaited_still side path a z (Connect seen ∷ rest) more w = absurd w
awaited_still side path a z (Ask q ∷ rest) more w = absurd w
awaited_still side path a z (Ping ∷ rest) more w = absurd w

sure_still : (h : History) (side : Side) (path : Text) (requests more : List Request) (place : ℕ) (watches : Watches) (z : ℕ)
    (k : Option Answer) → IsSure h side path requests place watches z k → IsSure h side path (requests ++ more) place watches z k
sure_still h side path requests more place watches z None s = tt
sure_still h side path requests more place watches z (Some a) (inl c) = inl c
sure_still h side path requests more place watches z (Some a) (inr w) = inr (awaited_still side path a z requests more w)

-- ---- the invariant

module _ (P : Text → Type 0) (h : History) where
  -- what is good at these paths is right
  abbrev pub AreRight : List Item → Type 0
  AreRight log = (side : Side) (path : Text) → P path → IsRight h side path log

  -- a connection on which the acceptance was not taken yet
  abbrev pub IsOpeningAt : List Item → List Request → List Message → ℕ → Stage → Type 0
  IsOpeningAt log requests messages place Waiting = (requests ≡ Connect (last log) ∷ []) × (messages ≡ [])
  IsOpeningAt log requests messages place Serving =
      (requests ≡ []) × ((ns : List Notice) × (messages ≡ Accepted ∷ map Notifies ns)) × (last log ≤ zxid_held h place)
  IsOpeningAt log requests messages place Ended = (requests ≡ []) × (messages ≡ Expired ∷ [])

  pub record IsStartingAt (log : List Item) (requests : List Request) (messages : List Message) (place : ℕ) (watches : Watches)
      (stage : Stage) : Type 0 where
    pub right : AreRight log
    pub unwatched : IsUnwatched watches
    pub opening : IsOpeningAt log requests messages place stage

  -- after it
  pub record IsTalkingAt (log : List Item) (requests : List Request) (messages : List Message) (place : ℕ) (watches : Watches)
      (stage : Stage) : Type 0 where
    pub stage_is : stage ≢ Waiting
    pub askable : AllByRecursion IsAskableRequest requests
    pub rises : Rises (last log) messages (zxid_held h place)
    pub ahead : (side : Side) (path : Text) → P path → Ahead h side path messages log (IsSettled h side path requests place watches)

  -- by whether the client talks
  abbrev pub IsKeptAt : Bool → List Item → List Request → List Message → ℕ → Watches → Stage → Type 0
  IsKeptAt false log requests messages place watches stage = IsStartingAt log requests messages place watches stage
  IsKeptAt true log requests messages place watches stage = IsTalkingAt log requests messages place watches stage

  -- ---- what is right

  pub talking_right : (log : List Item) (requests : List Request) (messages : List Message) (place : ℕ) (watches : Watches) (stage : Stage)
      → IsTalkingAt log requests messages place watches stage → AreRight log
  talking_right log requests messages place watches stage t side path p =
      ahead_right h side path messages log (IsSettled h side path requests place watches) (t.ahead side path p)

  pub kept_right_at : (b : Bool) (log : List Item) (requests : List Request) (messages : List Message) (place : ℕ) (watches : Watches)
      (stage : Stage) → IsKeptAt b log requests messages place watches stage → AreRight log
  kept_right_at false log requests messages place watches stage s = s.right
  kept_right_at true log requests messages place watches stage t = talking_right log requests messages place watches stage t

  -- an item that changes nothing
  pub right_still : (item : Item) (log : List Item) → ((side : Side) (path : Text) → good side path (item ∷ log) ≡ good side path log)
      → last (item ∷ log) ≡ last log → AreRight log → AreRight (item ∷ log)
  right_still item log same seen right side path p =
      right_less h side path (item ∷ log) log (seen, inr (same side path)) (right side path p)

  -- ---- steps while the client talks

  pub talk_requests : (log : List Item) (requests more : List Request) (messages : List Message) (place : ℕ) (watches : Watches)
      (stage : Stage) → AllByRecursion IsAskableRequest more
      → IsTalkingAt log requests messages place watches stage → IsTalkingAt log (requests ++ more) messages place watches stage
  talk_requests log requests more messages place watches stage ok t = record {
    stage_is = t.stage_is;
    askable = all_append IsAskableRequest requests more t.askable ok;
    rises = t.rises;
    ahead = λ side path p. ahead_map h side path messages log (IsSettled h side path requests place watches)
        (IsSettled h side path (requests ++ more) place watches) (t.ahead side path p)
        (λ l e. (e.0, sure_still h side path requests more place watches (last l) (good side path l) e.1));
  }

  -- nothing more is served
  pub talk_ends : (log : List Item) (requests : List Request) (messages : List Message) (place : ℕ) (watches : Watches) (stage : Stage)
      → IsTalkingAt log requests messages place watches stage → IsTalkingAt log requests messages place watches Ended
  talk_ends log requests messages place watches stage t =
      record { stage_is = λ e. cc; askable = t.askable; rises = t.rises; ahead = t.ahead }

  pub talk_tells : (log : List Item) (requests : List Request) (messages : List Message) (place : ℕ) (watches : Watches)
      (stage : Stage) (sent : List Notice)
      → IsTalkingAt log requests messages place watches stage → IsTalkingAt log requests (messages ++ map Notifies sent) place watches stage
  talk_tells log requests messages place watches stage sent t = record {
    stage_is = t.stage_is;
    askable = t.askable;
    rises = rises_told (last log) (zxid_held h place) (zxid_held h place) messages sent (omega arith) t.rises;
    ahead = λ side path p. told_more h side path requests place watches messages sent log (t.ahead side path p);
  }

  pub talk_takes : (log : List Item) (requests : List Request) (m : Message) (messages : List Message) (place : ℕ)
      (watches : Watches) (stage : Stage)
      → IsTalkingAt log requests (m ∷ messages) place watches stage → IsTalkingAt (Took m ∷ log) requests messages place watches stage
  talk_takes log requests m messages place watches stage t =
      record { stage_is = t.stage_is; askable = t.askable; rises = t.rises.1; ahead = λ side path p. (t.ahead side path p).2 }

  pub talk_forgets : (log : List Item) (requests : List Request) (messages : List Message) (place : ℕ) (watches : Watches) (stage : Stage)
      → IsTalkingAt log requests messages place watches stage → IsTalkingAt (Forgets ∷ log) requests messages place watches stage
  talk_forgets log requests messages place watches stage t = record {
    stage_is = t.stage_is;
    askable = t.askable;
    rises = subst (λ l. Rises l messages (zxid_held h place)) (sym (max_zero (last log))) t.rises;
    ahead = λ side path p. ahead_same h side path requests place watches messages (Forgets ∷ log) log
        (max_zero (last log)) refl (t.ahead side path p);
  }

  -- ---- steps before it does

  start_forgets : (log : List Item) (requests : List Request) (messages : List Message) (place : ℕ) (stage : Stage)
      → IsOpeningAt log requests messages place stage → IsOpeningAt (Forgets ∷ log) requests messages place stage
  start_forgets log requests messages place Waiting o = (o.0 ∙ ap (λ z. Connect z ∷ []) (sym (max_zero (last log))), o.1)
  start_forgets log requests messages place Serving o = (o.0, o.1, let low = o.2 in omega arith)
  start_forgets log requests messages place Ended o = o

  pub kept_forgets : (b : Bool) (log : List Item) (requests : List Request) (messages : List Message) (place : ℕ)
      (watches : Watches) (stage : Stage)
      → IsKeptAt b log requests messages place watches stage → IsKeptAt b (Forgets ∷ log) requests messages place watches stage
  kept_forgets true log requests messages place watches stage t = talk_forgets log requests messages place watches stage t
  kept_forgets false log requests messages place watches stage s = record {
    right = right_still Forgets log (λ side path. refl) (max_zero (last log)) s.right;
    unwatched = s.unwatched;
    opening = start_forgets log requests messages place stage s.opening;
  }

  pub start_admits : (log : List Item) (requests : List Request) (messages : List Message) (place : ℕ) (watches : Watches) (seen : ℕ)
      (rest : List Request) → requests ≡ Connect seen ∷ rest → seen ≤ zxid_held h place
      → IsStartingAt log requests messages place watches Waiting → IsStartingAt log rest (messages ++ Accepted ∷ []) place watches Serving
  start_admits log requests messages place watches seen rest e low s =
      let f : Connect seen ∷ rest ≡ Connect (last log) ∷ [] = sym e ∙ s.opening.0 in
      let same : seen ≡ last log = cc in
      let none : rest ≡ [] = cc in
      record { right = s.right; unwatched = s.unwatched; opening = (none, ([], ap (λ ms. ms ++ Accepted ∷ []) s.opening.1), omega arith) }

  pub start_refuses : (log : List Item) (requests : List Request) (messages : List Message) (place : ℕ) (watches : Watches) (seen : ℕ)
      (rest : List Request) → requests ≡ Connect seen ∷ rest
      → IsStartingAt log requests messages place watches Waiting → IsStartingAt log rest (messages ++ Expired ∷ []) place watches Ended
  start_refuses log requests messages place watches seen rest e s =
      let f : Connect seen ∷ rest ≡ Connect (last log) ∷ [] = sym e ∙ s.opening.0 in
      let none : rest ≡ [] = cc in
      record { right = s.right; unwatched = s.unwatched; opening = (none, ap (λ ms. ms ++ Expired ∷ []) s.opening.1) }

  -- more notices after the acceptance
  told_accepted : (messages : List Message) (sent : List Notice) → ((ns : List Notice) × (messages ≡ Accepted ∷ map Notifies ns))
      → (ns : List Notice) × (messages ++ map Notifies sent ≡ Accepted ∷ map Notifies ns)
  told_accepted messages sent o =
      (o.0 ++ sent, ap (λ ms. ms ++ map Notifies sent) o.1 ∙ ap (λ ms. Accepted ∷ ms) (sym (map-append Notifies o.0 sent)))

  pub start_tells : (log : List Item) (requests : List Request) (messages : List Message) (place : ℕ)
      (watches : Watches) (sent : List Notice)
      → IsStartingAt log requests messages place watches Serving
      → IsStartingAt log requests (messages ++ map Notifies sent) place watches Serving
  start_tells log requests messages place watches sent s =
      record { right = s.right; unwatched = s.unwatched; opening = (s.opening.0, told_accepted messages sent s.opening.1, s.opening.2) }

  -- the acceptance is taken
  pub start_joins : (log : List Item) (requests : List Request) (messages : List Message) (place : ℕ) (watches : Watches) (stage : Stage)
      (parts : List Lists) → AreParts log parts
      → IsStartingAt log requests (Accepted ∷ messages) place watches stage
      → IsTalkingAt (Took Accepted ∷ log) (requests ++ restores (last log) parts) messages place watches stage
  start_joins log requests messages place watches Waiting parts are s = absurd (let e = s.opening.1 in cc)
  start_joins log requests messages place watches Ended parts are s = absurd (let e = s.opening.1 in cc)
  start_joins log requests messages place watches Serving parts are s =
      let o = s.opening in
      let told : messages ≡ map Notifies o.1.0 = let e = o.1.1 in cc in
      let low : last log ≤ zxid_held h place = o.2 in
      let rises : Rises (last (Took Accepted ∷ log)) (map Notifies o.1.0) (zxid_held h place) =
      rises_told (last (Took Accepted ∷ log)) (zxid_held h place) (zxid_held h place) [] o.1.0 (omega arith) (omega arith) in
      record {
        stage_is = λ w. cc;
        askable = all_append IsAskableRequest requests (restores (last log) parts)
            (subst (λ rs. AllByRecursion IsAskableRequest rs) (sym o.0) tt) (askable_parts (last log) parts);
        rises = subst (λ ms. Rises (last (Took Accepted ∷ log)) ms (zxid_held h place)) (sym told) rises;
        ahead = λ side path p.
            subst (λ ms. Ahead h side path ms (Took Accepted ∷ log)
            (IsSettled h side path (requests ++ restores (last log) parts) place watches)) (sym told)
            (told_more h side path (requests ++ restores (last log) parts) place watches [] o.1.0 (Took Accepted ∷ log)
            (subst (λ rs. Ahead h side path [] (Took Accepted ∷ log)
            (IsSettled h side path (rs ++ restores (last log) parts) place watches)) (sym o.0)
            (joined h side path log parts place watches are (s.right side path p) low)));
      }

  pub talk_denies : (log : List Item) (q : Call) (code : ℤ) (rest : List Request) (messages : List Message) (place : ℕ) (watches : Watches)
      (stage : Stage) → IsOther code
      → IsTalkingAt log (Ask q ∷ rest) messages place watches stage
      → IsTalkingAt log rest (messages ++ Replies (question_of q) 0 (Refused code) ∷ []) place watches stage
  talk_denies log q code rest messages place watches stage other t = record {
    stage_is = t.stage_is;
    askable = t.askable.1;
    rises = rises_more (last log) (zxid_held h place) (zxid_held h place) messages (Replies (question_of q) 0 (Refused code) ∷ []) t.rises
        (λ l le. (inr (refl, other), omega arith));
    ahead = λ side path p. denied_ahead h side path rest place watches q code messages log (t.ahead side path p);
  }

  -- ---- steps of the server while the client talks

  module _ (is : IsHistory h) where
    pub talk_answers : (log : List Item) (q : Call) (r : Result) (rest : List Request) (messages : List Message) (place : ℕ)
        (watches : Watches) → GivesAt P h place q r
        → IsTalkingAt log (Ask q ∷ rest) messages place watches Serving
        → IsTalkingAt log rest (messages ++ Replies (question_of q) (zxid_held h place) r ∷ []) place
        (both watches (sets (question_of q) r)) (cond (closes (question_of q)) Ended Serving)
    talk_answers log q r rest messages place watches gives t = record {
      stage_is = on (closes (question_of q));
      askable = t.askable.1;
      rises = rises_more (last log) (zxid_held h place) (zxid_held h place) messages
          (Replies (question_of q) (zxid_held h place) r ∷ []) t.rises (λ l le. (inl le, omega arith));
      ahead = λ side path p. answer_at_path h is P side path p rest place watches q r t.askable.0 gives messages log (t.ahead side path p);
    }
      where
        on : (b : Bool) → cond b Ended Serving ≡ Waiting → ⊥
        on true e = cc
        on false e = cc

    part_rises : (b : Bool) (z l : ℕ) → l ≤ z → max (zxid_in (Took (Watches_set b z))) l ≤ z
    part_rises true z l le = omega arith
    part_rises false z l le = omega arith

    pub talk_restores : (log : List Item) (b : Bool) (relative : ℕ) (part : Lists) (sent : List Notice) (rest : List Request)
        (messages : List Message) (place : ℕ) (watches : Watches)
        → AreToldAt P (part_tells relative (tree_held h place) part) sent
        → IsTalkingAt log (Restore b relative part ∷ rest) messages place watches Serving
        → IsTalkingAt log rest (messages ++ (map Notifies sent ++ Watches_set b (zxid_held h place) ∷ [])) place
        (both watches (part_sets relative (tree_held h place) part)) Serving
    talk_restores log b relative part sent rest messages place watches at t = record {
      stage_is = t.stage_is;
      askable = t.askable.1;
      rises = rises_more (last log) (zxid_held h place) (zxid_held h place) messages
          (map Notifies sent ++ Watches_set b (zxid_held h place) ∷ []) t.rises
          (λ l le. rises_notices l (zxid_held h place) sent (Watches_set b (zxid_held h place) ∷ [])
          (tt, part_rises b (zxid_held h place) l le));
      ahead = λ side path p. part_at_path h is P side path p b relative part rest place watches sent at messages log (t.ahead side path p);
    }

    pub talk_pongs : (log : List Item) (rest : List Request) (messages : List Message) (place : ℕ) (watches : Watches) (stage : Stage)
        → IsTalkingAt log (Ping ∷ rest) messages place watches stage → IsTalkingAt log rest (messages ++ Pong ∷ []) place watches stage
    talk_pongs log rest messages place watches stage t = record {
      stage_is = t.stage_is;
      askable = t.askable.1;
      rises = rises_more (last log) (zxid_held h place) (zxid_held h place) messages (Pong ∷ []) t.rises (λ l le. (tt, omega arith));
      ahead = λ side path p. pong_ahead h side path rest place watches messages log (t.ahead side path p);
    }

    pub talk_advances : (log : List Item) (requests : List Request) (messages : List Message) (place : ℕ) (watches : Watches)
        (stage : Stage) (sent : List Notice) → place < length h.transactions
        → AreToldAt P (fires_all (changes_next h place) watches) sent → IsTalkingAt log requests messages place watches stage
        → IsTalkingAt log requests (messages ++ map Notifies sent) (suc place) (leaves_set_all (changes_next h place) watches) stage
    talk_advances log requests messages place watches stage sent room at t =
        let found = next_at h place is room in
        let x : Transaction = found.0 in
        let next : IsNextAt h place x = found.1 in
        let e : changes_next h place ≡ x.changes = rw (next.nth, changes_next) refl in
        let above = next.above in
        let zxid = next.zxid in
        let now : IsTalkingAt log requests (messages ++ map Notifies sent) (suc place) (leaves_set_all x.changes watches) stage =
        record {
          stage_is = t.stage_is;
          askable = t.askable;
          rises = rises_told (last log) (zxid_held h place) (zxid_held h (suc place)) messages sent (omega arith) t.rises;
          ahead = λ side path p. next_at_path h is P side path p requests place watches x next sent
              (subst (λ cs. AreToldAt P (fires_all cs watches) sent) e at) messages log (t.ahead side path p);
        } in
        subst (λ cs. IsTalkingAt log requests (messages ++ map Notifies sent) (suc place) (leaves_set_all cs watches) stage) (sym e) now

    -- where nothing is watched, the next transaction fires nothing
    unwatched_next : (place : ℕ) (watches : Watches) → place < length h.transactions → IsUnwatched watches
        → (fires_all (changes_next h place) watches ≡ []) × IsUnwatched (leaves_set_all (changes_next h place) watches)
    unwatched_next place watches room un =
        let fired : List Notice = fires_all (changes_next h place) watches in
        let c : Connection =
        record { requests = Connect 0 ∷ []; messages = []; place = place; watches = watches; stage = Waiting; talking = false } in
        let w : World = record { log = Starts 0 ∷ []; link = Up c } in
        let start : IsStarting h w.log c = record { right = λ side path answer e. absurd cc; unwatched = un; opening = (refl, refl) } in
        let after : IsStarting h w.log (served h (Advances fired) c) =
        move_kept h is (Goes (By_server (Advances fired))) w (λ e. cc, room, λ notice. (omega arith, λ some. some)) start in
        (no_notices fired after.opening.1, after.unwatched)
      where
        no_notices : (ns : List Notice) → map Notifies ns ≡ [] → ns ≡ []
        no_notices [] e = refl
        no_notices (n ∷ ns) e = absurd cc

    next_opening : (log : List Item) (requests : List Request) (messages : List Message) (place : ℕ) (stage : Stage) (sent : List Notice)
        → zxid_held h place ≤ zxid_held h (suc place) → stage ≢ Ended
        → (stage ≡ Waiting → sent ≡ []) → IsOpeningAt log requests messages place stage
        → IsOpeningAt log requests (messages ++ map Notifies sent) (suc place) stage
    next_opening log requests messages place Waiting sent le going quiet o =
        (o.0, ap (λ ns. messages ++ map Notifies ns) (quiet refl) ∙ append-nil messages ∙ o.1)
    next_opening log requests messages place Serving sent le going quiet o =
        (o.0, told_accepted messages sent o.1, let low = o.2 in omega arith)
    next_opening log requests messages place Ended sent le going quiet o = absurd (going refl)

    start_advances : (log : List Item) (requests : List Request) (messages : List Message) (place : ℕ) (watches : Watches) (stage : Stage)
        (sent : List Notice) → place < length h.transactions → stage ≢ Ended
        → AreToldAt P (fires_all (changes_next h place) watches) sent
        → (stage ≡ Waiting → AreSent (fires_all (changes_next h place) watches) sent)
        → IsStartingAt log requests messages place watches stage
        → IsStartingAt log requests (messages ++ map Notifies sent) (suc place) (leaves_set_all (changes_next h place) watches) stage
    start_advances log requests messages place watches stage sent room going at quiet s =
        let none = unwatched_next place watches room s.unwatched in
        let found = next_at h place is room in
        let above = found.1.above in
        let zxid = found.1.zxid in
        record {
          right = s.right;
          unwatched = none.1;
          opening = next_opening log requests messages place stage sent (omega arith) going
              (λ w. none_sent sent (subst (λ fired. AreSent fired sent) none.0 (quiet w))) s.opening;
        }

    pub kept_advances : (b : Bool) (log : List Item) (requests : List Request) (messages : List Message) (place : ℕ) (watches : Watches)
        (stage : Stage) (sent : List Notice) → place < length h.transactions → stage ≢ Ended
        → AreToldAt P (fires_all (changes_next h place) watches) sent
        → (stage ≡ Waiting → AreSent (fires_all (changes_next h place) watches) sent)
        → IsKeptAt b log requests messages place watches stage
        → IsKeptAt b log requests (messages ++ map Notifies sent) (suc place) (leaves_set_all (changes_next h place) watches) stage
    kept_advances true log requests messages place watches stage sent room going at quiet t =
        talk_advances log requests messages place watches stage sent room at t
    kept_advances false log requests messages place watches stage sent room going at quiet s =
        start_advances log requests messages place watches stage sent room going at quiet s

  pub kept_tells : (b : Bool) (log : List Item) (requests : List Request) (messages : List Message) (place : ℕ)
      (watches : Watches) (sent : List Notice)
      → IsKeptAt b log requests messages place watches Serving
      → IsKeptAt b log requests (messages ++ map Notifies sent) place watches Serving
  kept_tells true log requests messages place watches sent t = talk_tells log requests messages place watches Serving sent t
  kept_tells false log requests messages place watches sent s = start_tells log requests messages place watches sent s
