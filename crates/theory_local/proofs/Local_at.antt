-- Servers that keep to the model at some paths: what is kept there between them and a client made of messages is an invariant, so all that
-- follows of bytes and requests is true of them.
use Rattle.std.proofs.Common.{◌≡◌, ℕ, ◌≤◌, ℤ, pos, Bool, true, false, cond, List, [], ◌∷◌, ◌++◌, map, refl, sym, ap, subst, inl, inr, ◌⊎◌}
use Rattle.zk_nodes.specs.Path.{Text}
use Rattle.zk_nodes.specs.History.{History, IsHistory}
use Rattle.zk_watches.specs.Lists.{Lists}
use Rattle.zk_conversation.specs.Calls.{Call}
use Rattle.zk_conversation.specs.Pending.{closes}
use Rattle.zk_conversation.specs.Questions.{question_of}
use Rattle.zk_conversation.specs.Results.{Result, Refused}
use Rattle.zk_laws.specs.Server.{Notice, Watches, HasCode, IsOther, sets, tree_held, zxid_held, part_tells, part_sets, both}
use Rattle.zk_laws.specs.Messages.{Message, Accepted, Expired, Replies, Watches_set, Notifies, Pong, Request, Connect, Restore, Ask, Ping}
use Rattle.zk_laws.specs.ServerSteps.{Stage, ServerEnd, ServerStep, messages_by, end_after, Waiting, Serving, Ended, Advances, Admits}
use Rattle.zk_laws.specs.ServerSteps.{Refuses, Answers, Restores, Pongs, IsNext}
use Rattle.zk_laws.proofs.Log.{Item, Opened, Lost, Forgets, Took, last}
use Rattle.zk_laws.proofs.Steps.{rest_of, left_over}
use Rattle.zk_laws.proofs.Ahead.{max_zero}
use Rattle.zk_laws.proofs.Whole.{next_is}
use Rattle.zk_laws.proofs.Between.{Invariant, IsInvariant, MayBeFirst, Allows, IsLow as IsLowest}
use Rattle.theory_local.specs.LocalSteps.{GivesAt, AreToldAt, MayDoAt}
use Rattle.theory_local.proofs.Kept_at.{IsOpeningAt, IsStartingAt, IsTalkingAt, IsKeptAt, AreRight, IsLow, not_behind, right_still}
use Rattle.theory_local.proofs.Kept_at.{talking_right, kept_right_at, talk_requests, talk_takes, talk_ends, talk_answers, talk_restores}
use Rattle.theory_local.proofs.Kept_at.{talk_pongs, talk_denies, kept_forgets, start_admits, start_refuses, start_joins, kept_advances}

module _ (P : Text → Type 0) (h : History) where
  -- a server gave this result, with the zxid of where it stood
  abbrev pub IsGivenAt : Call → ℕ → Result → Type 0
  IsGivenAt call zxid result = (place : ℕ) × (zxid ≡ zxid_held h place) × GivesAt P h place call result

  abbrev pub local : Invariant
  local = record {
    right = λ log. AreRight P h log;
    kept = λ talks log rs ms server. IsKeptAt P h talks log rs ms server.place server.watches server.stage;
    gives = λ call zxid result. IsGivenAt call zxid result ⊎ IsLow zxid result;
    follows = λ log zxid. last log ≤ zxid;
    may = λ step server rs. MayDoAt P h step server rs;
    departs = Unit {0};
  }

  module _ (is : IsHistory h) (log : List Item) (rs : List Request) (ms : List Message) (place : ℕ)
      (watches : Watches) (stage : Stage) where
    -- before the client has the acceptance nothing is asked
    unasked : (x : Request) → stage ≡ Serving → IsNext x rs → IsStartingAt P h log rs ms place watches stage → ⊥
    unasked x e next s =
        let t : IsStartingAt P h log rs ms place watches Serving = subst (λ st. IsStartingAt P h log rs ms place watches st) e s in
        subst (λ l. IsNext x l) t.opening.0 next

    kept_admits : (b : Bool) (z : ℕ) → stage ≡ Waiting → IsNext (Connect z) rs → z ≤ zxid_held h place
        → IsKeptAt P h b log rs ms place watches stage → IsKeptAt P h b log (rest_of rs) (ms ++ Accepted ∷ []) place watches Serving
    kept_admits true z e next low k = absurd (k.stage_is e)
    kept_admits false z e next low k = start_admits P h log rs ms place watches z (rest_of rs) (next_is (Connect z) rs next) low
        (subst (λ st. IsStartingAt P h log rs ms place watches st) e k)

    kept_refuses : (b : Bool) (z : ℕ) → stage ≡ Waiting → IsNext (Connect z) rs → IsKeptAt P h b log rs ms place watches stage
        → IsKeptAt P h b log (rest_of rs) (ms ++ Expired ∷ []) place watches Ended
    kept_refuses true z e next k = absurd (k.stage_is e)
    kept_refuses false z e next k = start_refuses P h log rs ms place watches z (rest_of rs) (next_is (Connect z) rs next)
        (subst (λ st. IsStartingAt P h log rs ms place watches st) e k)

    -- the client talks, with the request in its place
    talks_next : (x : Request) → stage ≡ Serving → IsNext x rs → IsTalkingAt P h log rs ms place watches stage
        → IsTalkingAt P h log (x ∷ rest_of rs) ms place watches Serving
    talks_next x e next t = subst (λ l. IsTalkingAt P h log l ms place watches Serving) (next_is x rs next)
        (subst (λ st. IsTalkingAt P h log rs ms place watches st) e t)

    kept_answers : (b : Bool) (q : Call) (r : Result)
        → stage ≡ Serving → IsNext (Ask q) rs → GivesAt P h place q r → IsKeptAt P h b log rs ms place watches stage
        → IsKeptAt P h b log (rest_of rs) (ms ++ Replies (question_of q) (zxid_held h place) r ∷ []) place
        (both watches (sets (question_of q) r)) (cond (closes (question_of q)) Ended Serving)
    kept_answers true q r e next gives k = talk_answers P h is log q r (rest_of rs) ms place watches gives (talks_next (Ask q) e next k)
    kept_answers false q r e next gives k = absurd (unasked (Ask q) e next k)

    kept_restores : (b l : Bool) (z : ℕ) (part : Lists) (sent : List Notice) → stage ≡ Serving → IsNext (Restore l z part) rs
        → AreToldAt P (part_tells z (tree_held h place) part) sent → IsKeptAt P h b log rs ms place watches stage
        → IsKeptAt P h b log (rest_of rs) (ms ++ (map Notifies sent ++ Watches_set l (zxid_held h place) ∷ [])) place
        (both watches (part_sets z (tree_held h place) part)) stage
    kept_restores true l z part sent e next at k =
        subst (λ st. IsTalkingAt P h log (rest_of rs) (ms ++ (map Notifies sent ++ Watches_set l (zxid_held h place) ∷ [])) place
        (both watches (part_sets z (tree_held h place) part)) st) (sym e)
        (talk_restores P h is log l z part sent (rest_of rs) ms place watches at (talks_next (Restore l z part) e next k))
    kept_restores false l z part sent e next at k = absurd (unasked (Restore l z part) e next k)

    kept_pongs : (b : Bool) → stage ≡ Serving → IsNext Ping rs → IsKeptAt P h b log rs ms place watches stage
        → IsKeptAt P h b log (rest_of rs) (ms ++ Pong ∷ []) place watches stage
    kept_pongs true e next k = talk_pongs P h is log (rest_of rs) ms place watches stage
        (subst (λ l. IsTalkingAt P h log l ms place watches stage) (next_is Ping rs next) k)
    kept_pongs false e next k = absurd (unasked Ping e next k)

    pub kept_denies : (b : Bool) (q : Call) (code : ℤ)
        → IsOther code → stage ≡ Serving → IsNext (Ask q) rs → IsKeptAt P h b log rs ms place watches stage
        → IsKeptAt P h b log (rest_of rs) (ms ++ Replies (question_of q) 0 (Refused code) ∷ []) place watches stage
    kept_denies true q code other e next k = talk_denies P h log q code (rest_of rs) ms place watches stage other
        (subst (λ l. IsTalkingAt P h log l ms place watches stage) (next_is (Ask q) rs next) k)
    kept_denies false q code other e next k = absurd (unasked (Ask q) e next k)

    pub kept_fails : (b : Bool) (x : Request)
        → stage ≡ Serving → IsNext x rs → IsKeptAt P h b log rs ms place watches stage → IsKeptAt P h b log rs ms place watches Ended
    kept_fails true x e next k = talk_ends P h log rs ms place watches stage k
    kept_fails false x e next k = absurd (unasked x e next k)

  first_by : (log : List Item) (stage : Stage) (rs : List Request) (m : Message) (ms : List Message) (place : ℕ)
      → IsOpeningAt P h log rs (m ∷ ms) place stage → MayBeFirst m ms rs
  first_by log Waiting rs m ms place o = absurd (let e = o.1 in cc)
  first_by log Serving rs m ms place o = by o.1.1
    where
      by : m ∷ ms ≡ Accepted ∷ map Notifies o.1.0 → MayBeFirst m ms rs
      by e = let f : Accepted ≡ m = cc in let g : ms ≡ map Notifies o.1.0 = cc in subst (λ x. MayBeFirst x ms rs) f ((o.1.0, g), o.0)
  first_by log Ended rs m ms place o = let f : Expired ≡ m = let e = o.1 in cc in subst (λ x. MayBeFirst x ms rs) f tt

  -- ---- each step keeps it

  nothing_first : (log : List Item) (rs : List Request) (place : ℕ) (stage : Stage)
      → stage ≡ Ended → IsOpeningAt P h log rs [] place stage → ⊥
  nothing_first log rs place Waiting e o = cc
  nothing_first log rs place Serving e o = cc
  nothing_first log rs place Ended e o = let f = o.1 in cc

  low_low : (z : ℕ) (r : Result) → IsLow z r → IsLowest (pos z) r
  low_low z (Refused code) low = low.0
  low_low z _ low = absurd low

  follows_by : (log : List Item) (z : ℕ) (r : Result) → (last log ≤ z) ⊎ IsLow z r → (last log ≤ z) ⊎ (Unit {0} × IsLowest (pos z) r)
  follows_by log z r (inl le) = inl le
  follows_by log z r (inr low) = inr (tt, low_low z r low)

  coded_of : (call : Call) (z : ℕ) (r : Result) → IsGivenAt call z r ⊎ IsLow z r → HasCode r
  coded_of call z r (inl given) = given.2.0
  coded_of call z (Refused code) (inr low) = low.1
  coded_of call z _ (inr low) = absurd low

  allowed : (step : ServerStep) (server : ServerEnd) (rs : List Request) → MayDoAt P h step server rs → Allows h local step server rs
  allowed (Advances sent) server rs may = may.0
  allowed (Admits z) server rs may = (may.0, may.1)
  allowed (Refuses z) server rs may = (may.0, may.1)
  allowed (Answers q r) server rs may = (may.0, may.1, inl (server.place, refl, may.2))
  allowed (Restores b z part sent) server rs may = (may.0, may.1)
  allowed Pongs server rs may = may

  module _ (is : IsHistory h) where
    serves_at : (step : ServerStep) (b : Bool) (log : List Item) (rs : List Request) (ms : List Message) (server : ServerEnd)
        → MayDoAt P h step server rs → local.kept b log rs ms server
        → local.kept b log (left_over step rs) (ms ++ messages_by h step server.place) (end_after h step server)
    serves_at (Advances sent) b log rs ms server may k =
        kept_advances P h is b log rs ms server.place server.watches server.stage sent may.1 may.0 may.2 may.3 k
    serves_at (Admits z) b log rs ms server may k =
        kept_admits is log rs ms server.place server.watches server.stage b z may.0 may.1 may.2 k
    serves_at (Refuses z) b log rs ms server may k =
        kept_refuses is log rs ms server.place server.watches server.stage b z may.0 may.1 k
    serves_at (Answers q r) b log rs ms server may k =
        kept_answers is log rs ms server.place server.watches server.stage b q r may.0 may.1 may.2 k
    serves_at (Restores l z part sent) b log rs ms server may k =
        kept_restores is log rs ms server.place server.watches server.stage b l z part sent may.0 may.1 may.2 k
    serves_at Pongs b log rs ms server may k =
        kept_pongs is log rs ms server.place server.watches server.stage b may.0 may.1 k

    pub local_keeps : (saved : ℕ) → IsInvariant h saved local
    local_keeps saved = record {
      first = λ side path p answer e. absurd cc;
      up = λ b log rs ms server k. kept_right_at P h b log rs ms server.place server.watches server.stage k;
      opens = λ log place may right. record {
        right = right_still P h Opened log (λ side path. refl) (max_zero (last log)) right;
        unwatched = λ side path. refl;
        opening = (ap (λ z. Connect z ∷ []) (sym (max_zero (last log))), refl);
      };
      loses = λ log right. right_still P h Lost log (λ side path. refl) (max_zero (last log)) right;
      halts = λ log right side path p answer e. absurd cc;
      forgets = λ log right. right_still P h Forgets log (λ side path. refl) (max_zero (last log)) right;
      forgets_up = λ b log rs ms server k. kept_forgets P h b log rs ms server.place server.watches server.stage k;
      asks = λ log rs ms server call may k.
          talk_requests P h log rs (Ask call ∷ []) ms server.place server.watches server.stage (may, tt) k;
      pings = λ log rs ms server k. talk_requests P h log rs (Ping ∷ []) ms server.place server.watches server.stage (tt, tt) k;
      first_is = λ log rs m ms server k. first_by log server.stage rs m ms server.place k.opening;
      joins = λ log rs ms server parts are k. start_joins P h log rs ms server.place server.watches server.stage parts are k;
      expires = λ log rs ms server k side path p answer e. absurd cc;
      takes = λ log rs m ms server ahead going k. talk_takes P h log rs m ms server.place server.watches server.stage k;
      closes = λ log rs m ms server ahead over k. talking_right P h (Took m ∷ log) rs ms server.place server.watches server.stage
          (talk_takes P h log rs m ms server.place server.watches server.stage k);
      replies = λ log rs q z r ms server k.
          (not_behind log (Replies q z r) ms (zxid_held h server.place) k.rises, follows_by log z r k.rises.0);
      coded = λ call z r given. coded_of call z r given;
      waits = λ log rs ms server k. k.stage_is;
      unended = λ departs log rs server e k. nothing_first log rs server.place server.stage e k.opening;
      allows = λ step server rs may. allowed step server rs may;
      serves = λ step b log rs ms server may k. serves_at step b log rs ms server may k;
    }
