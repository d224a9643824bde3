-- The worlds that a run reaches: the first one, and each one move after another; so the invariant holds there. And each step between a
-- client and its servers is a move of a run.
use Rattle.std.proofs.Common.{◌≡◌, ℕ, Bool, true, false, cond, List, [], ◌∷◌, ◌++◌, refl, sym, ap, subst, ◌∙◌, inl, inr}
use Rattle.std.specs.Prelude.{if◌then◌else◌}
use Rattle.zk_nodes.specs.History.{History, IsHistory}
use Rattle.zk_laws.specs.Messages.{Message, Accepted, Expired, Replies, Request}
use Rattle.zk_laws.specs.ServerSteps.{Stage, ServerEnd, ServerStep, Waiting, Serving, Ended, Advances, Admits, Refuses, Answers, Restores}
use Rattle.zk_laws.specs.ServerSteps.{Pongs, MayDo}
use Rattle.zk_laws.proofs.Log.{Item, Lost, Took}
use Rattle.zk_laws.proofs.Steps.{World, Down, Up, Asks, Pings, Joins, Takes, By_server, is_behind, ends}
use Rattle.zk_laws.proofs.Run.{start, Move, Opens, Loses, Halts, Forgets_stale, Goes, May, moved, IsSchedule, run}
use Rattle.zk_laws.proofs.Invariant.{IsKept, IsOpening}
use Rattle.zk_laws.proofs.Whole.{start_kept, run_kept}
use Rattle.zk_laws.proofs.More.{none_behind, given_write, coded}
use Rattle.zk_laws.proofs.Between.{IsInvariant, MayBeFirst, Allows}
use Rattle.zk_laws.proofs.Matching.{Reached, by_runs, connection}

may_more : (h : History) (moves : List Move) (move : Move) (w : World) → IsSchedule h moves w → May h move (run h moves w)
    → IsSchedule h (moves ++ move ∷ []) w
may_more h [] move w s may = (may, tt)
may_more h (one ∷ moves) move w s may = (s.0, may_more h moves move (moved h one w) s.1 may)

run_more : (h : History) (moves : List Move) (move : Move) (w : World) → run h (moves ++ move ∷ []) w ≡ moved h move (run h moves w)
run_more h [] move w = refl
run_more h (one ∷ moves) move w = run_more h moves move (moved h one w)

pub reach_start : (h : History) (saved : ℕ) → Reached h saved (start saved)
reach_start h saved = record { moves = []; may = tt; is = refl }

-- one move more
pub reach : (h : History) (saved : ℕ) (w : World) (move : Move) → Reached h saved w → May h move w → Reached h saved (moved h move w)
reach h saved w move r may = record {
  moves = r.moves ++ move ∷ [];
  may = may_more h r.moves move (start saved) r.may (subst (λ (v : World). May h move v) (sym r.is) may);
  is = run_more h r.moves move (start saved) ∙ ap (moved h move) r.is;
}

-- the same world
pub reach_as : (h : History) (saved : ℕ) (v w : World) → v ≡ w → Reached h saved v → Reached h saved w
reach_as h saved v w e r = record { moves = r.moves; may = r.may; is = r.is ∙ e }

-- The invariant holds there.
pub reached_kept : (h : History) (saved : ℕ) (w : World) → IsHistory h → Reached h saved w → IsKept h w
reached_kept h saved w is r = subst (λ (v : World). IsKept h v) r.is (run_kept h is r.moves (start saved) r.may (start_kept h saved))

-- ---- each step is a move

module _ (h : History) (saved : ℕ) (is : IsHistory h) where
  abbrev world : Bool → List Item → List Request → List Message → ServerEnd → World
  world talks log rs ms server = record { log = log; link = Up (connection talks rs ms server) }

  pub kept_by_run : (talks : Bool) (log : List Item) (rs : List Request) (ms : List Message) (server : ServerEnd)
      → Reached h saved (world talks log rs ms server) → IsKept h (world talks log rs ms server)
  kept_by_run talks log rs ms server r = reached_kept h saved (world talks log rs ms server) is r

  first_by : (log : List Item) (stage : Stage) (rs : List Request) (m : Message) (ms : List Message) (place : ℕ)
      → IsOpening h log stage rs (m ∷ ms) place → MayBeFirst m ms rs
  first_by log Waiting rs m ms place o = absurd (let e = o.1 in cc)
  first_by log Serving rs m ms place o = let e = o.1 in let f : Accepted ≡ m = cc in let g : ms ≡ [] = cc in
      subst (λ x. MayBeFirst x ms rs) f (([], g), o.0)
  first_by log Ended rs m ms place o = let f : Expired ≡ m = let e = o.1 in cc in subst (λ x. MayBeFirst x ms rs) f tt

  taken : (log : List Item) (rs : List Request) (m : Message) (ms : List Message) (server : ServerEnd) (over : Bool)
      → is_behind log m ≡ false → ends m ≡ over → Reached h saved (world true log rs (m ∷ ms) server)
      → Reached h saved (record { log = Took m ∷ log; link = if over then Down else Up (connection true rs ms server) })
  taken log rs m ms server over ahead e r = reach_as h saved _
      (record { log = Took m ∷ log; link = if over then Down else Up (connection true rs ms server) })
      (ap (λ b. cond b (record { log = Lost ∷ log; link = Down })
      (record { log = Took m ∷ log; link = if ends m then Down else Up (connection true rs ms server) })) ahead
      ∙ ap (λ b. record { log = Took m ∷ log; link = if b then Down else Up (connection true rs ms server) }) e)
      (reach h saved (world true log rs (m ∷ ms) server) (Goes (Takes m)) r (refl, inl refl))

  allowed : (step : ServerStep) (server : ServerEnd) (rs : List Request) → MayDo h step server rs
      → Allows h (by_runs h saved) step server rs
  allowed (Advances sent) server rs may = may.0
  allowed (Admits seen) server rs may = (may.0, may.1)
  allowed (Refuses seen) server rs may = (may.0, may.1)
  allowed (Answers q r) server rs may = (may.0, may.1, (coded h server.place q r may.2, given_write h server.place q r may.2))
  allowed (Restores b z part sent) server rs may = (may.0, may.1)
  allowed Pongs server rs may = may

  pub runs_keep : IsInvariant h saved (by_runs h saved)
  runs_keep = record {
    first = (Down, reach_start h saved);
    up = λ b log rs ms server r. (Up (connection b rs ms server), r);
    opens = λ log place may s. reach h saved (record { log = log; link = s.0 }) (Opens place) s.1 may;
    loses = λ log s. (Down, reach h saved (record { log = log; link = s.0 }) Loses s.1 tt);
    halts = λ log s. (Down, reach h saved (record { log = log; link = s.0 }) Halts s.1 tt);
    forgets = λ log s. (s.0, reach h saved (record { log = log; link = s.0 }) Forgets_stale s.1 tt);
    forgets_up = λ b log rs ms server r. reach h saved (world b log rs ms server) Forgets_stale r tt;
    asks = λ log rs ms server call may r. reach h saved (world true log rs ms server) (Goes (Asks call)) r (refl, may);
    pings = λ log rs ms server r. reach h saved (world true log rs ms server) (Goes Pings) r refl;
    first_is = λ log rs m ms server r. first_by log server.stage rs m ms server.place
        (kept_by_run false log rs (m ∷ ms) server r).opening;
    joins = λ log rs ms server parts are r.
        reach h saved (world false log rs (Accepted ∷ ms) server) (Goes (Joins parts)) r (refl, refl, are);
    expires = λ log rs ms server r.
        (Down, reach h saved (world false log rs (Expired ∷ ms) server) (Goes (Takes Expired)) r (refl, inr refl));
    takes = λ log rs m ms server ahead going r. taken log rs m ms server false ahead going r;
    closes = λ log rs m ms server ahead over r. (Down, taken log rs m ms server true ahead over r);
    replies = λ log rs q z r ms server k. (
      none_behind h (world true log rs (Replies q z r ∷ ms) server) (kept_by_run true log rs (Replies q z r ∷ ms) server k)
          (connection true rs (Replies q z r ∷ ms) server) (Replies q z r) refl refl,
      inl tt,
    );
    coded = λ call z r g. g.0;
    waits = λ log rs ms server r. (kept_by_run true log rs ms server r).stage;
    unended = λ departs log rs server e r. absurd departs;
    allows = λ step server rs may. allowed step server rs may;
    serves = λ step b log rs ms server may r. reach h saved (world b log rs ms server) (Goes (By_server step)) r may;
  }
