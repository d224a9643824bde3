-- Where a line is, a bench is: what the stream says of its far end is what a bench does there, one step after the other, and the history
-- stays.
use Rattle.std.proofs.Common.{◌≡◌, ◌++◌, ◌∙◌, ℕ, inl, inr, true, false, List, [], ◌∷◌, Option, Some, None, ap, append-nil, refl, sym, subst}
use Rattle.std.specs.List.{flat_map, FoldsTo}
use Rattle.zk_link.specs.FarEnds.{Begun, Goes, Trades}
use Rattle.zk_bench.specs.declared.phase.Phase.TheVariants.{Ended}
use Rattle.zk_bench.specs.Served.{ended, is_open, Served}
use Rattle.theory_drivers.specs.Acts.{given_in, taken_in, Act, Serves, Takes}
use Rattle.zk_bench_dial.specs.BenchActs.{BenchDoes, GoesBy}
use Rattle.zk_bench_dial.specs.Lines.{bench_end, IsAnswering, IsDialled, LineDoes, LineView, LineWaits, PastView}
use Rattle.zk_bench_dial.proofs.Acting.{goes_after, goes_over, goes_still, goes_too}

-- The bench is the one at the far end; where the line is over, it has ended the connection.
abbrev pub IsAt : Option Served → Served → Type 0
IsAt (Some now) served = served ≡ now
IsAt None served = served.connection.phase ≡ Ended

-- what a bench does from where it is
pub record GoesAt (took gave : List ℕ) (end : LineView) (before : Served) : Type 0 where
  pub after : Served
  pub at : IsAt end.served after
  pub goes : GoesBy BenchDoes before took gave after

-- what comes where it has ended the connection is lost
goes_lost : (took gave : List ℕ) (old : Served) → old.connection.phase ≡ Ended → gave ≡ [] → GoesBy BenchDoes old took gave old
goes_lost took gave old over none = record {
  acts = Takes took ∷ [];
  does = (old, (λ up. let e : true ≡ false = sym up ∙ ap is_open over in cc, λ down. refl), refl);
  taken = append-nil took;
  given = sym none;
  history = refl;
}

answering_goes : (took gave : List ℕ) (old new : Option Served) (waits : ℕ) (before : Served) → IsAt old before
    → IsAnswering old took gave new → GoesAt took gave (record { served = new; waits = waits }) before
answering_goes took gave (Some old) (Some new) waits before at does = record {
  after = new;
  at = refl;
  goes = subst (λ (s : Served). GoesBy BenchDoes s took gave new) (sym at) (goes_too took gave old new does);
}
answering_goes took gave (Some old) None waits before at does = record {
  after = ended does.0;
  at = refl;
  goes = subst (λ l. GoesBy BenchDoes before l gave (ended does.0)) (append-nil took)
      (subst (λ l. GoesBy BenchDoes before (took ++ []) l (ended does.0)) (append-nil gave)
      (goes_after BenchDoes took gave [] [] before does.0 (ended does.0)
      (subst (λ (s : Served). GoesBy BenchDoes s took gave does.0) (sym at) (goes_too took gave old does.0 does.1))
      (goes_too [] [] does.0 (ended does.0) (goes_over does.0))));
}
answering_goes took gave None None waits before at does =
    record { after = before; at = at; goes = goes_lost took gave before at does }
answering_goes took gave None (Some new) waits before at does = absurd does

-- it takes a transaction
waiting_goes : (took gave : List ℕ) (old new : LineView) (before : Served) → IsAt old.served before → LineWaits old took gave new
    → GoesAt took gave new before
waiting_goes took gave old new before at waits = record {
  after = waits.after;
  at = subst (λ (o : Option Served). IsAt o waits.after) (sym waits.still) refl;
  goes = subst (λ (s : Served). GoesBy BenchDoes s took gave waits.after)
      (sym (subst (λ (o : Option Served). IsAt o before) waits.there at)) (record {
        acts = Serves ∷ [];
        does = (waits.after, inl waits.takes.advances, refl);
        taken = sym waits.none_taken;
        given = sym waits.none_given;
        history = ap (λ (s : Served). s.history) waits.takes.rest;
      });
}

line_goes : (took gave : List ℕ) (old new : LineView) (before : Served) → IsAt old.served before → LineDoes old took gave new
    → GoesAt took gave new before
line_goes took gave old new before at (inl does) =
    let goes = answering_goes took gave old.served new.served new.waits before at does.answers in
    record { after = goes.after; at = goes.at; goes = goes.goes }
line_goes took gave old new before at (inr waits) = waiting_goes took gave old new before at waits

lines_go : (steps : List (List ℕ × List ℕ)) (old new : LineView) (before : Served) → IsAt old.served before
    → FoldsTo (λ from step to. LineDoes from step.0 step.1 to) old steps new
    → GoesAt (flat_map (λ (step : List ℕ × List ℕ). step.0) steps) (flat_map (λ (step : List ℕ × List ℕ). step.1) steps) new before
lines_go [] old new before at same = record {
  after = before;
  at = subst (λ (line : LineView). IsAt line.served before) same at;
  goes = goes_still BenchDoes before;
}
lines_go (step ∷ steps) old new before at does =
    let one = line_goes step.0 step.1 old does.0 before at does.1 in
    let rest = lines_go steps does.0 new one.after one.at does.2 in
    record {
      after = rest.after;
      at = rest.at;
      goes = goes_after BenchDoes step.0 step.1 (flat_map (λ (step : List ℕ × List ℕ). step.0) steps)
          (flat_map (λ (step : List ℕ × List ℕ). step.1) steps) before one.after rest.after one.goes rest.goes;
    }

far_goes : (past : PastView) (took gave : List ℕ) (old new : LineView) (before : Served) → IsAt old.served before
    → Goes (bench_end past) took gave old new → GoesAt took gave new before
far_goes past took gave old new before at goes =
    let all = lines_go goes.steps old new before at goes.does in
    record {
      after = all.after;
      at = all.at;
      goes = subst (λ l. GoesBy BenchDoes before l gave all.after) goes.took
          (subst (λ l. GoesBy BenchDoes before (flat_map (λ (step : List ℕ × List ℕ). step.0) goes.steps) l all.after) goes.gave all.goes);
    }

-- ---- where a connection is, a bench is

abbrev pub IsThere : Option LineView → Served → Type 0
IsThere (Some state) served = IsAt state.served served
IsThere None served = ⊥

-- what a bench does from where it is, with what is unsent
pub record TradesAt (unsent rest piece : List ℕ) (end : Option LineView) (before : Served) : Type 0 where
  pub after : Served
  pub there : IsThere end after
  pub acts : List Act
  pub does : FoldsTo BenchDoes before acts after
  pub wrote : unsent ≡ taken_in acts ++ rest
  pub read : given_in acts ≡ piece
  pub history : after.history ≡ before.history

pub trades_at : (past : PastView) (unsent rest piece : List ℕ) (old new : Option LineView) (before : Served) → IsThere old before
    → Trades (bench_end past) unsent rest piece old new → TradesAt unsent rest piece new before
trades_at past unsent rest piece (Some old) (Some new) before there trades =
    let all = far_goes past trades.0 piece old new before there trades.2 in
    record {
      after = all.after;
      there = all.at;
      acts = all.goes.acts;
      does = all.goes.does;
      wrote = trades.1 ∙ ap (λ l. l ++ rest) (sym all.goes.taken);
      read = all.goes.given;
      history = all.goes.history;
    }
trades_at past unsent rest piece (Some old) None before there trades = absurd trades.2
trades_at past unsent rest piece None new before there trades = absurd there

-- it begins
pub record StartsAt (past : PastView) (end : Option LineView) : Type 0 where
  pub line : LineView
  pub begins : IsDialled past line
  pub there : IsThere end begins.after

pub starts_at : (past : PastView) (end : Option LineView) → Begun (bench_end past) end → StartsAt past end
starts_at past None begun = absurd begun
starts_at past (Some line) begun =
    record { line = line; begins = begun; there = subst (λ (o : Option Served). IsAt o begun.after) (sym begun.there) refl }
