-- A server that has not answered in time is left: the connection is let go, and the client hears that it is over. Else nothing happens.
use Rattle.std.proofs.Common.{◌≡◌, ◌++◌, inr, ℕ, true, false, [], ◌∷◌, refl, sym, ap, subst, ◌∙◌}
use Rattle.std.specs.Prelude.{All}
use Rattle.zk_turns.specs.Turns as turns
use Rattle.zk_turns.specs.View.{View}
use Rattle.zk_dialler.specs.Dialling.{has_come, Ends}
use Rattle.zk_agent.specs.Agents.{ends_of, HearsSo, LeavesLate, Trail}
use Rattle.zk_agent.specs.inner.Agents.{LeavesIfLate}
use Rattle.zk_agent.specs.Calls.{IsAway, IsInTime}
use Rattle.zk_agent.specs.Overlong.{with_too_long}
use Rattle.zk_agent.specs.Telling.{HangsUp}
use Rattle.zk_agent.specs.Waits.{nothing_waits}
use Rattle.zk_agent.proofs.Closing.{cut_so}
use Rattle.zk_agent.proofs.Lines.{heard_still, none_heard}
use Rattle.zk_agent.proofs.Moves.{nothing, one}
use Rattle.zk_agent.proofs.Turning.{cut_away}

-- none has waited for too long
pub not_late : {A : Type 0} (now : ℕ) (here : Trail A) → has_come now (ends_of here) ≡ false → LeavesIfLate now here here
not_late now here in_time =
    record {
      acts = nothing now here;
      limits = λ all. all;
      ends = λ state final is. is;
      done = λ done. done;
      none = λ none. none;
      answers = in_time;
    }

pub left_late : {A : Type 0} (now : ℕ) (old between after new : Trail A) → has_come now (ends_of old) ≡ true
    → Ends old.view.saved.session.timeout now old.dialler between.dialler
    → between ≡ record old { dialler = between.dialler; told = old.told ++ HangsUp ∷ [] } → HearsSo now turns.Cut between after
    → new ≡ record after { waits = nothing_waits } → LeavesIfLate now old new
left_late {A} now old between after new late ends hangs hears last =
    let takes = hears.takes in
    let view : new.view ≡ after.view = ap (λ (t : Trail A). t.view) last in
    let line : new.line ≡ after.line = ap (λ (t : Trail A). t.line) last in
    let was_line : between.line ≡ old.line = ap (λ (t : Trail A). t.line) hangs in
    let was_view : between.view ≡ old.view = ap (λ (t : Trail A). t.view) hangs in
    record {
      acts = one now (LeavesLate now) old new refl refl refl
          (record { late = late; between = between; ends = ends; hangs = hangs; after = after; hears = hears; last = last });
      limits = λ all.
          heard_still now between.line new.line (with_too_long between.line takes.given) (line ∙ takes.line)
          (subst (All (IsInTime now)) (sym was_line) all);
      ends = λ state final is.
          sym (ap (λ (v : View). v.standing.state) was_view)
          ∙ cut_so state final now between.view between.subjects after.view takes.given takes.stepped takes.steps
          (sym (ap (λ (v : View). v.standing.state) view) ∙ is);
      done = λ done.
          inr (subst IsAway (sym view) (cut_away now between.view between.subjects after.view takes.given takes.stepped takes.steps));
      none = λ none. line ∙ takes.line ∙ none_heard between.line (with_too_long between.line takes.given) (was_line ∙ none);
      answers = ap (λ (t : Trail A). has_come now (ends_of t)) last;
    }
