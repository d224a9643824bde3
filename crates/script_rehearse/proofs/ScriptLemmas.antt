-- From a position of a rehearsal to the next, and why a line is not done there: by what the line's own lemma says of both.
use Rattle.std.proofs.Common.{◌≡◌, IfErr, IfOk, refl, subst}
use Rattle.std.specs.Prelude.{String, string_bytes, Result, Ok, Err}
use Rattle.zk_nodes.specs.Path.{Text}
use Rattle.script_words.specs.Scripts.{IsDue}
use Rattle.script_words.specs.declared.stop.LineStop.{LineStop}
use Rattle.script_rehearse.specs.declared.rehearsal.Rehearsal.{Rehearsal}
use Rattle.script_rehearse.specs.Rehearsed.{Position, TakesLine}
use Rattle.script_rehearse.specs.inner.Rehearsed.{position_of, IsServedAt}
use Rattle.script_rehearse.specs.Scripts.{rules}
use Rattle.script_rehearse.specs.inner.Scripts.{IsAt}
use Rattle.script_rehearse.proofs.Agreeing.{line_agrees}
use Rattle.script_rehearse.proofs.ServedLines.{line_served}

-- where servers of the laws have served the client, a line says so of it, and they have served it after the line too
pub moved : {A Y : Type 0} (line : Text) (old before : Position) (after : Rehearsal A) (r : Result (String Y) LineStop)
    → IfOk r (λ text. TakesLine line before (position_of after) (string_bytes text))
    → before ≡ old → IsServedAt old → IfOk r (λ text. (new : Position) × rules.Takes line old new (string_bytes text) × IsAt after new)
moved line old before after (Ok text) takes is served =
    let here : TakesLine line old (position_of after) (string_bytes text) = rw (← is) takes in (
      position_of after,
      (here, line_agrees line old (position_of after) (string_bytes text) here served),
      (refl, line_served line old (position_of after) (string_bytes text) here served),
    )
moved line old before after (Err stop) takes is served = tt

-- and why a line is not done there
pub due_at : {X : Type 0} (line : Text) (old before : Position) (r : Result X LineStop) → IfErr r (IsDue rules line before)
    → before ≡ old → IfErr r (IsDue rules line old)
due_at line old before r due is = subst (λ (position : Position). IfErr r (IsDue rules line position)) is due
