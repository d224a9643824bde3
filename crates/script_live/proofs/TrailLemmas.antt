-- One input, and want of memory at it.
use Rattle.std.proofs.Common.{◌≡◌, inl, inr, refl, subst, ◌∙◌, ◌⊎◌}
use Rattle.std.specs.Prelude.{Result, Ok, Err, OnOk, IfErr}
use Rattle.zk_turns.specs.Turns.{Turn}
use Rattle.zk_turns.specs.View.{View}
use Rattle.zk_turns.specs.Rule.{Rule, HaltsAs}
use Rattle.script_words.specs.declared.stop.LineStop.{LineStop}
use Rattle.script_words.specs.declared.stop.LineStop.TheVariants.{Refused, Halted, Memory}
use Rattle.script_live.specs.Trails.{Trail, Fails}

-- what a result brings, further on
pub on_ok : {X E : Type 0} (P Q : Type 0) (result : Result X E) → (P → Q) → OnOk result P → OnOk result Q
on_ok P Q (Ok x) to h = to h
on_ok P Q (Err e) to h = tt

pub if_err : {X E : Type 0} (P Q : E → Type 0) (result : Result X E) → ((e : E) → P e → Q e) → IfErr result P → IfErr result Q
if_err P Q (Ok x) to h = tt
if_err P Q (Err e) to h = to e h

lost : (old settled new : Trail) → settled.view ≡ old.view → (new.view ≡ settled.view) ⊎ ((turn : Turn) × Rule settled.view turn new.view)
    → (new.view ≡ old.view) ⊎ ((turn : Turn) × Rule old.view turn new.view)
lost old settled new view (inl same) = inl (same ∙ view)
lost old settled new view (inr h) = inr (h.0, subst (λ (v : View). Rule v h.0 new.view) view h.1)

-- What is said where memory ran out is about the client and what was given alone.
pub same_fails : (stop : LineStop) (old settled new : Trail)
    → settled.view ≡ old.view → settled.given ≡ old.given → Fails stop settled new → Fails stop old new
same_fails (Refused fault) old settled new view given fails = absurd fails
same_fails Halted old settled new view given fails = (subst (λ (v : View). HaltsAs v new.view) view fails.0, fails.1 ∙ given)
same_fails Memory old settled new view given fails = (lost old settled new view fails.0, fails.1 ∙ given)

-- a turn of which nothing is given
pub lost_turn : (stop : LineStop) (old new : Trail) (turn : Turn)
    → stop ≡ Memory → Rule old.view turn new.view → new.given ≡ old.given → Fails stop old new
lost_turn (Refused fault) old new turn e rule given = absurd cc
lost_turn Halted old new turn e rule given = absurd cc
lost_turn Memory old new turn e rule given = (inr (turn, rule), given)
