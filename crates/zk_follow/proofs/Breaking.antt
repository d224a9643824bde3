-- Where memory runs out within a step, the turns that were taken until then are one chain.
use Rattle.std.proofs.Common.{◌≡◌, ◌++◌, ℕ, List, [], ◌∷◌, refl, inl, inr}
use Rattle.std.specs.Prelude.{Result, Ok, Err, OnErr, OnOk}
use Rattle.std.specs.List.{FoldsTo}
use Rattle.zk_turns.specs.Turns.{Now, Output, Input, Turn}
use Rattle.zk_turns.specs.View.{View}
use Rattle.zk_turns.specs.Rule.{Rule, RuleAt, HaltsAs, HaltsAt}
use Rattle.zk_follow.specs.declared.subject.Subject.{Subject}
use Rattle.zk_follow.specs.Following.{BreaksOff, Steps}
use Rattle.zk_follow.proofs.Visiting.{chain_on}

-- before any turn, beside the client and within it
pub beside : (view : View) → BreaksOff view view
beside view = record { turns = []; here = view; chain = refl; ends = inl refl }

pub within : (view new : View) → HaltsAs view new → BreaksOff view new
within view new halts = record { turns = []; here = view; chain = refl; ends = inr halts }

pub after_turns : (turns : List Turn) (view here new : View) → FoldsTo Rule view turns here → BreaksOff here new → BreaksOff view new
after_turns turns view here new chain broke = record {
  turns = turns ++ broke.turns;
  here = broke.here;
  chain = chain_on turns broke.turns view here broke.here chain broke.chain;
  ends = broke.ends;
}

-- after one turn
pub after_turn : (turn : Turn) (view here : View) → Rule view turn here → BreaksOff view here
after_turn turn view here rule = record { turns = turn ∷ []; here = here; chain = (here, rule, refl); ends = inl refl }

-- within the client's step at a moment, and after it
pub within_step : (now : ℕ) (view new : View) → HaltsAt now view new → BreaksOff view new
within_step now view new (inl halts) = within view new halts
within_step now view new (inr halts) =
    after_turns (record { input = Now now; outputs = halts.0 } ∷ []) view halts.1 new (halts.1, halts.2, refl)
    (within halts.1 new halts.3)

pub after_step : (now : ℕ) (view : View) (turn : Turn) (here new : View)
    → RuleAt now view turn here → BreaksOff here new → BreaksOff view new
after_step now view turn here new rule broke =
    after_turns (record { input = Now now; outputs = rule.first } ∷ record { input = turn.input; outputs = rule.second } ∷ []) view here
    new (rule.between, rule.tells, (here, rule.takes, refl)) broke

-- after a step of the client and its subjects
pub after_steps : {A : Type 0} (now : ℕ) (view : View) (input : Input) (old : List (Subject A)) (here : View) (given : List Output)
    (subjects : List (Subject A)) (new : View) → Steps now view input old here given subjects → new ≡ here → BreaksOff view new
after_steps now view input old here given subjects new steps same = record {
  turns = record { input = Now now; outputs = steps.first } ∷ record { input = input; outputs = steps.second } ∷ steps.calls;
  here = here;
  chain = steps.chain;
  ends = inl same;
}

pub err_always : {X E P : Type 0} (result : Result X E) → P → OnErr result P
err_always (Ok x) p = tt
err_always (Err e) p = p

pub ok_always : {X E P : Type 0} (result : Result X E) → P → OnOk result P
ok_always (Ok x) p = p
ok_always (Err e) p = tt
