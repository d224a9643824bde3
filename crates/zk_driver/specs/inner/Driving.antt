-- What contracts of private functions say: nobody has to believe it.
use Rattle.std.specs.Prelude.{⊤, ◌+◌, ◌-◌, ◌^◌, ℕ, Bool, true, false, if◌then◌else◌}
use Rattle.std.specs.Prelude.{min, Option}
use Rattle.zk_agent.specs.declared.input.AgentInput.{AgentInput}
use Rattle.zk_link.specs.declared.brought.Brought.{Brought}
use Rattle.zk_driver.specs.declared.look.Look.{Look}
use Rattle.zk_driver.specs.Driving.{row_of, Course, IsTimely, Noted, Does, Goes}
use Rattle.zk_agent.specs.declared.input.AgentInput.TheVariants as happens
use Rattle.zk_link.specs.declared.brought.Brought.TheVariants as brought

-- whether a read has brought nothing
abbrev pub is_nothing : {A : Type 0} → Brought A → Bool
is_nothing brought.Nothing = true
is_nothing brought = false

-- a read that began at this moment, after the one before it or as the first of a row
abbrev pub look_after : (began : ℕ) → (is_again is_quiet : Bool) → Option Look → Look
look_after began is_again is_quiet before =
    record { began = began; row = if is_again then min (row_of before + 1) (2 ^ 32 - 1) else 1; is_quiet = is_quiet }

-- This is what the agent is handed first.
pub record Notes {A : Type 0} (input : AgentInput A) (old new : Course A) : Type 0 where
  pub now : ℕ
  pub between : Course A
  pub noted : Does old (Noted now input) between
  pub rest : Goes between new

-- what a read has brought, as the agent is handed it
abbrev pub input_of : {A : Type 0} → Brought A → AgentInput A
input_of (brought.Piece bytes) = happens.Bytes bytes
input_of brought.Nothing = happens.Moment
input_of brought.End = happens.Cut

-- What a read has brought may be taken at a moment.
abbrev pub IsTaken : {A : Type 0} → (now : ℕ) → Brought A → Course A → Type 0
IsTaken now brought.Nothing course = IsTimely now course
IsTaken now brought course = ⊤
