-- What a device's agent takes at one step: what the program hands in, and then calls that the device asks of its own.
use Rattle.std.specs.Prelude.{◌≡◌, ◌≤◌, ◌⊎◌, ◌*◌, ◌^◌, ℕ, List, [], ◌∷◌, None}
use Rattle.std.specs.List.{FoldsTo}
use Rattle.std.specs.declared.alloc.Global.{Global}
use Rattle.zk_agent.specs.declared.action.Action.{Action}
use Rattle.zk_agent.specs.declared.action.Action.TheVariants as action
use Rattle.zk_agent.specs.declared.agent.Agent.{Agent}
use Rattle.zk_agent.specs.declared.input.AgentInput.{AgentInput}
use Rattle.ffi_device.specs.Happenings.{Happening, Calls}
use Rattle.ffi_device.specs.Taking.{AgentTook}

-- The first ticket of a device's own calls. A program has no ticket from 2^63 on.
abbrev pub first_own : ℕ
first_own = 3 * 2 ^ 62

-- A call of the device's own. It has no limit.
abbrev pub IsOwn : Happening → Type 0
IsOwn (Calls ticket asked None) = first_own ≤ ticket
IsOwn what = ⊥

-- an answer to one
abbrev pub IsOwnAnswer : {A : Type 0} → Action A → Type 0
IsOwnAnswer (action.Answer ticket outcome) = first_own ≤ ticket
IsOwnAnswer other = ⊥

-- What the agent took, and what it said then.
pub record Part : Type 0 where
  pub given : AgentInput Global
  pub said : List (Action Global)

-- The agent took these, one after the other, at one moment.
abbrev pub TookAll : (now : ℕ) → (before : Agent Global) → List Part → (after : Agent Global) → Type 0
TookAll now before parts after =
    FoldsTo (λ (from : Agent Global) (part : Part) to. AgentTook now part.given from to part.said) before parts after

-- All that was said is told, in its order. Only answers to calls of the device's own may be left out.
abbrev pub TellsAllBut : {A : Type 0} → (said told : List (Action A)) → Type 0
TellsAllBut [] told = told ≡ []
TellsAllBut {A} (one ∷ said) told =
    (IsOwnAnswer one × TellsAllBut said told) ⊎ ((rest : List (Action A)) × (told ≡ one ∷ rest) × TellsAllBut said rest)
