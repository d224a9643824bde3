-- What a device tells of its agent's actions, of which it keeps the answers to its own calls.
use Rattle.std.specs.Prelude.{◌≡◌, ◌⊎◌, ◌*◌, ◌++◌, List, [], ◌∷◌}
use Rattle.zk_agent.specs.declared.action.Action.{Action}
use Rattle.ffi_device.specs.Chains.{IsOwnAnswer, TellsAllBut}

-- One action more is told, or it answers a call of the device's own.
abbrev pub IsHeardOf : {A : Type 0} → (one : Action A) → (before after : List (Action A)) → Type 0
IsHeardOf one before after = (IsOwnAnswer one × (after ≡ before)) ⊎ (after ≡ before ++ one ∷ [])

-- These are told after what was told before, except answers to such calls.
pub record TellsMore {A : Type 0} (said before after : List (Action A)) : Type 0 where
  pub told : List (Action A)
  pub but : TellsAllBut said told
  pub is : after ≡ before ++ told
