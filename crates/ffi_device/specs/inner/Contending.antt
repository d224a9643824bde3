-- What contracts of private functions say: nobody has to believe it.
use Rattle.std.specs.Prelude.{◌≡◌, ◌++◌, ℕ, Bool, false, List, [], None}
use Rattle.std.specs.List.{flat_map, list_any, AllByRecursion}
use Rattle.std.specs.declared.alloc.Global.{Global}
use Rattle.zk_contend.specs.Collections.{asker_of, one_of}
use Rattle.zk_contend.specs.declared.collection.Contenders.{Contenders}
use Rattle.zk_agent.specs.declared.action.Action.{Action}
use Rattle.zk_agent.specs.declared.agent.Agent.{Agent}
use Rattle.ffi_device.specs.Chains.{IsOwn, Part, TellsAllBut, TookAll}
use Rattle.ffi_device.specs.inner.Chains.{TellsMore}
use Rattle.ffi_device.specs.Contending.{is_own_answer, view_in, AskedAll, GoesOnWhere, Rests}
use Rattle.ffi_device.specs.Happenings.{happening}
use Rattle.ffi_device.specs.declared.device.Device.{Device}

-- Calls of the contenders were taken, and what was said then is told after what was told before.
pub record AsksMore (now : ℕ) (before : Agent Global × Contenders Global) (after : Agent Global × Contenders Global)
    (was is : List (Action Global)) : Type 0 where
  pub own : List Part
  pub asked : AskedAll now before own after
  pub tells : TellsMore (flat_map (λ part. part.said) own) was is

-- The same until none is due.
pub record AsksAll (now : ℕ) (before : Agent Global × Contenders Global) (agent : Agent Global) (rested : Contenders Global)
    (was is : List (Action Global)) : Type 0 where
  pub looked : Contenders Global
  pub more : AsksMore now before (agent, looked) was is
  pub rests : Rests (view_in agent) now looked rested

-- No contender is there, no call of one is to be heard of, and none of these answers one.
pub record HasNobody (contenders : Contenders Global) (said : List (Action Global)) : Type 0 where
  pub nobody : (ticket : ℕ) → one_of contenders ticket ≡ None
  pub nothing : (call : ℕ) → asker_of contenders call ≡ None
  pub programs : list_any is_own_answer said ≡ false

-- A device goes on after its agent's step.
pub record WentOn (is_contending : Bool) (now : ℕ) (joined : Contenders Global) (agent : Agent Global) (said : List (Action Global))
    (after : Device) : Type 0 where
  pub own : List Part
  pub goes : GoesOnWhere is_contending now joined agent said own after
  pub took : TookAll now agent own after.agent
  pub are_own : AllByRecursion (λ part. IsOwn (happening part.given)) own
  pub told : TellsAllBut (said ++ flat_map (λ part. part.said) own) after.said.items
  pub alone : is_contending ≡ false → (own ≡ []) × (after.said.items ≡ said)
