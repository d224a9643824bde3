-- Beside a run of a driver the history goes on, and what was good then stays the history's.
use Rattle.std.proofs.Common.{◌≡◌, inl, inr, Bool, true, false, List, [], ◌∷◌, Option, Some, None, refl, sym, subst}
use Rattle.std.specs.Prelude.{ℕ}
use Rattle.std.specs.List.{FoldsTo}
use Rattle.zk_link.specs.FarEnds.{FarEnd}
use Rattle.zk_nodes.specs.History.{History, IsHistory}
use Rattle.zk_turns.specs.View.{View}
use Rattle.zk_laws.specs.Headline.{IsCoherentWith}
use Rattle.theory_serving.specs.GoingOn.{GoesOn}
use Rattle.theory_serving.specs.Shown.{Over, Shown}
use Rattle.theory_serving.proofs.Views.{good_session, rests_session}
use Rattle.zk_bench.proofs.Processed.{goes_further}
use Rattle.zk_agent.specs.declared.input.AgentInput.TheVariants as happens
use Rattle.zk_driver.specs.Driving.{Looked, Noted, Written}
use Rattle.zk_driver.specs.Flowing.{Asked, Deed, Flow, Made, Passes}
use Rattle.theory_drivers.specs.Acts.{Act, Gives, Happens, Serves, Takes}
use Rattle.theory_drivers.specs.Worlds.{Befalls, ByDriver, ByStream, Meanwhile, Meets}
use Rattle.theory_drivers.proofs.Turned.{goes_nowhere, Kept}
use Rattle.theory_drivers.proofs.Served.{meets_driver, steps_bound, Bound}
use Rattle.theory_shown.specs.Watched.{RunMeets}

pub same_on : (before after : Shown) → after ≡ before → GoesOn before.history after.history
same_on before after same = subst (λ (s : Shown). GoesOn before.history s.history) (sym same) (goes_nowhere before.history)

-- ---- acts

act_on : (act : Act) (old new : Shown) → Happens old act new → GoesOn old.history new.history
act_on (Takes bytes) old new same = subst (λ (s : Shown). GoesOn old.history s.history) (sym same) (goes_nowhere old.history)
act_on (Gives bytes) old new happens = subst (λ (s : Shown). GoesOn old.history s.history) (sym happens.1) (goes_nowhere old.history)
act_on Serves old new (inl takes) = takes.1.1.goes.history
act_on Serves old new (inr (inl processes)) = processes.goes_on
act_on Serves old new (inr (inr ends)) = ends.goes_on

pub acts_on : (acts : List Act) (old new : Shown) → FoldsTo Happens old acts new → GoesOn old.history new.history
acts_on [] old new same = subst (λ (s : Shown). GoesOn old.history s.history) same (goes_nowhere old.history)
acts_on (act ∷ acts) old new happens =
    goes_further old.history happens.0.history new.history (act_on act old happens.0 happens.1) (acts_on acts happens.0 new happens.2)

-- ---- a run

module _ {A : Type 0} {far : FarEnd} (By : List ℕ → List ℕ → Flow A far → Flow A far → Type 0) where
  meanwhile_on : (there : Bool) (old new : Flow A far) (before after : Shown)
      → Meanwhile By there old new before after → GoesOn before.history after.history
  meanwhile_on true old new before after meets = acts_on meets.0 before after meets.1
  meanwhile_on false old new before after meets = meets

  befalls_on : (deed : Deed A) (old new : Flow A far) (before after : Shown)
      → Befalls By old deed new before after → GoesOn before.history after.history
  befalls_on (Made Written) old new before after meets = meanwhile_on old.course.channel.is_open old new before after meets
  befalls_on (Made (Looked look)) old new before after meets = meanwhile_on old.course.channel.is_open old new before after meets
  befalls_on (Made (Noted now happens.Opened)) old new before after meets =
      subst (λ (s : Shown). GoesOn before.history s.history) (sym meets.2) (goes_nowhere before.history)
  befalls_on (Made (Noted now happens.Failed)) old new before after meets = same_on before after meets
  befalls_on (Made (Noted now happens.Cut)) old new before after meets = same_on before after meets
  befalls_on (Made (Noted now (happens.Bytes bytes))) old new before after meets = same_on before after meets
  befalls_on (Made (Noted now happens.Moment)) old new before after meets = same_on before after meets
  befalls_on (Made (Noted now (happens.Addresses kept added is_listed))) old new before after meets = same_on before after meets
  befalls_on (Made (Noted now (happens.Call ticket call until))) old new before after meets = same_on before after meets
  befalls_on (Made (Noted now (happens.Follow ticket side path))) old new before after meets = same_on before after meets
  befalls_on (Made (Noted now (happens.Unfollow ticket))) old new before after meets = same_on before after meets
  befalls_on (Made (Noted now (happens.FollowTree ticket root most))) old new before after meets = same_on before after meets
  befalls_on (Made (Noted now (happens.Credential credential))) old new before after meets = same_on before after meets
  befalls_on (Made (Noted now (happens.UnfollowTree ticket))) old new before after meets = same_on before after meets
  befalls_on (Asked now input) old new before after meets = same_on before after meets

  steps_on : (steps : List (Option (Deed A))) (old new : Flow A far) (passes : FoldsTo Passes old steps new) (before after : Shown)
      → Meets By steps old new passes before after
      → GoesOn before.history after.history
  steps_on [] old new same before after meets = same_on before after meets
  steps_on (Some deed ∷ steps) old new passes before after meets =
      goes_further before.history meets.0.history after.history (befalls_on deed old passes.0 before meets.0 meets.1)
      (steps_on steps passes.0 new passes.2 meets.0 after meets.2)
  steps_on (None ∷ steps) old new passes before after meets = steps_on steps passes.0 new passes.2 before after meets

  pub run_on : (old new : Flow A far) (before after : Shown) → RunMeets By old new before after → GoesOn before.history after.history
  run_on old new before after run = steps_on run.runs.steps old new run.runs.passes before after run.meets

pub run_bound : {A : Type 0} {far : FarEnd} (old new : Flow A far) (before after : Shown)
    → RunMeets ByDriver old new before after → Bound old before → Bound new after
run_bound old new before after run bound =
    steps_bound run.runs.steps old new run.runs.passes before after run.meets bound

-- by what streams know it is also by what was written and read
pub run_driver : {A : Type 0} {far : FarEnd} (old new : Flow A far) (before after : Shown)
    → RunMeets ByStream old new before after → RunMeets ByDriver old new before after
run_driver old new before after run = record {
  runs = run.runs;
  meets = meets_driver run.runs.steps old new run.runs.passes before after run.meets;
}

-- ---- what was good then

-- is the history's as it is later
pub kept_coheres : (view : View) (is_there : Bool) (unsent held : List ℕ) (shown : Shown) (history : History)
    → Kept view is_there unsent held shown → GoesOn shown.history history → IsHistory history
    → IsCoherentWith history view
kept_coheres view is_there unsent held shown history k goes is =
    good_session view (record k.met { history = history; phase = Over }) is
    (rests_session view k.met k.was (record k.met { history = history; phase = Over })
    (subst (λ h. GoesOn h history) (sym k.history) goes) (λ up. (refl, refl)))
