-- A step of a device: its agent's, and then those of what its contenders ask. Contenders join before it, and nothing else becomes of the
-- device then.
use Rattle.std.proofs.Common.{◌≡◌, ◌∙◌, Bool, true, false, ℕ, ℤ, List, [], ap, refl, sym, subst}
use Rattle.std.specs.Prelude.{⊤, ◌||◌, Result, Ok, Err, IfErr, OnOk}
use Rattle.std.specs.declared.alloc.Global.{Global}
use Rattle.zk_conclusions.specs.Revisions.{raised}
use Rattle.zk_contend.specs.declared.collection.Contenders.{Contenders}
use Rattle.zk_agent.proofs.Breaking.{beside}
use Rattle.zk_agent.specs.Agents.{IsBroken}
use Rattle.zk_agent.specs.declared.action.Action.{Action}
use Rattle.zk_agent.specs.declared.agent.Agent.{Agent}
use Rattle.zk_agent.specs.declared.input.AgentInput.{AgentInput}
use Rattle.zk_agent.specs.declared.input.AgentInput.TheVariants as input
use Rattle.zk_agent.specs.Telling.{told_by}
use Rattle.ffi_device.specs.Codes.{code_of, refusal_code}
use Rattle.ffi_device.specs.Contending.{view_in, GoesOnWhere, JoinsBy}
use Rattle.ffi_device.specs.Happenings.{Happening, Moment, given_of, happening, is_bytes, is_contend}
use Rattle.ffi_device.specs.Revisions.{revised}
use Rattle.ffi_device.specs.Steps.{Stepped, Steps, Stopped}
use Rattle.ffi_device.specs.Taking.{AgentTook}
use Rattle.ffi_device.specs.declared.device.Device.{Device}
use Rattle.ffi_device.specs.declared.refusal.DeviceRefusal.{DeviceRefusal}
use Rattle.ffi_device.specs.declared.refusal.DeviceRefusal.TheVariants.{Halted}
use Rattle.ffi_device.specs.inner.Contending.{WentOn}

-- What an agent takes is given to it as it is, and no contender joins by it.
record IsAgents (what : Happening) : Type 0 where
  is : what ≡ given_of what
  none : is_contend what ≡ false
  stays : (contenders : Contenders Global) → JoinsBy what contenders contenders

agents : (given : AgentInput Global) → IsAgents (happening given)
agents input.Opened = record { is = refl; none = refl; stays = λ contenders. refl }
agents input.Failed = record { is = refl; none = refl; stays = λ contenders. refl }
agents (input.Bytes bytes) = record { is = refl; none = refl; stays = λ contenders. refl }
agents input.Cut = record { is = refl; none = refl; stays = λ contenders. refl }
agents input.Moment = record { is = refl; none = refl; stays = λ contenders. refl }
agents (input.Addresses kept added is_listed) = record { is = refl; none = refl; stays = λ contenders. refl }
agents (input.Call ticket call until) = record { is = refl; none = refl; stays = λ contenders. refl }
agents (input.Credential credential) = record { is = refl; none = refl; stays = λ contenders. refl }
agents (input.Follow ticket side path) = record { is = refl; none = refl; stays = λ contenders. refl }
agents (input.Unfollow ticket) = record { is = refl; none = refl; stays = λ contenders. refl }
agents (input.FollowTree ticket root most) = record { is = refl; none = refl; stays = λ contenders. refl }
agents (input.UnfollowTree ticket) = record { is = refl; none = refl; stays = λ contenders. refl }

pub stepped_on : (now : ℕ) (given : AgentInput Global) (before after : Device) (agent : Agent Global) (said : List (Action Global))
    → before.is_over ≡ false → after.is_over ≡ false → after.read ≡ 0 → AgentTook now given before.agent agent said
    → after.is_contending ≡ before.is_contending → WentOn before.is_contending now before.contenders agent said after
    → after.revision.number ≡ revised (is_bytes (happening given)) (told_by after.said.items) before.revision.number
    → Stepped now (happening given) before after
stepped_on now given before after agent said went_on goes_on unread took contends went number =
    let as' = agents given in
    record {
      given = given;
      is = as'.is;
      took = record {
        went_on = went_on;
        goes_on = goes_on;
        unread = unread;
        said = said;
        own = went.own;
        took = (agent, took, went.took);
        are_own = went.are_own;
        told = went.told;
        alone = λ e. went.alone (sym contends ∙ e);
        number = number;
      };
      contends = contends ∙ ap (λ b. b || before.is_contending) (sym as'.none);
      joined = before.contenders;
      joins = as'.stays before.contenders;
      goes = subst (λ b. GoesOnWhere b now before.contenders agent said went.own after) (sym contends) went.goes;
    }

-- Contenders joined, or were given up, before a step that notices the moment.
pub joined_on : (what : Happening) (now : ℕ) (before after : Device) (joined : Contenders Global) (is_contending : Bool)
    → given_of what ≡ Moment → is_contending ≡ (is_contend what || before.is_contending) → JoinsBy what before.contenders joined
    → Stepped now Moment (record before { contenders = joined; is_contending = is_contending }) after → Stepped now what before after
joined_on what now before after joined is_contending moment contends joins does = record {
  given = does.given;
  is = does.is ∙ sym moment;
  took = record {
    went_on = does.took.went_on;
    goes_on = does.took.goes_on;
    unread = does.took.unread;
    said = does.took.said;
    own = does.took.own;
    took = does.took.took;
    are_own = does.took.are_own;
    told = does.took.told;
    alone = does.took.alone;
    number = does.took.number;
  };
  contends = does.contends ∙ contends;
  joined = joined;
  joins = joins;
  goes = subst (λ contenders. GoesOnWhere after.is_contending now contenders does.took.took.0 does.took.said does.took.own after)
      does.joins does.goes;
}

-- the same by the number that is told
pub joined_steps : (Refuses : ℤ → Type 0) (what : Happening) (now : ℕ) (before after : Device) (joined : Contenders Global)
    (is_contending : Bool) (result : Result ⊤ DeviceRefusal)
    → given_of what ≡ Moment → is_contending ≡ (is_contend what || before.is_contending) → JoinsBy what before.contenders joined
    → OnOk result (Stepped now Moment (record before { contenders = joined; is_contending = is_contending }) after)
    → IfErr result (λ refusal. (refusal ≡ Halted) × Stopped (record before { contenders = joined; is_contending = is_contending }) after)
    → Steps Refuses now what before (code_of result) after
joined_steps Refuses what now before after joined is_contending (Ok done) moment contends joins stepped stopped =
    joined_on what now before after joined is_contending moment contends joins stepped
joined_steps Refuses what now before after joined is_contending (Err refusal) moment contends joins stepped stopped =
    let stops = stopped.1 in
    subst (λ r. Steps Refuses now what before (refusal_code r) after) (sym stopped.0)
    (record { over = stops.over; silent = stops.silent; no_news = stops.no_news; number = stops.number; broke = stops.broke })

-- Where memory runs out before the agent's step, its client stands where it stood.
pub halted_steps : (Refuses : ℤ → Type 0) (what : Happening) (now : ℕ) (before after : Device) (refusal : DeviceRefusal)
    → refusal ≡ Halted → after.is_over ≡ true → after.said.items ≡ [] → after.news.items ≡ []
    → after.revision.number ≡ raised before.revision.number → after.agent ≡ before.agent
    → Steps Refuses now what before (refusal_code refusal) after
halted_steps Refuses what now before after refusal halted over silent no_news number agent =
    subst (λ r. Steps Refuses now what before (refusal_code r) after) (sym halted) (record {
      over = over;
      silent = silent;
      no_news = no_news;
      number = number;
      broke = subst (IsBroken before.agent) (sym agent)
          (beside before.agent.timeout_ms (view_in before.agent) (view_in before.agent) refl);
    })
