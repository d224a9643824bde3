-- What becomes of an agent's device, by the number that is told.
use Rattle.std.specs.Prelude.{◌≡◌, ◌^◌, ◌||◌, ℕ, zero, ℤ, pos, negsuc, false, true, List, [], ◌∷◌, ◌++◌, Option, Some, None, Result}
use Rattle.std.specs.Prelude.{MatchResult}
use Rattle.std.specs.List.{flat_map, AllByRecursion}
use Rattle.std.specs.List.Sorted.{IsPermutation}
use Rattle.std.specs.declared.alloc.Global.{Global}
use Rattle.zk_conversation.specs.Calls.{Raw}
use Rattle.zk_conversation.specs.declared.raw.RawOperation.{RawOperation}
use Rattle.zk_frames.specs.declared.limits.FrameLimits.{FrameLimits}
use Rattle.zk_turns.specs.Turns.{Start}
use Rattle.zk_turns.specs.Rule.{forgotten}
use Rattle.zk_turns.specs.View.{View, view_at}
use Rattle.zk_client.specs.Clients.{view_of}
use Rattle.zk_dialler.specs.Orders.{numbers, shuffled}
use Rattle.zk_dialler.specs.Chances.{state_after}
use Rattle.zk_dialler.specs.declared.dialler.Dialler.{Dialler}
use Rattle.zk_dialler.specs.declared.dialler.Phase.TheVariants.{Waiting}
use Rattle.zk_agent.specs.declared.action.Action.{Action}
use Rattle.zk_agent.specs.declared.input.AgentInput.{AgentInput}
use Rattle.zk_agent.specs.Agents.{IsBroken, IsLed}
use Rattle.zk_agent.specs.Credentials.{no_papers, papers_of}
use Rattle.zk_agent.specs.Telling.{told_by}
use Rattle.zk_conclusions.specs.Revisions.{raised}
use Rattle.zk_contend.specs.Collections.{asker_of, one_of}
use Rattle.zk_contend.specs.declared.collection.Contenders.{Contenders}
use Rattle.ffi_device.specs.Codes.{refusal_code}
use Rattle.ffi_device.specs.Refused.{RefusesMemory}
use Rattle.ffi_device.specs.declared.refusal.DeviceRefusal.{DeviceRefusal}
pub use Rattle.ffi_device.specs.Happenings.{Happening, Opened, Failed, Cut, Moment, Bytes, Addressed, Calls, Introduces, Follows}
pub use Rattle.ffi_device.specs.Happenings.{Unfollows, FollowsTree, UnfollowsTree, Contends, GivesUp}
pub use Rattle.ffi_device.specs.Happenings.{given_of, happening, is_bytes, is_contend, limit_of}
pub use Rattle.ffi_device.specs.Taking.{AgentTook, AreFollowed}
use Rattle.ffi_device.specs.Chains.{IsOwn, Part, TellsAllBut, TookAll}
use Rattle.ffi_device.specs.Contending.{GoesOnWhere, JoinsBy}
use Rattle.ffi_device.specs.Revisions.{revised}
use Rattle.ffi_device.specs.declared.device.Device.{Device}

-- ---- steps

-- The agent took an input that was noticed at a moment, and then, at the same moment, calls of the device's own, each by all that a step of
-- it promises. What was said is told in its order, except answers to such calls, and none of it was read. A device on which nobody contends
-- asks none.
pub record Took (now : ℕ) (given : AgentInput Global) (before after : Device) : Type 0 where
  pub went_on : before.is_over ≡ false
  pub goes_on : after.is_over ≡ false
  pub unread : after.read ≡ 0
  pub said : List (Action Global)
  pub own : List Part
  pub took : TookAll now before.agent (record { given = given; said = said } ∷ own) after.agent
  pub are_own : AllByRecursion (λ part. IsOwn (happening part.given)) own
  pub told : TellsAllBut (said ++ flat_map (λ part. part.said) own) after.said.items
  pub alone : after.is_contending ≡ false → (own ≡ []) × (after.said.items ≡ said)
  pub number : after.revision.number ≡ revised (is_bytes (happening given)) (told_by after.said.items) before.revision.number

-- The same of an input that is this. A contender joins, or is given up, before the agent's step; and after it the contenders go on.
pub record Stepped (now : ℕ) (what : Happening) (before after : Device) : Type 0 where
  pub given : AgentInput Global
  pub is : happening given ≡ given_of what
  pub took : Took now given before after
  pub contends : after.is_contending ≡ (is_contend what || before.is_contending)
  pub joined : Contenders Global
  pub joins : JoinsBy what before.contenders joined
  pub goes : GoesOnWhere after.is_contending now joined took.took.0 took.said took.own after

-- Memory ran out within this step, or within an earlier one: the agent goes on no further, and nothing is told. The revision is the next
-- one. The agent's client has gone on until then, in one chain from before this step.
pub record Stopped (before after : Device) : Type 0 where
  pub over : after.is_over ≡ true
  pub silent : after.said.items ≡ []
  pub no_news : after.news.items ≡ []
  pub number : after.revision.number ≡ raised before.revision.number
  pub broke : IsBroken before.agent after.agent

-- What happened, at a moment: 0 if it was a step of the device, -1 if the agent goes on no further, and any other number where
-- nothing happened, for a reason that it has.
abbrev pub Steps : (Refuses : ℤ → Type 0) → (now : ℕ) → Happening → (before : Device) → (code : ℤ) → (after : Device) → Type 0
Steps Refuses now what before (pos zero) after = Stepped now what before after
Steps Refuses now what before (negsuc zero) after = Stopped before after
Steps Refuses now what before code after = Refuses code × (after ≡ before)

-- A request of another operation, whose bytes after the header a caller spells: a call like all others, which is refused if memory ran
-- out alone. If the number that was asked for is that of none which a caller may spell, -12 is told, and nothing happened.
abbrev pub StepsRaw : Option RawOperation → (bytes : List ℕ) (now ticket : ℕ) (until : Option ℕ) (before : Device) → (code : ℤ)
    → (after : Device) → Type 0
StepsRaw (Some operation) bytes now ticket until before code after =
    Steps RefusesMemory now (Calls ticket (Raw operation bytes) until) before code after
StepsRaw None bytes now ticket until before code after = (code ≡ negsuc 11) × (after ≡ before)

-- ---- beginnings

-- The stale answers are gone from what the client keeps, and nothing else is another one.
pub record Forgot (before after : Device) : Type 0 where
  pub view : view_of after.agent.asker.follower.client ≡ record (view_of before.agent.asker.follower.client)
      { cache = forgotten (view_of before.agent.asker.follower.client).cache }
  pub led : IsLed (view_of before.agent.asker.follower.client) → IsLed (view_of after.agent.asker.follower.client)
  pub followed : AreFollowed before.agent → AreFollowed after.agent
  pub subjects : after.agent.asker.follower.subjects ≡ before.agent.asker.follower.subjects
  pub calls : after.agent.asker.line ≡ before.agent.asker.line
  pub dialler : after.agent.dialler ≡ before.agent.dialler
  pub timeout : after.agent.timeout_ms ≡ before.agent.timeout_ms
  pub latest : after.agent.latest ≡ before.agent.latest
  pub heard : after.agent.heard_at ≡ before.agent.heard_at
  pub trees : after.agent.trees ≡ before.agent.trees
  pub credentials : after.agent.credentials ≡ before.agent.credentials
  pub said : after.said ≡ before.said
  pub read : after.read ≡ before.read
  pub over : after.is_over ≡ before.is_over
  pub number : after.revision ≡ before.revision
  pub contenders : after.contenders ≡ before.contenders
  pub contends : after.is_contending ≡ before.is_contending
  pub news : after.news ≡ before.news

-- Nothing was asked, followed, heard or said yet, nobody contends, and the client is this one. The revision is 1.
pub record BeginsWith (view : View) (device : Device) : Type 0 where
  pub client : view_of device.agent.asker.follower.client ≡ view
  pub subjects : device.agent.asker.follower.subjects.items ≡ []
  pub calls : device.agent.asker.line.entries.items ≡ []
  pub latest : device.agent.latest ≡ 0
  pub heard : device.agent.heard_at ≡ None
  pub credentials : papers_of device.agent.credentials ≡ no_papers
  pub phase : device.agent.dialler.phase ≡ Waiting
  pub silent : device.said.items ≡ []
  pub trees : device.agent.trees.all.items ≡ []
  pub next : device.agent.trees.next ≡ 2 ^ 63
  pub goes_on : device.is_over ≡ false
  pub number : device.revision.number ≡ 1
  pub nobody : (ticket : ℕ) → one_of device.contenders ticket ≡ None
  pub no_asker : (call : ℕ) → asker_of device.contenders call ≡ None
  pub no_contender : device.is_contending ≡ false
  pub no_news : device.news.items ≡ []

-- a session to begin with, whose payloads have these limits
abbrev pub within : FrameLimits → Start → Start
within limits start = record start { limits = limits }

-- a device that has begun so, or a refusal for a reason that its number has
abbrev pub Begins : (Refuses : ℤ → Type 0) → Start → Result Device DeviceRefusal → Type 0
Begins Refuses start made = MatchResult made (BeginsWith (view_at start [])) (λ refusal. Refuses (refusal_code refusal))

-- Nothing was dialled yet, and this many addresses are there, in an order that is random by the seed.
pub record Dials {A : Type 0} (addresses seed : ℕ) (dialler : Dialler A) : Type 0 where
  pub phase : dialler.phase ≡ Waiting
  pub order : dialler.ring.order.items ≡ shuffled seed addresses (numbers addresses)
  pub each : IsPermutation (numbers addresses) dialler.ring.order.items
  pub first : dialler.ring.next ≡ 0
  pub backoff : dialler.backoff
      ≡ record { chance = record { state = state_after addresses seed }; failures = 0; connected = None; ended = 0; least = 0; moment = 0 }
