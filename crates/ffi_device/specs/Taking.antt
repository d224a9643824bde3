-- One step of the agent, and what it said.
use Rattle.std.specs.Prelude.{◌≡◌, ◌≢◌, ◌+◌, ℕ, max, List, [], All}
use Rattle.std.specs.declared.alloc.Global.{Global}
use Rattle.zk_session.specs.declared.states.State.TheVariants.{Expired, Closed}
use Rattle.zk_client.specs.Clients.{view_of}
use Rattle.zk_dialler.specs.Dialling.{is_open}
use Rattle.zk_follow.specs.Following as following
use Rattle.zk_agent.specs.declared.action.Action.{Action}
use Rattle.zk_agent.specs.declared.agent.Agent.{Agent}
use Rattle.zk_agent.specs.declared.input.AgentInput.{AgentInput}
use Rattle.zk_agent.specs.Agents.{heard_after, how_many_asked, how_many_ended, moves_of, papers_in, trail_of, Comes, IsAnswered, IsDecided}
use Rattle.zk_agent.specs.Credentials.{all_written, papers_of}
use Rattle.zk_agent.specs.Calls.{how_many, IsInTime, IsServed}
use Rattle.zk_agent.specs.Telling.{told_by}
use Rattle.zk_agent.specs.Trees.{GoesOn}

-- each subject is followed, at the latest moment
abbrev pub AreFollowed : {A : Type 0} → Agent A → Type 0
AreFollowed agent = following.AreFollowed agent.latest (view_of agent.asker.follower.client) agent.asker.follower.subjects.items

-- The agent took an input that was noticed at a moment, by all that a step of it promises, and said this.
pub record AgentTook (now : ℕ) (given : AgentInput Global) (before after : Agent Global) (said : List (Action Global)) : Type 0 where
  pub comes : Comes (max before.latest now) (moves_of (is_open after.dialler.phase) (max before.latest now) given before)
      (trail_of before []) (trail_of after said)
  pub followed : AreFollowed after
  pub calls : (ticket : ℕ) → how_many ticket after.asker.line.entries.items + how_many_ended ticket (told_by said)
      ≡ how_many ticket before.asker.line.entries.items + how_many_asked ticket given
  pub served : All (IsServed (view_of after.asker.follower.client)) after.asker.line.entries.items
  pub limits : All (IsInTime after.latest) after.asker.line.entries.items
  pub answers : IsAnswered after
  pub closed : (view_of after.asker.follower.client).standing.state ≡ Closed → after.asker.line.entries.items ≡ []
  pub renewed : (view_of after.asker.follower.client).standing.state ≢ Expired
  pub dials : (view_of after.asker.follower.client).standing.state ≢ Closed → IsDecided (max before.latest now) (trail_of after said)
  pub latest : after.latest ≡ max before.latest now
  pub heard : after.heard_at ≡ heard_after (is_open before.dialler.phase) (max before.latest now) given before.heard_at
  pub trees : GoesOn (max before.latest now) given before after said
  pub credentials : papers_of after.credentials ≡ all_written (is_open after.dialler.phase) (papers_in given before)
