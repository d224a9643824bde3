-- What happens to a session.
use Rattle.std.specs.Prelude.{◌==◌, Bool, ℕ, true, false, List, Option, Some, None, if◌then◌else◌}
use Rattle.zk_nodes.specs.Path.{Text}
use Rattle.zk_nodes.specs.declared.side.Side.{Side}
use Rattle.zk_conversation.specs.Calls.{Call}
use Rattle.zk_conversation.specs.Views.{call_view}
use Rattle.zk_agent.specs.declared.input.AgentInput.{AgentInput}
use Rattle.zk_agent.specs.declared.input.AgentInput.TheVariants as input

-- What a caller hands in, without where it lies in memory. Contenders are the device's own: of them the agent is given the moment alone.
pub data Happening : Type 0 where
  Opened Failed Cut Moment : Happening
  Bytes : List ℕ → Happening
  Addressed : (kept added : ℕ) → (is_listed : Bool) → Happening
  Calls : (ticket : ℕ) → Call → (until : Option ℕ) → Happening
  Introduces : (frame : List ℕ) → Happening
  Follows : (ticket : ℕ) → Side → Text → Happening
  Unfollows : (ticket : ℕ) → Happening
  FollowsTree : (ticket : ℕ) → Text → (most : ℕ) → Happening
  UnfollowsTree : (ticket : ℕ) → Happening
  Contends : (ticket : ℕ) → (directory : Text) → (naming : ℕ) → (guid : Text) → (bytes acl : Option (List ℕ)) → (may_be_there : Bool)
      → Happening
  GivesUp : (ticket : ℕ) → Happening

abbrev pub happening : {A : Type 0} → AgentInput A → Happening
happening input.Opened = Opened
happening input.Failed = Failed
happening (input.Bytes bytes) = Bytes bytes.items
happening input.Cut = Cut
happening input.Moment = Moment
happening (input.Addresses kept added is_listed) = Addressed kept added is_listed
happening (input.Call ticket call until) = Calls ticket (call_view call) until
happening (input.Credential credential) = Introduces credential.frame.items
happening (input.Follow ticket side path) = Follows ticket side path
happening (input.Unfollow ticket) = Unfollows ticket
happening (input.FollowTree ticket root most) = FollowsTree ticket root most
happening (input.UnfollowTree ticket) = UnfollowsTree ticket

-- what the agent is given of it
abbrev pub given_of : Happening → Happening
given_of (Contends ticket directory naming guid bytes acl may_be_there) = Moment
given_of (GivesUp ticket) = Moment
given_of what = what

-- whether a contender joins
abbrev pub is_contend : Happening → Bool
is_contend (Contends ticket directory naming guid bytes acl may_be_there) = true
is_contend _ = false

-- whether bytes came
abbrev pub is_bytes : Happening → Bool
is_bytes (Bytes bytes) = true
is_bytes _ = false

-- the limit of a call at a moment: at the last one of all there is none
abbrev pub limit_of : (until : ℕ) → Option ℕ
limit_of until = if until == 18446744073709551615 then None else Some until
