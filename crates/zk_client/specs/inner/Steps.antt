-- What contracts of private functions say: nobody has to believe it.
use Rattle.std.specs.Prelude.{◌≡◌, ℕ, Bool, ◌+◌, ◌<◌, ◌≤◌, pos, List, [], ◌∷◌, ◌++◌, length, Option, Some, None, unsigned_abs, true}
use Rattle.std.specs.Prelude.{false}
use Rattle.zk_nodes.specs.declared.side.Side.{Side}
use Rattle.zk_conversation.specs.Calls.{Call, call_payload}
use Rattle.zk_conversation.specs.Questions.{Close, Question, question_of, watched_side}
use Rattle.zk_conversation.specs.Pending.{calls_pending, watches_pending}
use Rattle.zk_session.specs.declared.states.State.TheVariants.{Closed, Connected}
use Rattle.zk_watches.specs.Lists.{count_of}
use Rattle.zk_turns.specs.Turns.{Enters, Output, Outcome, Input}
use Rattle.zk_turns.specs.Past.{Denied, Asked, Happening}
use Rattle.zk_turns.specs.Rule.{Rule}
use Rattle.zk_session.specs.SessionView.{Welcome}
use Rattle.zk_session.specs.declared.fields.Response.{Response}
use Rattle.zk_turns.specs.View.{View}
use Rattle.zk_limits.specs.declared.limits.TheConstants.{MOST_PATHS, MOST_PENDING}

-- nothing keeps a call from being sent
pub record IsSendable (view : View) (call : Call) : Type 0 where
  pub talks : view.standing.state ≡ Connected
  pub few : calls_pending view.pending < MOST_PENDING
  pub room : (side : Side)
      → watched_side (question_of call) ≡ Some side → count_of view.lists side + watches_pending side view.pending < MOST_PATHS
  pub fits : length (call_payload (pos view.xid) call) ≤ view.limits.outgoing

-- the session that an accepted response gives
abbrev pub welcome_of : Response → Welcome
welcome_of response = record { timeout = unsigned_abs response.time_out; session = response.session_id; password = response.password.now }

-- One turn by the rule, whose outputs are added to these.
pub record Adds (view : View) (input : Input) (before now : List Output) (after : View) : Type 0 where
  pub outputs : List Output
  pub added : now ≡ before ++ outputs
  pub rule : Rule view (record { input = input; outputs = outputs }) after

-- what a call makes happen, by why it is refused
abbrev pub calls : ℕ → Call → Option Outcome → List Happening
calls ticket call why = elim why [ None ↦ Asked ticket call ∷ [] | Some why ↦ Denied ticket why ∷ [] ]

-- what the reply to a close enters
abbrev pub closing : Question → List Output
closing question = elim question [ Close ↦ Enters Closed ∷ [] | _ ↦ [] ]

abbrev pub has_any : {A : Type 0} → List A → Bool
has_any [] = false
has_any (x ∷ xs) = true
