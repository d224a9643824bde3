-- What a program is told.
use Rattle.std.specs.Prelude.{◌==◌, ℕ, ℤ, Bool, false, List, [], ◌∷◌, map, Option, Some, None, string_bytes}
use Rattle.zk_turns.specs.Turns.{Output, ConnectionLoss, SessionExpired, SessionClosed}
use Rattle.zk_turns.specs.Turns as turns
use Rattle.zk_client.specs.Views.{fault_view, outcome_view}
use Rattle.zk_dialler.specs.declared.dialler.DialDue.{DialDue}
use Rattle.zk_dialler.specs.declared.dialler.DialDue.TheVariants.{Dial, GiveUp}
use Rattle.zk_follow.specs.declared.news.News.{News}
use Rattle.zk_follow.specs.declared.news.News.TheVariants as news
use Rattle.zk_calls.specs.declared.entry.Ended.{Ended}
use Rattle.zk_calls.specs.declared.entry.Ending.{Ending}
use Rattle.zk_calls.specs.declared.entry.Ending.TheVariants as ending
use Rattle.zk_trees.specs.Tending.{tree_told, TreeTold}
use Rattle.zk_agent.specs.declared.action.Action.{Action}
use Rattle.zk_agent.specs.declared.action.Action.TheVariants as action

-- What an agent asks of its program, and what it tells it, without where it lies in memory.
pub data Told : Type 0 where
  Says : Output → Told
  Tells : (ticket : ℕ) → News → Told
  Dials : (place within : ℕ) → Told
  TimesOut : (ticket : ℕ) → (was_sent : Bool) → Told
  HangsUp Begins : Told
  Introduces : (frame : List ℕ) → Told
  Judges : (place : ℕ) → (code : ℤ) → Told
  TellsTree : TreeTold → Told

abbrev pub action_view : {A : Type 0} → Action A → Told
action_view (action.Dial place within) = Dials place within
action_view action.HangUp = HangsUp
action_view (action.Send bytes) = Says (turns.Send bytes.items)
action_view (action.Introduce credential) = Introduces credential.frame.items
action_view (action.Credential place code) = Judges place code
action_view (action.Answer ticket outcome) = Says (turns.Answer ticket (outcome_view outcome))
action_view (action.TimedOut ticket was_sent) = TimesOut ticket was_sent
action_view (action.Report path side event) = Says (turns.Report (string_bytes path) side event)
action_view (action.State state) = Says (turns.Enters state)
action_view (action.GivenUp fault) = Says (turns.Drop (fault_view fault))
action_view action.Renewed = Begins
action_view (action.Shown ticket) = Tells ticket news.Shown
action_view (action.Refused ticket why) = Tells ticket (news.Refused why)
action_view (action.Tree told) = TellsTree (tree_told told)

abbrev pub told_by : {A : Type 0} → List (Action A) → List Told
told_by actions = map action_view actions

abbrev pub news_told : (ℕ × News) → Told
news_told news = Tells news.0 news.1

-- what is told of an answer to a credential
abbrev pub judged_told : (ℕ × ℤ) → Told
judged_told judged = Judges judged.0 judged.1

abbrev pub due_told : Option DialDue → List Told
due_told None = []
due_told (Some (Dial place within)) = Dials place within ∷ []
due_told (Some GiveUp) = HangsUp ∷ []

-- What is told of a call that waits no more: its limit has come, or the session has expired, or it was lost with its connection.
abbrev pub ended_told : Ending → Ended → Told
ended_told (ending.Late now) one = TimesOut one.ticket one.was_sent
ended_told ending.Expired one = Says (turns.Answer one.ticket SessionExpired)
ended_told _ one = Says (turns.Answer one.ticket ConnectionLoss)

-- and after a close
abbrev pub closed_told : Ended → Told
closed_told one = Says (turns.Answer one.ticket SessionClosed)

-- what is told of trees
abbrev pub trees_in : List Told → List TreeTold
trees_in [] = []
trees_in (TellsTree one ∷ told) = one ∷ trees_in told
trees_in (_ ∷ told) = trees_in told

-- whether a call of this ticket is settled with that
abbrev pub is_end_of : (ticket : ℕ) → Told → Bool
is_end_of ticket (Says (turns.Answer its outcome)) = its == ticket
is_end_of ticket (TimesOut its was_sent) = its == ticket
is_end_of ticket _ = false
