-- Actions as numbers, and the text that is read separately.
use Rattle.std.specs.Prelude.{ℕ, pos, List, [], length, string_bytes}
use Rattle.zk_records.specs.Events.{event_number}
use Rattle.zk_client.specs.FaultText.{fault_code}
use Rattle.zk_client.specs.Views.{fault_view}
use Rattle.zk_follow.specs.declared.progress.Refusal.{Refusal}
use Rattle.zk_follow.specs.declared.progress.Refusal.TheVariants as why
use Rattle.zk_trees.specs.declared.tree.TreeNews.{TreeNews}
use Rattle.zk_trees.specs.declared.tree.TreeNews.TheVariants as news
use Rattle.zk_agent.specs.declared.action.Action.{Action}
use Rattle.zk_agent.specs.declared.action.Action.TheVariants as action
use Rattle.ffi_device.specs.Flats.{fault_flat, outcome_flat, outcome_text, plain, side_number}
use Rattle.ffi_device.specs.Sessions.{state_number}
use Rattle.ffi_device.specs.declared.flat.Flat.{Flat}

-- why a read was refused
abbrev pub refusal_flat : Refusal → Flat
refusal_flat (why.Code code) = record (plain (pos 11) (pos 1)) { code = code }
refusal_flat why.TooManyWatches = plain (pos 11) (pos 2)
refusal_flat why.TooLarge = plain (pos 11) (pos 3)
refusal_flat why.SessionClosed = plain (pos 11) (pos 4)

-- News of a tree as numbers. If it is about a node, `ticket` is that of the node, and `names` that of the tree.
abbrev pub news_flat : {A : Type 0} → TreeNews A → Flat
news_flat (news.MemberAdded tree ticket side path) =
    record (plain (pos 12) (pos 0)) { ticket = ticket; names = tree; result = side_number side; length = length path }
news_flat (news.MemberRemoved tree ticket) = record (plain (pos 13) (pos 0)) { ticket = ticket; names = tree }
news_flat (news.Bounded tree is_bounded) = record (plain (pos 14) (pos 0)) { ticket = tree; is_null = is_bounded }
news_flat (news.Complete tree) = record (plain (pos 15) (pos 0)) { ticket = tree }

-- the text of what is told of a tree: the path of what is taken on, and else nothing
abbrev pub news_text : {A : Type 0} → TreeNews A → List ℕ
news_text (news.MemberAdded tree ticket side path) = path
news_text _ = []

-- An action as numbers. Those that a client says too have the numbers of its outputs.
abbrev pub action_flat : {A : Type 0} → Action A → Flat
action_flat (action.Send bytes) = record (plain (pos 1) (pos 0)) { length = length bytes.items }
action_flat (action.Introduce credential) = record (plain (pos 1) (pos 0)) { length = length credential.frame.items }
action_flat (action.Credential place code) = record (plain (pos 16) (pos 0)) { code = code; names = place }
action_flat (action.Answer ticket outcome) = record (outcome_flat outcome) { ticket = ticket }
action_flat (action.Report path side event) =
    record (plain (pos 3) (event_number event)) { result = side_number side; length = length (string_bytes path) }
action_flat (action.State state) = plain (pos 4) (pos (state_number state))
action_flat (action.GivenUp fault) = record (fault_flat fault) { length = length (fault_code (fault_view fault)) }
action_flat (action.Dial place within) = record (plain (pos 6) (pos 0)) { ticket = within; names = place }
action_flat action.HangUp = plain (pos 7) (pos 0)
action_flat (action.TimedOut ticket was_sent) = record (plain (pos 8) (pos 0)) { ticket = ticket; is_null = was_sent }
action_flat action.Renewed = plain (pos 9) (pos 0)
action_flat (action.Shown ticket) = record (plain (pos 10) (pos 0)) { ticket = ticket }
action_flat (action.Refused ticket why) = record (refusal_flat why) { ticket = ticket }
action_flat (action.Tree told) = news_flat told

-- the text of an action: a frame, data, a path or the code of a fault, and else nothing
abbrev pub action_text : {A : Type 0} → Action A → List ℕ
action_text (action.Send bytes) = bytes.items
action_text (action.Introduce credential) = credential.frame.items
action_text (action.Answer ticket outcome) = outcome_text outcome
action_text (action.Report path side event) = string_bytes path
action_text (action.GivenUp fault) = fault_code (fault_view fault)
action_text (action.Tree told) = news_text told
action_text _ = []
