-- What contracts of private functions say of calls with a watch: nobody has to believe it.
use Rattle.std.specs.Prelude.{◌==◌, ◌&&◌, Bool, false, ℕ, List, is_some, bytes_eq}
use Rattle.std.specs.List.{list_any}
use Rattle.zk_nodes.specs.Path.{Text}
use Rattle.zk_conversation.specs.Questions.{question_of, watched_side}
use Rattle.zk_turns.specs.Turns.{Input}
use Rattle.zk_turns.specs.Turns as turns
use Rattle.zk_follow.specs.declared.subject.Subject.{Subject}

-- whether an input is a call that is to leave a watch
abbrev pub asks_to_watch : Input → Bool
asks_to_watch (turns.Call ticket call) = is_some (watched_side (question_of call))
asks_to_watch _ = false

-- whether one of these subjects has this ticket and this path
abbrev pub is_of : {A : Type 0} → List (Subject A) → (ticket : ℕ) → Text → Bool
is_of subjects ticket path = list_any (λ subject. ticket == subject.ticket && bytes_eq subject.path path) subjects
