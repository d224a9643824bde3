-- What follows of what another session begins with.
use Rattle.std.specs.Prelude.{◌≤◌, ℕ, ℤ, List}
use Rattle.zk_nodes.specs.History.{History, IsHistory}
use Rattle.zk_conversation.specs.Questions.{Question}
use Rattle.zk_conversation.specs.Results.{Result}
use Rattle.zk_turns.specs.Turns.{Start, Item}
use Rattle.zk_turns.specs.View.{View}
use Rattle.zk_turns.specs.Past.{Took, Replies}
use Rattle.zk_turns.specs.Taken.{past_of}
use Rattle.zk_turns.specs.Rule.{Stands}
use Rattle.zk_turns.specs.Meaning.{Among}
use Rattle.zk_laws.specs.Messages.{from_zero}
use Rattle.zk_laws.specs.Served.{Served}

-- Under servers of a history each reply that is taken has a zxid of at least the one that a client began with.
abbrev pub AdmitsNothingOlder : Start → Type 0
AdmitsNothingOlder start = (h : History) → IsHistory h → (items : List Item) (view : View) → Stands start items view → Served h start items
    → (ticket : ℕ) (question : Question) (zxid : ℤ) (result : Result)
    → Among (Took (Replies ticket question zxid result)) (past_of start items)
    → from_zero start.last ≤ from_zero zxid
