-- What the reply to a close ends.
use Rattle.std.specs.Prelude.{◌≡◌, ℕ, ℤ, List, [], ◌∷◌, None, Ok}
use Rattle.zk_nodes.specs.Path.{Text}
use Rattle.zk_watches.specs.Lists.{no_lists}
use Rattle.zk_session.specs.declared.states.State.TheVariants.{Closed}
use Rattle.zk_conversation.specs.Questions.{Close}
use Rattle.zk_conversation.specs.Results.{Result, result_of}
use Rattle.zk_turns.specs.Turns.{Start, Item, Answer, Replied, Enters}
use Rattle.zk_turns.specs.Past.{Took, Replies}
use Rattle.zk_turns.specs.View.{View}
use Rattle.zk_turns.specs.Taken.{past_of}
use Rattle.zk_turns.specs.Meaning.{Among}
use Rattle.zk_turns.specs.Rule.{Stands, says}

-- what is left of a client whose session is closed
pub record IsClosed (view : View) : Type 0 where
  pub state : view.standing.state ≡ Closed
  pub lists : view.lists ≡ no_lists
  pub nodes : (path : Text) → view.cache.nodes path ≡ None
  pub children : (path : Text) → view.cache.children path ≡ None

abbrev pub CloseSays : Type 0
CloseSays = (ticket : ℕ) (zxid : ℤ) (result : Result) (view : View)
    → says view (Took (Replies ticket Close zxid result)) ≡ Answer ticket (Replied zxid result) ∷ Enters Closed ∷ []

-- Whatever the code is, the reply has a result.
abbrev pub CodeIsNoMatter : Type 0
CodeIsNoMatter = (err : ℤ) (end : ℕ) (bytes : List ℕ) → (result : Result) × (result_of Close err end bytes ≡ Ok result)

-- Once a reply to a close was taken, with whatever result, the client is closed and stays so.
abbrev pub CloseStays : Type 0
CloseStays = (start : Start) (items : List Item) (view : View) (ticket : ℕ) (zxid : ℤ) (result : Result) → Stands start items view
    → Among (Took (Replies ticket Close zxid result)) (past_of start items) → IsClosed view
