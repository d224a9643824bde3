-- How replies move the last seen zxid.
use Rattle.std.specs.Prelude.{◌≡◌, ◌≤ℤ◌, ℕ, ℤ, int_lt, true, false}
use Rattle.zk_conversation.specs.Questions.{Question}
use Rattle.zk_conversation.specs.Results.{Result}
use Rattle.zk_turns.specs.Turns.{Turn, Answer, Replied}
use Rattle.zk_turns.specs.Past.{Took, Replies}
use Rattle.zk_turns.specs.View.{View}
use Rattle.zk_turns.specs.Meaning.{Among}
use Rattle.zk_turns.specs.Rule.{Rule, next}

-- A reply that is later moves it, whatever was asked: a write's, a close's and one with an error too.
abbrev pub LaterMoves : Type 0
LaterMoves = (ticket : ℕ) (question : Question) (zxid : ℤ) (result : Result) (view : View) → int_lt view.saved.last zxid ≡ true
    → (next view (Took (Replies ticket question zxid result))).saved.last ≡ zxid

-- One that is not leaves it.
abbrev pub EarlierLeaves : Type 0
EarlierLeaves = (ticket : ℕ) (question : Question) (zxid : ℤ) (result : Result) (view : View) → int_lt view.saved.last zxid ≡ false
    → (next view (Took (Replies ticket question zxid result))).saved.last ≡ view.saved.last

-- No turn lowers it.
abbrev pub TurnsRaise : Type 0
TurnsRaise = (view after : View) (turn : Turn) → Rule view turn after → view.saved.last ≤ℤ after.saved.last

-- No reply that a turn tells a caller is ahead of what the client has seen after the turn.
abbrev pub RepliesAreSeen : Type 0
RepliesAreSeen = (ticket : ℕ) (zxid : ℤ) (result : Result) (view after : View) (turn : Turn) → Rule view turn after
    → Among (Answer ticket (Replied zxid result)) turn.outputs → zxid ≤ℤ after.saved.last
