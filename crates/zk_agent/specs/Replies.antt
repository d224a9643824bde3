-- What outputs say of a connection.
use Rattle.std.specs.Prelude.{ℤ, pos, negsuc, ◌==◌, ◌||◌, ◌&&◌, not, Bool, true, false, List}
use Rattle.std.specs.List.{list_any}
use Rattle.zk_conversation.specs.Results.{Refused}
use Rattle.zk_turns.specs.Turns.{Output, Answer, Replied, ConnectionLoss, NotConnected, TooManyPending, ends_connection}
use Rattle.zk_agent.specs.declared.replies.Heard.{Heard}
use Rattle.zk_agent.specs.Waits.{sent_in}

abbrev pub is_reply : Output → Bool
is_reply (Answer ticket (Replied zxid result)) = true
is_reply _ = false

-- Whether a server says with this code that the session is not its own: it has expired (-112), or is at another server (-118). negsuc n is
-- -(n + 1).
abbrev pub loses_session : (code : ℤ) → Bool
loses_session (pos n) = false
loses_session (negsuc n) = (n == 111) || (n == 117)

abbrev pub is_lost : Output → Bool
is_lost (Answer ticket (Replied zxid (Refused code))) = loses_session code
is_lost _ = false

-- whether the connection is over with an output
abbrev pub is_over : Output → Bool
is_over output = ends_connection output || is_lost output

-- A reply ends a row of failures, except if one says that the session is not the server's own.
abbrev pub ends_row : List Output → Bool
ends_row given = list_any is_reply given && not (list_any is_lost given)

-- an answer with which a call may wait for its turn again
abbrev pub is_back : Output → Bool
is_back (Answer ticket ConnectionLoss) = true
is_back (Answer ticket NotConnected) = true
is_back (Answer ticket TooManyPending) = true
is_back _ = false

-- what outputs say of all that
abbrev pub heard_in : List Output → Heard
heard_in given = record {
  ends_row = ends_row given;
  is_over = list_any is_over given;
  is_lost = list_any is_lost given;
  goes_back = list_any is_back given;
  sent = sent_in given;
}
