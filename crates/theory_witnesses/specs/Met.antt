-- The client of the whole schedule, at its places.
use Rattle.std.specs.Prelude.{List}
use Rattle.zk_turns.specs.View.{View, view_at}
use Rattle.zk_turns.specs.Taken.{past_of}
use Rattle.zk_laws.specs.Served.{Entry, items_in}
use Rattle.theory_messages.specs.Meeting_example.{new_client}

-- what the client shows after these entries
abbrev pub shown_after : List Entry → View
shown_after entries = view_at new_client (past_of new_client (items_in entries))
