-- What contracts of private functions say: nobody has to believe it.
use Rattle.std.specs.Prelude.{◌≡◌, ◌⊎◌, ℕ, true, List, None}
use Rattle.std.specs.List.{count_by}
use Rattle.zk_turns.specs.View.{View}
use Rattle.zk_calls.specs.declared.entry.Entry.{Entry}
use Rattle.zk_calls.specs.Lines.{next_call, waits_turn}
use Rattle.zk_agent.specs.Calls.{IsPending, IsAway}

-- If a call counts as handed over, the client waits for its reply.
abbrev pub IsAsked : {A : Type 0} → View → Entry A → Type 0
IsAsked view entry = entry.is_sent ≡ true → IsPending view entry

-- how many wait for their turn
abbrev pub how_many_wait : {A : Type 0} → List (Entry A) → ℕ
how_many_wait entries = count_by waits_turn entries

-- No call waits for its turn, or none can be handed over.
abbrev pub IsDone : {A : Type 0} → View → List (Entry A) → Type 0
IsDone view entries = (next_call entries ≡ None) ⊎ IsAway view
