-- What a call that reads a payload answers.
use Rattle.std.specs.Prelude.{◌≡◌, ◌≢◌, ℕ, List, Ok, Err}
use Rattle.std.specs.Prelude.{Result as Reading}
use Rattle.zk_conversation.specs.declared.arrival.Arrival.{Arrival}
use Rattle.zk_conversation.specs.declared.fault.TalkFault.{TalkFault}
use Rattle.zk_conversation.specs.declared.fault.TalkFault.TheVariants.{Memory}
use Rattle.zk_conversation.specs.Pending.{Talk}
use Rattle.zk_conversation.specs.Arriving.{arriving}
use Rattle.zk_conversation.specs.Arriving.{talk_after}
use Rattle.zk_conversation.specs.Views.{arrival_view}

-- What was answered to a payload, and the conversation after it: a fault leaves it as it was.
abbrev pub Answers : {A : Type 0} → (old : Talk) (payload : List ℕ) → Reading (Arrival A) TalkFault → (new : Talk) → Type 0
Answers old payload (Ok arrival) new =
    (arriving old.phase old.pending payload ≡ Ok (arrival_view arrival)) × (new ≡ talk_after (arrival_view arrival) old)
Answers old payload (Err fault) new = (fault ≢ Memory → arriving old.phase old.pending payload ≡ Err fault) × (new ≡ old)
