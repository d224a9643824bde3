-- What is to come is the inputs in their order, though they are kept back to front: `map_back`. There are no turns yet.
use Rattle.std.proofs.Common.{◌≡◌, map, reverse, List, ap, ◌∙◌, None}
use Rattle.zk_turns.specs.Turns.{Input, Turn}
use Rattle.zk_client.specs.Views.{input_view}
use Rattle.zk_client.specs.Outsides.{Told}
use Rattle.script_replay.specs.Records.{turn_view}
use Rattle.script_replay.proofs.Copying.{map_back}
use Rattle.script_replay.proofs.recording.Recorded.new.Goals as goal

abbrev fresh : List Input → List Turn → Told
fresh coming turns = record { coming = coming; asked = None; turns = turns }

alike : (a b : List Input) (s t : List Turn) → a ≡ b → s ≡ t → fresh a s ≡ fresh b t
alike a b s t e f = λ i. fresh (e i) (f i)

pub returns : goal.returns
returns g c =
    alike _ _ _ _ (map_back (λ copies. input_view copies.handed) c.in_ok-coming.coming.items c.reverse.new.self.items
    c.reverse.ensures.items ∙ c.in_ok-coming.ensures.inputs)
    (ap (λ l. reverse (map turn_view l)) c.in_ok-turns.ensures.items)
