-- What an outside in memory tells.
use Rattle.std.specs.Prelude.{map, reverse}
use Rattle.std.specs.Option.{option_map}
use Rattle.zk_turns.specs.Turns.{Turn}
use Rattle.script_replay.specs.declared.recording.Recorded.{Recorded}
use Rattle.script_replay.specs.declared.recording.RecordedTurn.{RecordedTurn}
use Rattle.zk_client.specs.Outsides.{Told}
use Rattle.zk_client.specs.Views.{input_view, turn_of}

abbrev pub turn_view : {A : Type 0} → RecordedTurn A → Turn
turn_view turn = turn_of turn.input turn.outputs.items

abbrev pub told_of : {A : Type 0} → Recorded A → Told
told_of recorded = record {
  coming = reverse (map (λ copies. input_view copies.handed) recorded.coming.items);
  asked = option_map input_view recorded.asked;
  turns = reverse (map turn_view recorded.turns.items);
}
