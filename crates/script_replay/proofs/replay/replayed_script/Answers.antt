-- The transcript is the one that `read_script` ensures of a new player, which is at the first position.
use Rattle.script_replay.specs.Replays.{first_position}
use Rattle.script_replay.proofs.replay.replayed_script.Goals as goal

pub returns : goal.returns
returns g c = c.read_script-transcript.ensures first_position (c.new-player.ensures, tt)
