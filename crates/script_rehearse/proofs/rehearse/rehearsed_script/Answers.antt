-- The transcript is the one that `read_script` ensures of a new rehearsal, which is at the first position.
use Rattle.script_rehearse.specs.Scripts.{first_position}
use Rattle.script_rehearse.proofs.rehearse.rehearsed_script.Goals as goal

pub returns : goal.returns
returns g c = c.read_script-transcript.ensures first_position (c.new-rehearsal.ensures, tt)
