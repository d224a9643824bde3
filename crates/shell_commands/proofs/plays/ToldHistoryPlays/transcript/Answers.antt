-- The transcript of a history is what `read_script` ensures of a new story, at its first position.
use Rattle.script_story.specs.Stories.{first_position}
use Rattle.shell_commands.proofs.plays.ToldHistoryPlays.transcript.Goals as goal

pub returns : goal.returns
returns g c = c.read_script-transcript.ensures first_position c.new-story.ensures
