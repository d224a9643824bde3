-- A line that is not done is due to stop as its fault says: `due`, from what `read_line` ensures of a refused line.
use Rattle.script_story.specs.Stories.{position_of}
use Rattle.script_story.proofs.StoryLemmas.{due}
use Rattle.script_story.proofs.story.StoryLineReader.read.Goals as goal

pub returns-in-Err-clause-err : goal.returns-in-Err-clause-err
returns-in-Err-clause-err g c = λ old is.
    rw (c.from.ensures, ← is) (due c.args.line.now (position_of c.args.self.now) c.in-Err.fault c.in-Err.ensures.refused)
