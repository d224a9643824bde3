-- A line that says something is taken or refused as the history takes or refuses it: `taken` and `refused`, from what `perform` ensures.
use Rattle.std.proofs.Common.{◌≡◌}
use Rattle.std.specs.Prelude.{Ok, Some}
use Rattle.script_story.specs.inner.HistoryLines.{value_of}
use Rattle.script_words.specs.Pieces.{words_of}
use Rattle.script_story.specs.Stories.{said, position_of}
use Rattle.script_story.proofs.StoryLemmas.{taken, refused}
use Rattle.script_story.proofs.story.Story.read_line.Goals as goal

pub returns-in-Some-clause-ok : goal.returns-in-Some-clause-ok
returns-in-Some-clause-ok g c =
    let says : said (words_of c.args.line.now) c.args.self.now.begun c.args.self.now.asked ≡ Ok (Some (value_of c.in-Some.line)) =
    rw (← c.in_ok-words.ensures, ← c.as_slice.ensures.value) (rw c.in-Some.is at c.in_ok-line.ensures) in
    taken c.args.line.now (position_of c.args.self.now) (position_of c.perform.new.self)
    (value_of c.in-Some.line) c.perform.result says c.perform.ensures.ok

pub returns-in-Some-clause-refused : goal.returns-in-Some-clause-refused
returns-in-Some-clause-refused g c =
    let says : said (words_of c.args.line.now) c.args.self.now.begun c.args.self.now.asked ≡ Ok (Some (value_of c.in-Some.line)) =
    rw (← c.in_ok-words.ensures, ← c.as_slice.ensures.value) (rw c.in-Some.is at c.in_ok-line.ensures) in
    refused c.args.line.now (position_of c.args.self.now) (value_of c.in-Some.line) c.perform.result says c.perform.ensures.refused
