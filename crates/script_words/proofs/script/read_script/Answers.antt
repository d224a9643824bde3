-- Where memory ran out before a line was read, nothing was printed: `none_yet`, rewritten by what `nothing` ensures.
use Rattle.script_words.specs.Scripts.{lines_of}
use Rattle.script_words.proofs.ScriptLemmas.{none_yet}
use Rattle.script_words.proofs.script.read_script.Goals as goal

pub returns-in-Err : goal.returns-in-Err
returns-in-Err g c = λ first stands.
    rw (c.nothing.ensures.end, c.nothing.ensures.text) (none_yet g.R.LineReader.rules first (lines_of c.args.script.now))
