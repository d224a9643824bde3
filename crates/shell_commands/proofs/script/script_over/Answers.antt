-- Where memory runs out while the script is read, nothing is printed: of some input (`some_input`) no line is played (`unread`).
use Rattle.std.proofs.Common.{[], refl}
use Rattle.script_words.specs.Scripts.{lines_of}
use Rattle.script_words.specs.declared.script.ScriptEnd.TheVariants.{Memory}
use Rattle.shell_commands.proofs.ScriptLemmas.{appends_nothing, some_input}
use Rattle.shell_commands.proofs.script.script_over.Goals as goal

pub returns-in-Err-clause-memory : goal.returns-in-Err-clause-memory
returns-in-Err-clause-memory g c = λ _.
    let given = some_input (g.I.Read.remaining c.args.input.now) in
    (given.0, [], [], Memory, given.1, g.met.P.Plays.unread (lines_of given.0), refl, appends_nothing (g.O.Write.contents c.args.out.now))
