-- A flag is used where its first row says `true`.
use Rattle.std.proofs.Common.{◌∙◌, ap}
use Rattle.shell_commands.specs.Asks.{is_used}
use Rattle.shell_commands.proofs.ask_words.flag.Goals as goal

pub returns-in-Some : goal.returns-in-Some
returns-in-Some c = c.eq.ensures ∙ ap is_used c.in-Some.ensures

pub returns-in-None : goal.returns-in-None
returns-in-None c = ap is_used c.in-None.ensures
