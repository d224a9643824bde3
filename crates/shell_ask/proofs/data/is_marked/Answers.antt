-- The answer is the test of the bytes (`starts_text`).
use Rattle.std.proofs.lemmas.Str.Pattern.{starts_text}
use Rattle.shell_ask.specs.Printing.{hex_mark}
use Rattle.shell_ask.proofs.data.is_marked.Goals as goal

pub returns : goal.returns
returns c = starts_text c.starts_with.result hex_mark c.args.text.now c.starts_with.ensures.cases
