-- What a line does to a player follows its course: `followed`, from what `take_words` ensures of the words of the line.
use Rattle.std.proofs.Common.{IfOk, rules}
use Rattle.std.specs.Prelude.{string_bytes}
use Rattle.script_replay.specs.inner.Played.{view_of_player}
use Rattle.script_replay.specs.Played.{TakesLine}
use Rattle.script_replay.proofs.CourseLemmas.{followed}
use Rattle.script_replay.proofs.player.Player.read_line.Goals as goal

pub returns-clause-stands : goal.returns-clause-stands
returns-clause-stands g c =
    let old = view_of_player c.args.self.now in
    let new = view_of_player c.take_words.new.self in
    let takes : IfOk c.take_words.result (λ text. TakesLine c.args.line.now old new (string_bytes text)) = search rules in
    followed c.args.line.now old new c.take_words.result takes
